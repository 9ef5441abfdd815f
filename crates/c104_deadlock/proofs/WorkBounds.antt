-- Work by ranks that are higher is more, so all work has a bound; and work as it is summed up.
use Rattle.{c104_check.specs.{Walks.port_of, declared.ports.SwitchPort.SwitchPort}, c104_deadlock.specs.HeaderWork.{ahead_at, first_ahead}}
use Rattle.c104_deadlock.specs.{HeaderWork.{full_input, full_node, full_output, none_ahead, work_bound}, Work.{header_held, highest_rank}}
use Rattle.c104_deadlock.specs.Work.{level, most_weight, node_room, node_tokens, room_held, sum_at, tokens_held, told_work, weigh}
use Rattle.{c104_link.{proofs.MadeSteps.given, specs.Buffers.Outgoing}, c104_node.specs.{Nodes.Node, Traces.part}}
use Rattle.{c104_plan.specs.{Plans.Plan, declared.ports.Port.Port}, c104_switch.specs.{Phases.with_header, Rooms.room_left, Switch.Input}}
use Rattle.c104_switch.specs.{Switch.Switch, Views.{link_view, sides_view}, declared.{actions.LinkView.LinkView, phase.Phase.Phase}}
use Rattle.{c104_token.specs.Kinds.Kind, std.proofs.Common.{List, Option, Some, [], arith, length, map, refl, slice_get, subst, suc, sym}}
use Rattle.std.proofs.{Common.{take, zero, ℕ, ◌*◌, ◌+◌, ◌<◌, ◌∷◌, ◌≡◌, ◌≤◌}, Math.Nat.{add-mul, suc-mul, zero-mul}, lemmas.List.length-map}

module _ {X : Type 0} where
  pub weigh_more : (a b : ℕ) → a ≤ b → (xs : List X) → weigh a xs ≤ weigh b xs
  weigh_more a b less [] = omega arith
  weigh_more a b less (x ∷ xs) = let rest = weigh_more a b less xs in omega (arith, less, rest)

  pub sum_more : (f g : ℕ → X → ℕ) → ((j : ℕ) (x : X) → f j x ≤ g j x) → (j : ℕ) (xs : List X) → sum_at f j xs ≤ sum_at g j xs
  sum_more f g less j [] = omega arith
  sum_more f g less j (x ∷ xs) = let rest = sum_more f g less (suc j) xs in let here = less j x in omega (arith, here, rest)

  -- as much for each
  pub weigh_is : (a : ℕ) (xs : List X) → length xs * a ≡ weigh a xs
  weigh_is a [] = zero-mul a
  weigh_is a (x ∷ xs) = let rest = weigh_is a xs in let step = suc-mul (length xs) a in omega (arith, rest, step)

  -- the sum over one more
  pub sum_next : (f : ℕ → X → ℕ) (j i : ℕ) (xs : List X) → sum_at f j (take (suc i) xs) ≡ sum_at f j (take i xs) + part 0 (f (j + i)) (slice_get xs i)
  sum_next f j i [] = none i
    where
      none : (i : ℕ) → sum_at f j (take (suc i) []) ≡ sum_at f j (take i []) + part 0 (f (j + i)) (slice_get [] i)
      none zero = refl
      none (suc i) = refl
  sum_next f j zero (x ∷ xs) = let same : j + zero ≡ j = omega arith in subst (λ k. f j x + 0 ≡ 0 + f k x) (sym same) (omega arith)
  sum_next f j (suc i) (x ∷ xs) = search (arith, sum_next f (suc j) i xs)

module _ (plan : Plan) (rank high : SwitchPort → ℕ) (less : (p : SwitchPort) → rank p ≤ high p) where
  pub level_more : (q : Option Port) → level plan rank q ≤ level plan high q
  level_more q = search arith

-- where nothing is counted in advance

module _ (plan : Plan) (rank : SwitchPort → ℕ) where
  none_at : (q : Option Port) → ahead_at plan rank none_ahead q ≡ 0
  none_at q = search arith

  module _ {A : Type 0} where
    none_first : (ph : Phase (List A)) → first_ahead plan rank none_ahead 0 ph ≡ 0
    none_first ph = search arith

    pub plain_input : (s l : ℕ) (p : Input A) → (weigh (8 * (rank (port_of s l) + 1) + 2) p.buffer.items + room_left p.buffer) + weigh (8 * (rank (port_of s l) + 1)) (header_held p.phase) ≡ full_input plan rank none_ahead s l p
    plain_input s l p = grind arith

    pub plain_output : (q : Option Port) (out : Outgoing A) → weigh (8 * level plan rank q + 4) out.items ≡ full_output plan rank none_ahead (level plan rank q) (ahead_at plan rank none_ahead q) out
    plain_output q out = grind arith

-- the bound by tokens and room alone
module _ (most : ℕ) where
  weigh_most : {X : Type 0} (a : ℕ) → a ≤ most → (xs : List X) → weigh a xs ≤ length xs * most
  weigh_most a less xs = let more = weigh_more a most less xs in let same = weigh_is most xs in omega (arith, more, same)

  sum_most : {X : Type 0} (f t r : ℕ → X → ℕ) → ((j : ℕ) (x : X) → f j x ≤ t j x * most + r j x) → (j : ℕ) (xs : List X) → sum_at f j xs ≤ sum_at t j xs * most + sum_at r j xs
  sum_most f t r less j [] = let none = zero-mul most in omega (arith, none)
  sum_most f t r less j (x ∷ xs) =
      let rest = sum_most f t r less (suc j) xs in
      let here = less j x in
      let both = add-mul (t j x) (sum_at t (suc j) xs) most in
      omega (arith, here, rest, both)

  -- the same where no room counts
  sum_only : {X : Type 0} (f t : ℕ → X → ℕ) → ((j : ℕ) (x : X) → f j x ≤ t j x * most) → (j : ℕ) (xs : List X) → sum_at f j xs ≤ sum_at t j xs * most
  sum_only f t less j [] = let none = zero-mul most in omega (arith, none)
  sum_only f t less j (x ∷ xs) =
      let rest = sum_only f t less (suc j) xs in
      let here = less j x in
      let both = add-mul (t j x) (sum_at t (suc j) xs) most in
      omega (arith, here, rest, both)

module _ (plan : Plan) where
  level_most : (q : Option Port) → level plan (highest_rank plan) q ≤ 32 * length plan.switches + 1
  level_most q = search arith

  abbrev top : ℕ
  top = most_weight plan

  module _ {A : Type 0} where
    input_most : (s l : ℕ) (p : Input A) → full_input plan (highest_rank plan) none_ahead s l p ≤ (length p.buffer.items + length (header_held p.phase)) * most_weight plan + room_left p.buffer
    input_most s l p = search (arith, level_most, weigh_most, add-mul, plain_input)

    output_most : (q : Option Port) (out : Outgoing A) → full_output plan (highest_rank plan) none_ahead (level plan (highest_rank plan) q) (ahead_at plan (highest_rank plan) none_ahead q) out ≤ length out.items * most_weight plan
    output_most q out = search (arith, level_most, none_at, weigh_most)

    node_most : (k : ℕ) (n : Node A) → full_node plan (highest_rank plan) none_ahead k n ≤ node_tokens n * most_weight plan + node_room n
    node_most k n = search (arith, sum_most, input_most, sum_only, output_most, add-mul, weigh_most)

    pub bound_by_tokens : (nodes : List (Node A)) → work_bound plan nodes ≤ tokens_held nodes * most_weight plan + room_held nodes
    bound_by_tokens nodes = sum_most top (full_node plan (highest_rank plan) none_ahead) (λ k n. node_tokens n) (λ k n. node_room n) node_most 0 nodes

-- the length of a header is seen
pub held_length : {A B : Type 0} (f : A → B) (phase : Phase (List A)) → length (header_held (with_header (map f) phase)) ≡ length (header_held phase)
held_length f phase = search (arith, length-map)

module _ {X : Type 0} where
  -- one element more of a list
  pub one_next : (f : ℕ → X → ℕ) (xs : List X) (i : ℕ) (x : X) (sum one next : ℕ) → slice_get xs i ≡ Some x → sum ≡ told_work (sum_at f 0 (take i xs)) → one ≡ told_work (f i x) → next ≡ told_work (sum + one) → next ≡ told_work (sum_at f 0 (take (i + 1) xs))
  one_next f xs i x sum one next here so_far this is = search (arith, sum_next)

module _ {X Y : Type 0} where
  -- and of two at a time
  pub both_next : (f : ℕ → X → ℕ) (h : ℕ → Y → ℕ) (xs : List X) (ys : List Y) (i sum one next : ℕ) → sum ≡ told_work (sum_at f 0 (take i xs) + sum_at h 0 (take i ys)) → one ≡ told_work (part 0 (f i) (slice_get xs i) + part 0 (h i) (slice_get ys i)) → next ≡ told_work (sum + one) → next ≡ told_work (sum_at f 0 (take (i + 1) xs) + sum_at h 0 (take (i + 1) ys))
  both_next f h xs ys i sum one next so_far this is = search (arith, sum_next)

-- what comes in, a header, and what goes out, as they are added
pub incoming_told : (a b w x : ℕ) → w ≡ told_work a → x ≡ told_work (w + b) → x ≡ told_work (a + b)
incoming_told a b w x is sum = omega (arith, is, sum)

pub added_told : (a b w x y : ℕ) → w ≡ told_work a → x ≡ told_work b → y ≡ told_work (w + x) → y ≡ told_work (a + b)
added_told a b w x y first second sum = omega (arith, first, second, sum)

-- the two sides of a link, as they are seen
pub view_parts : {A : Type 0} (kind : Kind A) (S : Switch A) (l : ℕ) (v : LinkView) → link_view kind S l ≡ Some v → (p : Input A) × (q : Outgoing A) × (slice_get S.inputs l ≡ Some p) × (slice_get S.outputs l ≡ Some q) × (sides_view kind S.inputs l p q ≡ v)
view_parts kind S l v is = given (slice_get S.inputs l) _ v is (λ p ep e1. given (slice_get S.outputs l) _ v e1 (λ q eq e2. (p, q, ep, eq, (let same : sides_view kind S.inputs l p q ≡ v = cc in same))))

-- told in full where it is below a number that is told
pub told_below : (n m : ℕ) → told_work n < m → m ≤ 18446744073709551615 → n < m
told_below n m below within = omega (arith, below, within)
