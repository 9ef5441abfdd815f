-- What is noted of switches: that it holds on from one to the next, and that what isn't noted does nothing.
use Rattle.{c104_link.specs.Steps.step_at, c104_node.specs.{Acts.{node_act, nodes_act}, Nodes.{Node, node_claim}}}
use Rattle.{c104_node.specs.declared.{acts.ActOf.ActOf, ends.End.End}, c104_plan.specs.{Plans.Plan, declared.ports.Port.Port}}
use Rattle.c104_run.specs.{FarEnds.far_end, LivePlaces.is_live, Network.terminal_place, NotedSwitches.{AreSo, IsSoAt, LeavesEnds}}
use Rattle.{c104_run.specs.NotedSwitches.{LeavesOthers, LeavesUnnoted}, c104_token.specs.Kinds.Kind, std.proofs.Common.{Bool, List, None}}
use Rattle.std.proofs.Common.{Option, Some, arith, false, is_some, length, slice_get, sym, true, ℕ, ◌+◌, ◌<◌, ◌∙◌, ◌≡◌, ◌≢◌, ◌≤◌}
use Rattle.std.proofs.lemmas.Bool.{cases_eq, cases_lt}

module _ {A : Type 0} (nodes : List (Node A)) (k : ℕ) (n : Node A) (here : slice_get nodes k ≡ Some n) where
  -- a node claims what is claimed at its place, and is ready for what its place is
  pub claimed_here : (i o : ℕ) → step_at nodes k (node_claim i o) ≡ None → node_claim i o n ≡ None
  claimed_here i o none = search arith

  pub ready_here : (kind : Kind A) (a : ActOf A) → is_some (nodes_act kind nodes k 0 a) ≡ false → is_some (node_act kind 0 a n) ≡ false
  ready_here kind a none = search arith

module _ {A : Type 0} (so : ℕ → Node A → Type 0) (blocks : List ℕ) where
  pub nothing_noted : (nodes : List (Node A)) → AreSo so blocks nodes 0 0
  nothing_noted nodes = record { each = λ j from below. absurd (let no : ⊥ = omega (arith, below) in no) }

  -- a set of all says nothing
  pub all_noted : (nodes : List (Node A)) (from below : ℕ) → ((k : ℕ) → is_live blocks k ≡ true) → AreSo so blocks nodes from below
  all_noted nodes from below all = record { each = λ j above under none. absurd (let both : true ≡ false = sym (all j) ∙ none in cc) }

  -- the last ones of a walk are passed over
  pub noted_rest : (nodes : List (Node A)) (i n : ℕ) → AreSo so blocks nodes 0 i → ((j : ℕ) → i ≤ j → j < n → (m : Node A) → slice_get nodes j ≡ Some m → so j m) → AreSo so blocks nodes 0 n
  noted_rest nodes i n was passed = search (arith, cases_lt)

  pub noted_stays : (olds news : List (Node A)) (n : ℕ) → ((j : ℕ) → j < n → slice_get news j ≡ slice_get olds j) → AreSo so blocks olds 0 n → AreSo so blocks news 0 n
  noted_stays olds news n stay was = record { each = λ j from below none m here. was.each j from below none m (sym (stay j below) ∙ here) }

module _ {A : Type 0} (so : ℕ → Node A → Type 0) (blocks more : List ℕ) (olds news : List (Node A)) where
  -- at a place that stays
  stays_so : (j : ℕ) → (is_live more j ≡ false → is_live blocks j ≡ false) → slice_get news j ≡ slice_get olds j → IsSoAt so blocks olds j → IsSoAt so more news j
  stays_so j less same was = λ none n here. was (less none) n (sym same ∙ here)

  module _ (k : ℕ) (left : LeavesOthers k olds news) (others : (j : ℕ) → j ≢ k → is_live more j ≡ is_live blocks j) where
    -- a walk that has noted those below i passes over some that are so, and notes the next
    pub noted_next : (i : ℕ) → AreSo so blocks olds 0 i → ((j : ℕ) → i ≤ j → j < k → (n : Node A) → slice_get olds j ≡ Some n → so j n) → IsSoAt so more news k → AreSo so more news 0 (k + 1)
    noted_next i was passed now = search (arith, cases_eq, stays_so, cases_lt)

    -- a place that is in the set says nothing, and no other changes
    pub noted_there : (n : ℕ) → is_live more k ≡ true → AreSo so blocks olds 0 n → AreSo so more news 0 n
    noted_there n here was = search (arith, cases_eq, stays_so)

  -- behind a place that was walked
  pub noted_behind : (k from below : ℕ) → from ≤ k → LeavesUnnoted k blocks olds more news → AreSo so blocks olds from below → AreSo so more news (k + 1) below
  noted_behind k from below past left was = search (arith, stays_so)

-- what leaves the nodes at all other places goes on doing so
module _ {A : Type 0} {k : ℕ} where
  pub others_on : {olds mids news : List (Node A)} → LeavesOthers k olds mids → LeavesOthers k mids news → LeavesOthers k olds news
  others_on first next = record { stay = λ j other. next.stay j other ∙ first.stay j other }

  pub unnoted_on : {blocks more most : List ℕ} {olds mids news : List (Node A)} → LeavesUnnoted k blocks olds more mids → LeavesUnnoted k more mids most news → LeavesUnnoted k blocks olds most news
  unnoted_on first next = record { stay = λ j other none. let then = next.stay j other none in let was = first.stay j other then.0 in (was.0, then.1 ∙ was.1) }

-- what happens at a terminal leaves the switches
pub stay_on : {A : Type 0} (plan now : Plan) (t : ℕ) (olds mids news : List (Node A)) → now ≡ plan → LeavesOthers (terminal_place now t) mids news →
    ((j : ℕ) → j < length plan.switches → slice_get mids j ≡ slice_get olds j) → (j : ℕ) → j < length plan.switches → slice_get news j ≡ slice_get olds j
stay_on plan now t olds mids news same left was j below = search arith

-- a wire has one far end
pub one_far : (found : Option End) (a b : End) → found ≡ Some a → found ≡ Some b → a.node ≡ b.node
one_far found a b here there = let both : Some a ≡ Some b = sym here ∙ there in cc

-- nothing is known of the far end of a grant
pub ends_noted : {A : Type 0} (plan : Plan) (s l : ℕ) (blocks more : List ℕ) (olds news : List (Node A)) (far : End) → far_end plan (Port.Switch s l) ≡ Some far → LeavesEnds plan (Port.Switch s l) olds news →
    is_live more far.node ≡ true → ((j : ℕ) → j ≢ far.node → is_live more j ≡ is_live blocks j) → LeavesUnnoted s blocks olds more news
ends_noted plan s l blocks more olds news far is left here others = search arith

-- where something was found the place was put into the set
pub not_noted : (found : Option ℕ) (is here : Bool) → is ≡ is_some found → (is ≡ true → here ≡ true) → here ≡ false → found ≡ None
not_noted found is here told put none = search arith
