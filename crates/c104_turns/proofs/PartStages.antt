-- The events of each stage of a part, and the numbers of those that may begin at its node.
use Rattle.{c104_crossbar.specs.Groups.has_bit, c104_event.specs.declared.events.Event.Event, c104_node.specs.{Acts.node_act, Nodes.Node}}
use Rattle.c104_node.specs.{Nodes.is_switch, PortParts.may_act, Terminals.{Terminal, terminal_credit_out, terminal_drain, terminal_leave}}
use Rattle.c104_node.specs.declared.{acts.ActOf.ActOf, node.NodeOf.NodeOf, port_part.PortPart.TheVariants.{Credit, Cross, Turn}}
use Rattle.{c104_plan.specs.{Plans.Plan, declared.ports.Port.Port}, c104_run.{proofs.RoundLists.links_passed, specs.NetParts.node_count}}
use Rattle.{c104_run.specs.Rounds.{link_numbers, switch_claims}, c104_token.specs.Kinds.Kind, c104_turns.proofs.PartNumbers.numbers_agree}
use Rattle.c104_turns.proofs.{PartNumbers.{numbers_append, numbers_map}, PartShapes.{IsSwitchPart, IsTerminalPart, credit_at, cross_at}}
use Rattle.c104_turns.proofs.PartShapes.{of_switch, of_terminal, size_of, switch_list, switch_part, terminal_list, terminal_part, turn_of}
use Rattle.c104_turns.specs.{Parts.{IsOfKind, links_in, may_begin, numbers_in, ready_numbers, stage_events}, Working.{IsPartOf, IsSomePart}}
use Rattle.{c104_turns.specs.{Working.PartView, declared.parts.Stage.Stage}, std.proofs.Common.{Bool, Err, List, Ok, OnOk, Result, [], ap}}
use Rattle.std.proofs.Common.{append-nil, append_assoc, arith, drop, false, filter, if◌then◌else◌, is_some, length, map, nat_lt, refl}
use Rattle.std.proofs.{Common.{subst, sym, take, true, ℕ, ◌++◌, ◌+◌, ◌-◌, ◌/◌, ◌<◌, ◌∙◌, ◌∷◌, ◌≡◌}, lemmas.List.{drop_at, length-map}}
use Rattle.std.{proofs.lemmas.List.take_at, specs.List.range_with_len}

-- what holds where something was done
pub on_ok : {X E P Q : Type 0} (r : Result X E) → (P → Q) → OnOk r P → OnOk r Q
on_ok (Ok x) f is = f is
on_ok (Err e) f is = tt

-- some of a list between others
stage_is : (es pre own rest : List Event) (first end : ℕ) → es ≡ pre ++ (own ++ rest) → first ≡ length pre → end ≡ length pre + length own → take (end - first) (drop first es) ≡ own
stage_is es pre own rest first end is from to =
    let size : length own ≡ end - first = omega (arith, from, to) in
    ap (λ (xs : List Event). take (end - first) (drop first xs)) is
    ∙ ap (take (end - first)) (drop_at pre (own ++ rest) first (sym from))
    ∙ take_at own rest (end - first) size

two_first : (xs ys zs : List Event) → xs ++ (ys ++ zs) ≡ (xs ++ ys) ++ zs
two_first xs ys zs = search (arith, append_assoc)

three_first : (xs ys zs ws : List Event) → xs ++ (ys ++ (zs ++ ws)) ≡ (xs ++ (ys ++ zs)) ++ (ws ++ [])
three_first xs ys zs ws = search (arith, append_assoc, append-nil)

-- two steps of a list that grows
two_steps : (old more last mid now : List ℕ) → mid ≡ old ++ more → now ≡ mid ++ last → now ≡ old ++ (more ++ last)
two_steps old more last mid now first second = search (arith, append_assoc)

-- tests that say the same of the links
links_agree : (q r t : ℕ → Bool) (k : ℕ) → ((l : ℕ) → l < 32 → q l ≡ r l) → numbers_in q k (filter t link_numbers) ≡ numbers_in r k (filter t link_numbers)
links_agree q r t k same =
    let all : range_with_len 0 32 ≡ link_numbers = links_passed 32 refl in
    ap (λ (ns : List ℕ). numbers_in q k (filter t ns)) (sym all) ∙ numbers_agree q r t k 0 32 same ∙ ap (λ (ns : List ℕ). numbers_in r k (filter t ns)) all

module _ {A : Type 0} (kind : Kind A) (n : Node A) (p : PartView) (shape : IsSwitchPart p) where
  abbrev links : List ℕ
  links = links_in p.wired

  abbrev credits : List Event
  credits = map (credit_at p.node) links

  abbrev crosses : List Event
  crosses = map (cross_at p.node) links

  abbrev turns : List Event
  turns = map (turn_of p.node) links

  abbrev claims : List Event
  claims = switch_claims p.node

  crossing_events : stage_events p Stage.Crossings ≡ credits ++ crosses
  crossing_events =
      let size = size_of (credit_at p.node) links crosses in
      let last = length-map links (cross_at p.node) in
      stage_is p.events [] (credits ++ crosses) (turns ++ claims) 0 p.turns (shape.events ∙ two_first credits crosses (turns ++ claims)) refl (omega (arith, size, last, shape.turns))

  turn_events : stage_events p Stage.Turns ≡ turns
  turn_events =
      let size = size_of (credit_at p.node) links crosses in
      let next = length-map links (cross_at p.node) in
      let last = length-map links (turn_of p.node) in
      stage_is p.events (credits ++ crosses) turns claims p.turns p.claims (shape.events ∙ two_first credits crosses (turns ++ claims)) (omega (arith, size, next, shape.turns)) (omega (arith, size, next, last, shape.claims))

  claim_events : stage_events p Stage.Claims ≡ claims
  claim_events =
      let size = size_of (credit_at p.node) links (crosses ++ turns) in
      let next = size_of (cross_at p.node) links turns in
      let last = length-map links (turn_of p.node) in
      let whole = ap length shape.events ∙ size_of (credit_at p.node) links (crosses ++ (turns ++ claims)) in
      let whole_next = size_of (cross_at p.node) links (turns ++ claims) in
      let whole_last = size_of (turn_of p.node) links claims in
      stage_is p.events (credits ++ (crosses ++ turns)) claims [] p.claims (length p.events) (shape.events ∙ three_first credits crosses turns claims) (omega (arith, size, next, last, shape.claims))
      (omega (arith, size, next, last, whole, whole_next, whole_last))

  -- the events of a kind at the links, by a set of those at which the node may begin
  made_as : (f : ℕ → Event) (set : ℕ) → ((l : ℕ) → l < 32 → has_bit set l ≡ may_begin kind n (f l)) → (k : ℕ) → numbers_in (may_begin kind n) k (map f links) ≡ numbers_in (has_bit set) k links
  made_as f set agree k = numbers_map (may_begin kind n) f k links ∙ sym (links_agree (has_bit set) (λ l. may_begin kind n (f l)) (has_bit p.wired) k agree)

  pub crossings_ready : (granting leaving : ℕ) → ((l : ℕ) → l < 32 → has_bit granting l ≡ may_act kind Credit l n) → ((l : ℕ) → l < 32 → has_bit leaving l ≡ may_act kind Cross l n) → (old mid now : List ℕ) →
      mid ≡ old ++ numbers_in (has_bit granting) 0 links → now ≡ mid ++ numbers_in (has_bit leaving) (p.turns / 2) links → now ≡ old ++ ready_numbers kind n p Stage.Crossings
  crossings_ready granting leaving grants leaves old mid now first second =
      let half : p.turns / 2 ≡ 0 + length credits = let size = length-map links (credit_at p.node) in omega (arith, shape.turns, size) in
      let all : ready_numbers kind n p Stage.Crossings ≡ numbers_in (has_bit granting) 0 links ++ numbers_in (has_bit leaving) (p.turns / 2) links =
      ap (numbers_in (may_begin kind n) 0) crossing_events
      ∙ numbers_append (may_begin kind n) 0 credits crosses
      ∙ ap (λ (ns : List ℕ). ns ++ numbers_in (may_begin kind n) (0 + length credits) crosses) (made_as (credit_at p.node) granting grants 0)
      ∙ ap (λ (k : ℕ). numbers_in (has_bit granting) 0 links ++ numbers_in (may_begin kind n) k crosses) (sym half)
      ∙ ap (λ (ns : List ℕ). numbers_in (has_bit granting) 0 links ++ ns) (made_as (cross_at p.node) leaving leaves (p.turns / 2)) in
      two_steps old (numbers_in (has_bit granting) 0 links) (numbers_in (has_bit leaving) (p.turns / 2) links) mid now first second ∙ ap (λ (ns : List ℕ). old ++ ns) (sym all)

  pub turns_ready : (turning : ℕ) → ((l : ℕ) → l < 32 → has_bit turning l ≡ may_act kind Turn l n) → (old now : List ℕ) → now ≡ old ++ numbers_in (has_bit turning) p.turns links → now ≡ old ++ ready_numbers kind n p Stage.Turns
  turns_ready turning may old now grown =
      let all : ready_numbers kind n p Stage.Turns ≡ numbers_in (has_bit turning) p.turns links = ap (numbers_in (may_begin kind n) p.turns) turn_events ∙ made_as (turn_of p.node) turning may p.turns in
      grown ∙ ap (λ (ns : List ℕ). old ++ ns) (sym all)

  pub claims_ready : (old now : List ℕ) → now ≡ old ++ numbers_in (may_begin kind n) p.claims claims → now ≡ old ++ ready_numbers kind n p Stage.Claims
  claims_ready old now grown =
      let all : ready_numbers kind n p Stage.Claims ≡ numbers_in (may_begin kind n) p.claims claims = ap (numbers_in (may_begin kind n) p.claims) claim_events in
      grown ∙ ap (λ (ns : List ℕ). old ++ ns) (sym all)

-- the same of a terminal
module _ {A : Type 0} (kind : Kind A) (t : Terminal A) (p : PartView) (shape : IsTerminalPart p) where
  abbrev own : Event → Bool
  own = may_begin kind (NodeOf.Terminal t)

  grants_as : is_some (node_act kind 0 ActOf.CreditOut (NodeOf.Terminal t)) ≡ is_some (terminal_credit_out t)
  grants_as = search arith

  leaves_as : is_some (node_act kind 0 ActOf.Leave (NodeOf.Terminal t)) ≡ is_some (terminal_leave t)
  leaves_as = search arith

  drains_as : is_some (node_act kind 0 ActOf.Drain (NodeOf.Terminal t)) ≡ is_some (terminal_drain t)
  drains_as = search arith

  -- the numbers of a stage, by where it begins and ends
  abbrev between : ℕ → ℕ → List Event → List ℕ
  between first end es = numbers_in own first (take (end - first) (drop first es))

  one : (b c : Bool) (k : ℕ) → b ≡ c → (if b then k ∷ [] else []) ≡ numbers_in (λ (d : Bool). d) k (c ∷ [])
  one b c k is = ap (λ (d : Bool). if d then k ∷ [] else []) is

  two : (b c d e : Bool) → b ≡ d → c ≡ e → (if b then 0 ∷ (if c then 1 ∷ [] else []) else (if c then 1 ∷ [] else [])) ≡ numbers_in (λ (f : Bool). f) 0 (d ∷ []) ++ numbers_in (λ (f : Bool). f) 1 (e ∷ [])
  two b c true e first second = ap (λ (f : Bool). if f then 0 ∷ (if c then 1 ∷ [] else []) else (if c then 1 ∷ [] else [])) first ∙ ap (λ (f : Bool). 0 ∷ (if f then 1 ∷ [] else [])) second
  two b c false e first second = ap (λ (f : Bool). if f then 0 ∷ (if c then 1 ∷ [] else []) else (if c then 1 ∷ [] else [])) first ∙ ap (λ (f : Bool). if f then 1 ∷ [] else []) second

  pub terminal_crossings : 0 < p.turns → (old mid now : List ℕ) → mid ≡ old ++ numbers_in (λ (b : Bool). b) 0 (is_some (terminal_credit_out t) ∷ []) → now ≡ mid ++ numbers_in (λ (b : Bool). b) 1 (is_some (terminal_leave t) ∷ []) →
      now ≡ old ++ ready_numbers kind (NodeOf.Terminal t) p Stage.Crossings
  terminal_crossings some old mid now first second = by_wire shape.wired shape.turns shape.events
    where
      by_wire : (b : Bool) → p.turns ≡ (if b then 2 else 0) → p.events ≡ terminal_list shape.number b → now ≡ old ++ ready_numbers kind (NodeOf.Terminal t) p Stage.Crossings
      by_wire true is events =
          let all : ready_numbers kind (NodeOf.Terminal t) p Stage.Crossings ≡ numbers_in (λ (b : Bool). b) 0 (is_some (terminal_credit_out t) ∷ []) ++ numbers_in (λ (b : Bool). b) 1 (is_some (terminal_leave t) ∷ []) =
          ap (λ (k : ℕ). between 0 k p.events) is ∙ ap (between 0 2) events ∙ two _ _ _ _ grants_as leaves_as in
          two_steps old (numbers_in (λ (b : Bool). b) 0 (is_some (terminal_credit_out t) ∷ [])) (numbers_in (λ (b : Bool). b) 1 (is_some (terminal_leave t) ∷ [])) mid now first second ∙ ap (λ (ns : List ℕ). old ++ ns) (sym all)
      by_wire false is events = absurd (omega (arith, is, some))

  pub terminal_none : p.turns ≡ 0 → (old : List ℕ) → old ≡ old ++ ready_numbers kind (NodeOf.Terminal t) p Stage.Crossings
  terminal_none is old =
      let none : ready_numbers kind (NodeOf.Terminal t) p Stage.Crossings ≡ [] = ap (λ (k : ℕ). between 0 k p.events) is in
      search (arith, append-nil, none)

  pub terminal_turns : (old now : List ℕ) → now ≡ old ++ numbers_in (λ (b : Bool). b) p.turns (is_some (terminal_drain t) ∷ []) → now ≡ old ++ ready_numbers kind (NodeOf.Terminal t) p Stage.Turns
  terminal_turns old now grown = grown ∙ ap (λ (ns : List ℕ). old ++ ns) (sym (by_wire shape.wired shape.turns shape.claims shape.events))
    where
      by_wire : (b : Bool) → p.turns ≡ (if b then 2 else 0) → p.claims ≡ (if b then 3 else 1) → p.events ≡ terminal_list shape.number b →
          ready_numbers kind (NodeOf.Terminal t) p Stage.Turns ≡ numbers_in (λ (c : Bool). c) p.turns (is_some (terminal_drain t) ∷ [])
      by_wire true first end events =
          ap (λ (k : ℕ). between p.turns k p.events) end ∙ ap (between p.turns 3) events ∙ ap (λ (k : ℕ). between k 3 (terminal_list shape.number true)) first
          ∙ one _ _ 2 drains_as ∙ ap (λ (k : ℕ). numbers_in (λ (c : Bool). c) k (is_some (terminal_drain t) ∷ [])) (sym first)
      by_wire false first end events =
          ap (λ (k : ℕ). between p.turns k p.events) end ∙ ap (between p.turns 1) events ∙ ap (λ (k : ℕ). between k 1 (terminal_list shape.number false)) first
          ∙ one _ _ 0 drains_as ∙ ap (λ (k : ℕ). numbers_in (λ (c : Bool). c) k (is_some (terminal_drain t) ∷ [])) (sym first)

-- what a call leaves, by the part that is seen
module _ {A : Type 0} (kind : Kind A) (p : PartView) (some : IsSomePart p) {X E : Type 0} (r : Result X E) (stage : Stage) (old now : List ℕ) where
  abbrev pub Lists : Node A → Type 0
  Lists n = OnOk r (now ≡ old ++ ready_numbers kind n p stage)

  at_stage : (n : Node A) (s : Stage) → stage ≡ s → OnOk r (now ≡ old ++ ready_numbers kind n p s) → Lists n
  at_stage n s is lists = subst (λ (z : Stage). OnOk r (now ≡ old ++ ready_numbers kind n p z)) (sym is) lists

  module _ (n : Node A) (switch : is_switch n ≡ true) (fits : IsOfKind p n) where
    shape_of : IsSwitchPart p
    shape_of = switch_part p some (more_of n switch fits)
      where
        more_of : (m : Node A) → is_switch m ≡ true → IsOfKind p m → p.claims < length p.events
        more_of (NodeOf.Switch s) is more = more
        more_of (NodeOf.Terminal t) is all = absurd (cc)

    pub crossings_done : stage ≡ Stage.Crossings → (turns granting leaving : ℕ) → turns ≡ p.turns → ((l : ℕ) → l < 32 → has_bit granting l ≡ may_act kind Credit l n) → ((l : ℕ) → l < 32 → has_bit leaving l ≡ may_act kind Cross l n) → (mid : List ℕ) →
        mid ≡ old ++ numbers_in (has_bit granting) 0 (links_in p.wired) → OnOk r (now ≡ mid ++ numbers_in (has_bit leaving) (turns / 2) (links_in p.wired)) → Lists n
    crossings_done is turns granting leaving same grants leaves mid first second =
        at_stage n Stage.Crossings is (on_ok r (λ (grown : now ≡ mid ++ numbers_in (has_bit leaving) (turns / 2) (links_in p.wired)). crossings_ready kind n p shape_of granting leaving grants leaves old mid now first
        (grown ∙ ap (λ (k : ℕ). mid ++ numbers_in (has_bit leaving) (k / 2) (links_in p.wired)) same)) second)

    pub turns_done : stage ≡ Stage.Turns → (turns turning : ℕ) → turns ≡ p.turns → ((l : ℕ) → l < 32 → has_bit turning l ≡ may_act kind Turn l n) → OnOk r (now ≡ old ++ numbers_in (has_bit turning) turns (links_in p.wired)) → Lists n
    turns_done is turns turning same may done =
        at_stage n Stage.Turns is (on_ok r (λ (grown : now ≡ old ++ numbers_in (has_bit turning) turns (links_in p.wired)). turns_ready kind n p shape_of turning may old now
        (grown ∙ ap (λ (k : ℕ). old ++ numbers_in (has_bit turning) k (links_in p.wired)) same)) done)

    pub claims_done : stage ≡ Stage.Claims → (claims : ℕ) → claims ≡ p.claims → OnOk r (now ≡ old ++ numbers_in (may_begin kind n) claims (switch_claims p.node)) → Lists n
    claims_done is claims same done =
        at_stage n Stage.Claims is (on_ok r (λ (grown : now ≡ old ++ numbers_in (may_begin kind n) claims (switch_claims p.node)). claims_ready kind n p shape_of old now
        (grown ∙ ap (λ (k : ℕ). old ++ numbers_in (may_begin kind n) k (switch_claims p.node)) same)) done)

  module _ (t : Terminal A) (fits : p.claims ≡ length p.events) where
    pub crossings_there : stage ≡ Stage.Crossings → 0 < p.turns → (b c : Bool) → b ≡ is_some (terminal_credit_out t) → c ≡ is_some (terminal_leave t) → (mid : List ℕ) → mid ≡ old ++ numbers_in (λ (d : Bool). d) 0 (b ∷ []) →
        OnOk r (now ≡ mid ++ numbers_in (λ (d : Bool). d) 1 (c ∷ [])) → Lists (NodeOf.Terminal t)
    crossings_there is more b c grants leaves mid first second =
        at_stage (NodeOf.Terminal t) Stage.Crossings is (on_ok r (λ (grown : now ≡ mid ++ numbers_in (λ (d : Bool). d) 1 (c ∷ [])). terminal_crossings kind t p (terminal_part p some fits) more old mid now
        (first ∙ ap (λ (e : Bool). old ++ numbers_in (λ (d : Bool). d) 0 (e ∷ [])) grants) (grown ∙ ap (λ (e : Bool). mid ++ numbers_in (λ (d : Bool). d) 1 (e ∷ [])) leaves)) second)

    pub turns_there : stage ≡ Stage.Turns → (turns : ℕ) → turns ≡ p.turns → (b : Bool) → b ≡ is_some (terminal_drain t) → OnOk r (now ≡ old ++ numbers_in (λ (d : Bool). d) turns (b ∷ [])) → Lists (NodeOf.Terminal t)
    turns_there is turns same b drains done =
        at_stage (NodeOf.Terminal t) Stage.Turns is (on_ok r (λ (grown : now ≡ old ++ numbers_in (λ (d : Bool). d) turns (b ∷ [])). terminal_turns kind t p (terminal_part p some fits) old now
        (grown ∙ ap (λ (k : ℕ). old ++ numbers_in (λ (d : Bool). d) k (b ∷ [])) same ∙ ap (λ (e : Bool). old ++ numbers_in (λ (d : Bool). d) p.turns (e ∷ [])) drains)) done)

-- a node is of the kind that its part is for, if it is a switch exactly where the plan has one
pub of_kind : {A : Type 0} (plan : Plan) (p : PartView) → p.node < node_count plan → IsPartOf plan p.node p → (n : Node A) → is_switch n ≡ nat_lt p.node (length plan.switches) → IsOfKind p n
of_kind plan p inside is (NodeOf.Switch s) same = (of_switch p (record { plan = plan; inside = inside; is = is }) (sym same)).more
of_kind plan p inside is (NodeOf.Terminal t) same = (of_terminal p (record { plan = plan; inside = inside; is = is }) (sym same)).all
