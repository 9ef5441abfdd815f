-- A round is walked part by part: each of its events has a reason why it isn't ready exactly where the network stands
-- still.
use Rattle.{c104_event.specs.declared.{events.Event.Event, faults.EventFault.EventFault}, c104_link.proofs.MadeSteps.All-place}
use Rattle.{c104_node.specs.declared.port_part.PortPart.PortPart, c104_plan.{proofs.RangeLists.all_of_each, specs.Plans.{IsPlan, Plan}}}
use Rattle.{c104_plan.specs.declared.ports.Port.Port, c104_run.proofs.{PartRuns.single, RoundLists.links_passed}}
use Rattle.c104_run.{proofs.UnreadyEvents.unready_answered, specs.{Balance.IsSteady, Network.{Network, network_apply}, Reasons.is_unready}}
use Rattle.c104_run.specs.{RoundParts.{input_walk, link_walk, output_walk, port_walk}, Rounds.{link_numbers, round}, Standstill.IsUnready}
use Rattle.{c104_run.specs.Standstill.{StandsStill, has_reason, have_reasons}, c104_switch.specs.Actions.Reply}
use Rattle.{c104_switch.specs.declared.actions.ReplyOf.ReplyOf, c104_token.specs.Kinds.Kind, std.proofs.Common.{Bool, List, Ok, Result}}
use Rattle.std.proofs.Common.{Some, [], ap, arith, false, refl, slice_get, suc, sym, true, ℕ, ◌&&◌, ◌+◌, ◌-◌, ◌<◌, ◌∙◌, ◌∷◌, ◌≡◌, ◌≤◌}
use Rattle.std.{proofs.lemmas.List.Folds.list_all-append, specs.List.{AllByRecursion, flat_map, list_all, range_with_len}}

-- a test of all events of the numbers below n: those that are left tell it, so far as none has failed
module _ (p : Event → Bool) where
  pub one_event : (e : Event) → list_all p (e ∷ []) ≡ p e
  one_event e = search arith

  module _ (part : ℕ → List Event) (n : ℕ) where
    abbrev pub tested : Bool
    tested = list_all p (flat_map part (range_with_len 0 n))

    abbrev pub left : ℕ → Bool
    left i = list_all p (flat_map part (range_with_len i (n - i)))

    pub left_first : left 0 ≡ tested
    left_first = let same : n - 0 ≡ n = omega arith in ap (λ m. list_all p (flat_map part (range_with_len 0 m))) same

    one_left : (i : ℕ) → i < n → left i ≡ (list_all p (part i) && left (i + 1))
    one_left i inside = search (arith, list_all-append)

    pub left_next : (i : ℕ) → i < n → left i ≡ tested → list_all p (part i) ≡ true → left (i + 1) ≡ tested
    left_next i inside so_far this = ap (λ b. b && left (i + 1)) (sym this) ∙ sym (one_left i inside) ∙ so_far

    pub left_stops : (i : ℕ) → i < n → left i ≡ tested → list_all p (part i) ≡ false → false ≡ tested
    left_stops i inside so_far this = ap (λ b. b && left (i + 1)) (sym this) ∙ sym (one_left i inside) ∙ so_far

    pub left_none : (i : ℕ) → n ≤ i → left i ≡ tested → true ≡ tested
    left_none i past so_far = let count : n - i ≡ 0 = omega (arith, past) in ap (λ m. list_all p (flat_map part (range_with_len i m))) (sym count) ∙ so_far

  -- those of links
  of_links : (part : ℕ → List Event) → tested part 32 ≡ list_all p (flat_map part link_numbers)
  of_links part = ap (λ ns. list_all p (flat_map part ns)) (links_passed 32 refl)

  pub of_ports : (plan : Plan) (part : PortPart) (s : ℕ) → tested (port_walk plan part (Port.Switch s)) 32 ≡ list_all p (link_walk plan part s)
  of_ports plan part s = of_links (port_walk plan part (Port.Switch s))

  pub of_outputs : (s i : ℕ) → tested (single (Event.Claim s i)) 32 ≡ list_all p (output_walk s i)
  of_outputs s i = of_links (single (Event.Claim s i))

  pub of_inputs : (s : ℕ) → tested (output_walk s) 32 ≡ list_all p (input_walk s)
  of_inputs s = of_links (output_walk s)

-- a network stands still exactly where each event of a round has a reason
module _ {A : Type 0} (kind : Kind A) (net : Network A) (is_plan : IsPlan net.plan) (steady : IsSteady net) where
  unready_is : (answer : Result Reply EventFault) → is_unready answer ≡ true → answer ≡ Ok ReplyOf.NotReady
  unready_is answer is = search arith

  reason_unready : (e : Event) → has_reason net e ≡ true → IsUnready kind net e
  reason_unready e is = unready_is (network_apply kind net e).0 (sym (unready_answered kind net is_plan steady e) ∙ is)

  unready_reason : (e : Event) → IsUnready kind net e → has_reason net e ≡ true
  unready_reason e is = unready_answered kind net is_plan steady e ∙ ap is_unready is

  each_unready : (es : List Event) → have_reasons net es ≡ true → AllByRecursion (IsUnready kind net) es
  each_unready [] is = tt
  each_unready (e ∷ es) is = by_first (λ rest. each_unready es rest) (has_reason net e) refl is
    where
      by_first : (have_reasons net es ≡ true → AllByRecursion (IsUnready kind net) es) → (b : Bool) → has_reason net e ≡ b → (b && have_reasons net es) ≡ true → AllByRecursion (IsUnready kind net) (e ∷ es)
      by_first later true first rest = (reason_unready e first, later rest)
      by_first later false first rest = absurd (cc rest)

  all_reasons : (es : List Event) → ((i : ℕ) (e : Event) → slice_get es i ≡ Some e → IsUnready kind net e) → have_reasons net es ≡ true
  all_reasons [] all = refl
  all_reasons (e ∷ es) all = rw (unready_reason e (all 0 e refl)) (all_reasons es (λ i f at. all (suc i) f at))

  pub stands_where : have_reasons net (round net.plan) ≡ true → StandsStill kind net
  stands_where is = all_of_each (IsUnready kind net) (round net.plan) (each_unready (round net.plan) is)

  pub reasons_where : StandsStill kind net → have_reasons net (round net.plan) ≡ true
  reasons_where all = all_reasons (round net.plan) (λ i e at. All-place (IsUnready kind net) (round net.plan) i e at all)

-- what the loops over the events of a round cite
pub ruleset still_parts = (one_event, left_first, left_next, left_stops, left_none, of_ports, of_outputs, of_inputs)
