-- A round as it is walked: part after part, number by number, with what has no wire or isn't ready left out.
use Rattle.{c104_crossbar.specs.Groups.has_bit, c104_event.specs.declared.events.Event.Event, c104_node.proofs.PartFrames.may_not}
use Rattle.c104_node.specs.{Acts.nodes_act, Nodes.Node, PortActs.near_act, PortParts.{IsNearReady, is_ready_at, may_act_at}}
use Rattle.c104_node.specs.declared.{crossings.Crossing.Crossing, port_part.PortPart.{PortPart, TheVariants.Turn}}
use Rattle.{c104_plan.specs.{Plans.Plan, declared.ports.Port.Port}, c104_run.proofs.IdleEvents.{idle_credit, idle_cross, idle_turn}}
use Rattle.c104_run.{proofs.PartRuns.singles, specs.{EventActs.{crossing_event, port_place}, LinkedSets.{HasReady, LeavesLinks}}}
use Rattle.c104_run.specs.{Network.{Network, wired_fault}, RoundParts.{AreIdle, CanTry, IsNext, crossing_part, input_walk, link_walk}}
use Rattle.c104_run.specs.RoundParts.{output_walk, port_events, port_walk, switch_walk, terminal_walk, walked_round, wired_events}
use Rattle.c104_run.specs.Rounds.{all_claims, claims_of, is_wired, link_numbers, round, switch_claims, turn_at, wired_links, wired_ports}
use Rattle.{c104_switch.proofs.Wanting.first_isnt, c104_token.specs.Kinds.Kind, std.proofs.Common.{IfSome, List, None, Option, [], ap}}
use Rattle.std.proofs.Common.{append-nil, arith, false, filter, length, map, refl, sym, true, unwrap_or, ℕ, ◌&&◌, ◌++◌, ◌+◌, ◌<◌, ◌∙◌, ◌∷◌}
use Rattle.std.proofs.{Common.{◌≡◌, ◌≤◌}, lemmas.{Bool.and_parts, Grind.flat_map-append, List.Elements.filter-append}}
use Rattle.std.specs.{List.{flat_map, range_with_len}, Prelude.is_some}

-- what is so of an element is so by what follows from it
pub if_some : {X : Type 0} (P Q : X → Type 0) (o : Option X) → ((x : X) → P x → Q x) → IfSome o P → IfSome o Q
if_some P Q o each is = search arith

-- lists that are joined, each of which is another
flat_same : {X Y : Type 0} (f h : X → List Y) → ((x : X) → f x ≡ h x) → (xs : List X) → flat_map f xs ≡ flat_map h xs
flat_same f h same xs = search arith

module _ (plan : Plan) (part : PortPart) where
  pub wired_one : (p : Port) → is_wired plan p ≡ true → wired_events plan part p ≡ port_events part p
  wired_one p is = rw is (append-nil (port_events part p))

  pub wired_none : (p : Port) → is_wired plan p ≡ false → wired_events plan part p ≡ []
  wired_none p is = rw is refl

  -- one by one they are what it has for the wired ones
  pub wired_each : (f : ℕ → Port) (ns : List ℕ) → flat_map (port_walk plan part f) ns ≡ flat_map (port_events part) (filter (is_wired plan) (map f ns))
  wired_each f [] = refl
  wired_each f (n ∷ ns) = search (arith, flat_map-append, filter-append, wired_each f ns)

  -- switch by switch they are those of all switches
  abbrev pub of_switch : ℕ → List Event
  of_switch s = flat_map (port_events part) (wired_links plan s)

  pub switches_each : (ss : List ℕ) → flat_map of_switch ss ≡ flat_map (port_events part) (flat_map (wired_links plan) ss)
  switches_each [] = refl
  switches_each (s ∷ ss) = ap (λ es. of_switch s ++ es) (switches_each ss) ∙ sym (flat_map-append (port_events part) (wired_links plan s) (flat_map (wired_links plan) ss))

  abbrev links : List Port
  links = flat_map (wired_links plan) (range_with_len 0 (length plan.switches))

  switches_walked : flat_map (port_events part) links ≡ switch_walk plan part
  switches_walked = sym (flat_same (link_walk plan part) of_switch (λ s. wired_each (Port.Switch s) link_numbers) (range_with_len 0 (length plan.switches)) ∙ switches_each (range_with_len 0 (length plan.switches)))

  pub ports_walked : flat_map (port_events part) (wired_ports plan) ≡ switch_walk plan part ++ terminal_walk plan part
  ports_walked = search (arith, switches_walked, wired_each, flat_map-append)

-- what crosses from a wired port in a part of a round
pub wired_crossing : (plan : Plan) (crossing : Crossing) (p : Port) → is_wired plan p ≡ true → wired_events plan (crossing_part crossing) p ≡ crossing_event crossing p ∷ []
wired_crossing plan crossing p is = search (arith, wired_one)

pub crossing_ready : {A : Type 0} (kind : Kind A) (net : Network A) (crossing : Crossing) (p : Port) → IsNearReady kind (crossing_part crossing) net.nodes (port_place net.plan p) p → is_some (nodes_act kind net.nodes (port_place net.plan p) 0 (near_act crossing p)) ≡ true
crossing_ready kind net crossing p is = search arith

-- a terminal takes no turn
no_turns : (plan : Plan) (ns : List ℕ) → flat_map turn_at (filter (is_wired plan) (map Port.Terminal ns)) ≡ []
no_turns plan [] = refl
no_turns plan (n ∷ ns) = search (arith, no_turns plan ns)

-- so the turns of the switches' ports are all turns
pub turns_walked : (plan : Plan) → flat_map turn_at (wired_ports plan) ≡ switch_walk plan Turn
turns_walked plan = search (arith, flat_map-append, no_turns, append-nil, switches_walked)

claims_walked : (n : ℕ) → all_claims n ≡ flat_map input_walk (range_with_len 0 n)
claims_walked n = flat_same switch_claims input_walk (λ s. flat_same (claims_of s) (output_walk s) (λ i. sym (singles (Event.Claim s i) link_numbers)) link_numbers) (range_with_len 0 n)

-- a round is all that is walked
pub round_walked : (plan : Plan) → round plan ≡ walked_round plan
round_walked plan = search (arith, singles, ports_walked, turns_walked, claims_walked)

module _ {A : Type 0} (kind : Kind A) (net : Network A) (part : PortPart) where
  -- what a part has for a port that has no wire, or where nothing is ready
  pub idle_wired : (p : Port) → (is_wired net.plan p ≡ true → AreIdle kind net (port_events part p)) → AreIdle kind net (wired_events net.plan part p)
  idle_wired p idle = search (arith, wired_one, wired_none)

-- a link that isn't ready for its own act
pub idle_link : {A : Type 0} (kind : Kind A) (net : Network A) (part : PortPart) (k l : ℕ) → wired_fault net.plan (Port.Switch k l) ≡ None → is_ready_at kind part net.nodes k l ≡ false → AreIdle kind net (port_events part (Port.Switch k l))
idle_link kind net part k l wired unready = search (arith, idle_credit, idle_cross, idle_turn)

-- a link that is passed over: it has no wire, or isn't ready
pub passed_link : {A : Type 0} (kind : Kind A) (net : Network A) (part : PortPart) (k l from set : ℕ) → HasReady kind part k net from set → from ≤ l → l < 32 → has_bit set l ≡ false → AreIdle kind net (wired_events net.plan part (Port.Switch k l))
passed_link kind net part k l from set has above inside none = idle_wired kind net part (Port.Switch k l) (λ is. idle_link kind net part k l (has.wired l inside is) (may_not kind l part k net.nodes (first_isnt _ _ (sym (has.ready l above inside) ∙ none) is)))

-- what may be done at a link is ready, as the near end of its wire
near_ready : {A : Type 0} (kind : Kind A) (plan : Plan) (part : PortPart) (nodes : List (Node A)) (s l : ℕ) → may_act_at kind part nodes s l ≡ true → IsNearReady kind part nodes (port_place plan (Port.Switch s l)) (Port.Switch s l)
near_ready kind plan part nodes s l is = search arith

-- what was found may be tried
pub found_ready : {A : Type 0} (kind : Kind A) (net : Network A) (part : PortPart) (k l from set : ℕ) → HasReady kind part k net from set → from ≤ l → l < 32 → has_bit set l ≡ true → CanTry kind net part (Port.Switch k l)
found_ready kind net part k l from set has above inside is =
    let both : (may_act_at kind part net.nodes k l ≡ true) × (is_wired net.plan (Port.Switch k l) ≡ true) = and_parts _ _ (sym (has.ready l above inside) ∙ is) in
    record { wired = has.wired l inside both.1; linked = both.1; ready = near_ready kind net.plan part net.nodes k l both.0 }

-- what is done at a link leaves the set of those behind it
pub ready_on : {A : Type 0} (kind : Kind A) (net next : Network A) (part : PortPart) (k l from set : ℕ) → HasReady kind part k net from set → from ≤ l → next.plan ≡ net.plan → LeavesLinks kind part k l net.nodes next.nodes → HasReady kind part k next (l + 1) set
ready_on kind net next part k l from set has above same left = record {
  wired = λ j inside is. rw same (has.wired j inside (rw same at is));
  ready = λ j after inside. rw same (has.ready j (omega (arith, above, after)) inside ∙ ap (λ b. b && is_wired net.plan (Port.Switch k j)) (sym (left.stay j (λ is. absurd (omega (arith, after, is))))));
}

-- where a walk goes on, by what was passed over
module _ {A : Type 0} (kind : Kind A) (net : Network A) (part : ℕ → List Event) (numbers : List ℕ) (n from : ℕ) (found : Option ℕ) where
  below_found : (k : ℕ) → (o : Option ℕ) → IfSome o (λ i. (from ≤ i) × (i < n)) → k < unwrap_or o n → k < n
  below_found k o is below = search arith

  pub next_found : numbers ≡ range_with_len 0 n → IfSome found (λ k. (from ≤ k) × (k < n)) → ((k : ℕ) → k < n → from ≤ k → k < unwrap_or found n → AreIdle kind net (part k)) → IsNext kind net part numbers n from found
  next_found turn is idle = record { turn = turn; passed = λ k above below. idle k (below_found k found is below) above below; found = is }
