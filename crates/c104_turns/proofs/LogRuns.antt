-- Where each node runs its part of the entries of some events, the network runs the events.
use Rattle.{c104_event.specs.declared.{events.Event.Event, faults.EventFault.EventFault}, c104_link.specs.Steps.◌>>=◌}
use Rattle.{c104_net.proofs.Members.element_at, c104_node.proofs.{RecordedNodes.number_plain, WireEnds.{get_set_other, get_set_same}}}
use Rattle.c104_node.specs.{Acts.{node_act, plain_reply}, Nodes.Node, PortActs.{Acts, act_limit, acts_limit, far_act, near_act}}
use Rattle.c104_node.specs.{Records.{IsNodeRun, MayAct}, Traces.{Deed as Kept, entry_of}, declared.acts.{ActOf.ActOf, Entry.Entry}}
use Rattle.{c104_node.specs.declared.{crossings.Crossing.Crossing, stamps.Stamp.Stamp}, c104_plan.specs.{Plans.{IsPlan, Plan}, Wiring.peer}}
use Rattle.{c104_plan.specs.declared.ports.Port.Port, c104_run.proofs.{ActSteps.joint_wired, BalanceWires.{peer_back, switch_inside}}}
use Rattle.c104_run.{proofs.{BalanceWires.terminal_inside, KeptElements.same_places, NoFaults.node_there}, specs.EventActs.event_acts}
use Rattle.c104_run.specs.{EventActs.port_place, EventDeeds.event_deeds, NetParts.node_count, Network.{Network, event_fault, event_limit}}
use Rattle.c104_run.specs.{Network.{network_apply, network_of, network_step, node_fault, terminal_place}, Runs.{IsDoneRun, at_node}}
use Rattle.{c104_run.specs.Runs.run_deeds, c104_switch.specs.{Actions.{Reply, is_ready}, declared.actions.ReplyOf.ReplyOf}}
use Rattle.{c104_tickets.specs.Tickets.Each, c104_token.specs.{Kinds.plain_kind, declared.tokens.Token.Token}}
use Rattle.{c104_turns.proofs.LogEntries.{alone_deeds, at_other, at_same, both_deeds, joint_deeds}, std.proofs.Common.{List, None, Ok}}
use Rattle.std.proofs.Common.{Option, Result, Some, [], ap, arith, inl, inr, length, refl, slice_get, slice_set, subst, suc, sym, true, ℕ}
use Rattle.std.proofs.{Common.{◌++◌, ◌-◌, ◌<◌, ◌∙◌, ◌∷◌, ◌≡◌}, lemmas.{Bool.cases_eq, List.length-set}}

-- an event with its reply that can be done in a network of a plan, whatever its nodes hold
pub record CanBeDone (plan : Plan) (e : Event × Reply) : Type 0 where
  pub acts : Acts Token
  pub asked : event_acts plan e.0 ≡ Some acts
  pub possible : event_fault plan e.0 ≡ None
  pub ready : is_ready e.1 ≡ true

-- each node runs its part of some entries, from these nodes to others
abbrev pub RunTheirs : (ℕ → ℕ) → List (Node Token) → List (Node Token) → List Kept → Type 0
RunTheirs wired nodes ends ds = (k : ℕ) (n m : Node Token) → slice_get nodes k ≡ Some n → slice_get ends k ≡ Some m
    → IsNodeRun (wired k) n (at_node k ds) m

-- the node of the first entry does its act, and then each runs its part of the rest
pub record DoesFirst (wired : ℕ → ℕ) (nodes ends : List (Node Token)) (k : ℕ) (x : Entry) (n : Node Token) (ds : List Kept) : Type 0 where
  pub mid : Node Token
  pub may : MayAct (wired k) n x.act
  pub made : node_act plain_kind 0 x.act n ≡ Some (x.reply, mid)
  pub rest : RunTheirs wired (slice_set nodes k mid) ends ds

first_done : (wired : ℕ → ℕ) (nodes ends : List (Node Token)) (k : ℕ) (x : Entry) (n e : Node Token) (ds : List Kept)
    → slice_get nodes k ≡ Some n → slice_get ends k ≡ Some e → RunTheirs wired nodes ends ((k, x) ∷ ds)
    → DoesFirst wired nodes ends k x n ds
first_done wired nodes ends k x n e ds at at_end runs = record { mid = mid; may = run.1; made = run.2; rest = rest }
  where
    run : IsNodeRun (wired k) n (x ∷ at_node k ds) e
    run = subst (λ xs. IsNodeRun (wired k) n xs e) (at_same k k x ds refl) (runs k n e at at_end)

    mid : Node Token
    mid = run.0

    at_first : (j : ℕ) (o f : Node Token) → slice_get (slice_set nodes k mid) j ≡ Some o → slice_get ends j ≡ Some f → k ≡ j
        → IsNodeRun (wired j) o (at_node j ds) f
    at_first j o f here there equal =
        let changed : Some mid ≡ Some o = sym (get_set_same nodes k n mid at) ∙ ap (slice_get (slice_set nodes k mid)) equal ∙ here in
        let kept : Some e ≡ Some f = sym at_end ∙ ap (slice_get ends) equal ∙ there in
        let new : mid ≡ o = cc in
        let end : e ≡ f = cc in
        subst (λ i. IsNodeRun (wired i) o (at_node i ds) f) equal
        (subst (λ g. IsNodeRun (wired k) o (at_node k ds) g) end (subst (λ g. IsNodeRun (wired k) g (at_node k ds) e) new run.3))

    rest : RunTheirs wired (slice_set nodes k mid) ends ds
    rest j o f here there = elim (cases_eq k j) [
      | inl equal ↦ at_first j o f here there equal
      | inr differs ↦ subst (λ xs. IsNodeRun (wired j) o xs f) (at_other k j x ds differs)
          (runs j o f (sym (get_set_other nodes k j mid differs) ∙ here) there)
    ]

plain_same : (r : Reply) → plain_reply plain_kind r ≡ r
plain_same r = search arith

module _ (plan : Plan) (is_plan : IsPlan plan) where
  abbrev Net : List (Node Token) → Network Token
  Net nodes = network_of plan nodes

  applied : (nodes next : List (Node Token)) (e : Event) (r : Reply) → event_fault plan e ≡ None
      → network_step plain_kind (Net nodes) e ≡ Some (r, Net next) → event_limit (Net nodes) e ≡ None
      → ◌≡◌ {A = Result Reply EventFault × Network Token} (Ok r, Net next) (network_apply plain_kind (Net nodes) e)
  applied nodes next e r possible made below = rw (possible, made, below) refl

  -- an act of one node is the step of its event
  alone_step : (nodes : List (Node Token)) (e : Event) (k : ℕ) (a : ActOf Token) (n m : Node Token) (r : Reply)
      → ◌≡◌ {A = Option (Acts Token)} (event_acts plan e) (Some (Acts.Alone k a)) → slice_get nodes k ≡ Some n
      → node_act plain_kind 0 a n ≡ Some (r, m) → network_step plain_kind (Net nodes) e ≡ Some (r, Net (slice_set nodes k m))
  alone_step nodes e k a n m r asked at made =
      rw (asked, at, number_plain (k - length plan.switches) 0 a n, made) (ap (λ t. Some (t, Net (slice_set nodes k m))) (plain_same r))

  alone_below : (nodes : List (Node Token)) (e : Event) (k : ℕ) (a : ActOf Token) (n : Node Token)
      → ◌≡◌ {A = Option (Acts Token)} (event_acts plan e) (Some (Acts.Alone k a)) → slice_get nodes k ≡ Some n
      → act_limit (Some n) a ≡ None → event_limit (Net nodes) e ≡ None
  alone_below nodes e k a n asked at below = rw (asked, at) below

  -- and so are the acts at both ends of a wire
  joint_step_is : (nodes : List (Node Token)) (e : Event) (p q : Port) (crossing : Crossing) (n m n' m' : Node Token) (r d : Reply)
      → ◌≡◌ {A = Option (Acts Token)} (event_acts plan e) (Some (Acts.Joint p q crossing))
      → slice_get nodes (port_place plan p) ≡ Some n → node_act plain_kind 0 (near_act crossing p) n ≡ Some (r, m)
      → slice_get (slice_set nodes (port_place plan p) m) (port_place plan q) ≡ Some n'
      → node_act plain_kind 0 (far_act q r) n' ≡ Some (d, m')
      → network_step plain_kind (Net nodes) e ≡ Some (r, Net (slice_set (slice_set nodes (port_place plan p) m) (port_place plan q) m'))
  joint_step_is nodes e p q crossing n m n' m' r d asked at made far_at far_made =
      rw (asked, at, made, far_at, far_made)
      (ap (λ t. Some (t, Net (slice_set (slice_set nodes (port_place plan p) m) (port_place plan q) m'))) (plain_same r))

  joint_below : (nodes : List (Node Token)) (e : Event) (p q : Port) (crossing : Crossing)
      → ◌≡◌ {A = Option (Acts Token)} (event_acts plan e) (Some (Acts.Joint p q crossing)) → event_limit (Net nodes) e ≡ None
  joint_below nodes e p q crossing asked = ap (λ o. o >>= acts_limit nodes) asked

  -- the nodes of an event that can happen are the plan's
  at_switch : (s : ℕ) (other : Option EventFault) → node_fault (length plan.switches) s other ≡ None → s < node_count plan
  at_switch s other is = let there = node_there other (length plan.switches) s is in omega (arith, there)

  at_terminal : (t : ℕ) (other : Option EventFault) → node_fault (length plan.terminals) t other ≡ None
      → terminal_place plan t < node_count plan
  at_terminal t other is = let there = node_there other (length plan.terminals) t is in omega (arith, there)

  pub alone_inside : (e : Event) (k : ℕ) (a : ActOf Token) → ◌≡◌ {A = Option (Acts Token)} (event_acts plan e) (Some (Acts.Alone k a))
      → event_fault plan e ≡ None → k < node_count plan
  alone_inside e k a asked possible = search (arith, at_switch, at_terminal)

  pub port_inside : (p q : Port) → peer plan p ≡ Some q → port_place plan p < node_count plan
  port_inside (Port.Switch s l) q wired = let inside = (switch_inside plan is_plan s l q wired).0 in omega (arith, inside)
  port_inside (Port.Terminal t) q wired = let inside = terminal_inside plan is_plan t q wired in omega (arith, inside)

  still_counted : (nodes : List (Node Token)) (k : ℕ) (m : Node Token) → length nodes ≡ node_count plan
      → length (slice_set nodes k m) ≡ node_count plan
  still_counted nodes k m counted = length-set nodes k m ∙ counted

  -- what is left of a run where the first event was done
  abbrev GoesOn : (ℕ → ℕ) → List (Node Token) → List (Event × Reply) → List Kept → Type 0
  GoesOn wired ends events ds = (next : List (Node Token)) → length next ≡ node_count plan → RunTheirs wired next ends ds
      → IsDoneRun plain_kind (Net next) events (Net ends)

  module _ (wired : ℕ → ℕ) (nodes ends : List (Node Token)) (counted : length nodes ≡ node_count plan)
      (long : length ends ≡ node_count plan) (e : Event × Reply) (events : List (Event × Reply)) (ds : List Kept)
      (possible : event_fault plan e.0 ≡ None) (ready : is_ready e.1 ≡ true) (again : GoesOn wired ends events ds) where
    abbrev Runs : Type 0
    Runs = IsDoneRun plain_kind (Net nodes) (e ∷ events) (Net ends)

    alone_run : (stamp : Stamp) (k : ℕ) (a : ActOf Token)
        → ◌≡◌ {A = Option (Acts Token)} (event_acts plan e.0) (Some (Acts.Alone k a))
        → RunTheirs wired nodes ends ((k, entry_of stamp a e.1) ∷ ds) → Runs
    alone_run stamp k a asked runs =
        let inside = alone_inside e.0 k a asked possible in
        let n = element_at nodes k (omega (arith, inside, counted)) in
        let m = element_at ends k (omega (arith, inside, long)) in
        let first = first_done wired nodes ends k (entry_of stamp a e.1) n.0 m.0 ds n.1 m.1 runs in
        let next : List (Node Token) = slice_set nodes k first.mid in (
          Net next,
          applied nodes next e.0 e.1 possible (alone_step nodes e.0 k a n.0 first.mid e.1 asked n.1 first.made)
              (alone_below nodes e.0 k a n.0 asked n.1 first.may.below),
          ready,
          again next (still_counted nodes k first.mid counted) first.rest,
        )

    joint_run : (stamp : Stamp) (p q : Port) (crossing : Crossing)
        → ◌≡◌ {A = Option (Acts Token)} (event_acts plan e.0) (Some (Acts.Joint p q crossing))
        → RunTheirs wired nodes ends (both_deeds plan stamp e.1 p q crossing ++ ds) → Runs
    joint_run stamp p q crossing asked runs =
        let joined = joint_wired plan e.0 p q crossing asked in
        let near_inside = port_inside p q joined in
        let far_inside = port_inside q p (peer_back plan is_plan p q joined) in
        let near : ℕ = port_place plan p in
        let far : ℕ = port_place plan q in
        let x : Entry = entry_of stamp (near_act crossing p) e.1 in
        let y : Entry = entry_of stamp (far_act q e.1) ReplyOf.Done in
        let n = element_at nodes near (omega (arith, near_inside, counted)) in
        let m = element_at ends near (omega (arith, near_inside, long)) in
        let first = first_done wired nodes ends near x n.0 m.0 ((far, y) ∷ ds) n.1 m.1 runs in
        let mids : List (Node Token) = slice_set nodes near first.mid in
        let mid_counted : length mids ≡ node_count plan = still_counted nodes near first.mid counted in
        let n' = element_at mids far (omega (arith, far_inside, mid_counted)) in
        let m' = element_at ends far (omega (arith, far_inside, long)) in
        let second = first_done wired mids ends far y n'.0 m'.0 ds n'.1 m'.1 first.rest in
        let next : List (Node Token) = slice_set mids far second.mid in (
          Net next,
          applied nodes next e.0 e.1 possible
              (joint_step_is nodes e.0 p q crossing n.0 first.mid n'.0 second.mid e.1 ReplyOf.Done asked n.1 first.made n'.1 second.made)
              (joint_below nodes e.0 p q crossing asked),
          ready,
          again next (still_counted mids far second.mid mid_counted) second.rest,
        )

    first_run : (stamp : Stamp) (acts : Acts Token) → event_acts plan e.0 ≡ Some acts
        → RunTheirs wired nodes ends (event_deeds plan stamp e.0 e.1 ++ ds) → Runs
    first_run stamp (Acts.Alone k a) asked runs =
        alone_run stamp k a asked
        (subst (λ xs. RunTheirs wired nodes ends (xs ++ ds)) (alone_deeds plan stamp e.0 e.1 k a asked ready) runs)
    first_run stamp (Acts.Joint p q crossing) asked runs =
        joint_run stamp p q crossing asked
        (subst (λ xs. RunTheirs wired nodes ends (xs ++ ds)) (joint_deeds plan stamp e.0 e.1 p q crossing asked ready) runs)

  -- the network runs the events
  pub events_run : (wired : ℕ → ℕ) (stamps : ℕ → Stamp) (n : ℕ) (events : List (Event × Reply)) (nodes ends : List (Node Token))
      → length nodes ≡ node_count plan → length ends ≡ node_count plan → Each (CanBeDone plan) events
      → RunTheirs wired nodes ends (run_deeds plan stamps n events) → IsDoneRun plain_kind (Net nodes) events (Net ends)
  events_run wired stamps n [] nodes ends counted long can runs =
      ap Net (same_places nodes ends (long ∙ sym counted) (λ k x y left right. runs k x y left right))
  events_run wired stamps n (e ∷ events) nodes ends counted long can runs =
      first_run wired nodes ends counted long e events (run_deeds plan stamps (suc n) events) can.0.possible can.0.ready
      (λ next next_counted theirs. events_run wired stamps (suc n) events next ends next_counted long can.1 theirs)
      (stamps n) can.0.acts can.0.asked runs
