-- Where each node runs its part of what entries that lead tell, the network runs their events.
use Rattle.c104_audit.proofs.AuditRuns.{IsSure, far_alone, far_joint, far_of, lead_event, lead_pair, same_kind, stamp_of}
use Rattle.c104_audit.proofs.{EntryEvents.{LeadsAlone, LeadsJoint, lead_cases}, Matching.{all_deeds, at_place, far_deed}, WideNodes.IsWide}
use Rattle.{c104_audit.{proofs.WideNodes.wide_act, specs.Leads.Lead}, c104_event.specs.declared.events.Event.Event}
use Rattle.{c104_event.specs.declared.faults.EventFault.EventFault, c104_link.{proofs.MadeSteps.place_after_set, specs.Steps.◌>>=◌}}
use Rattle.{c104_net.proofs.Members.element_at, c104_node.proofs.{ReadyActs.act_ready, RecordedNodes.number_plain, WireEnds.get_set_other}}
use Rattle.c104_node.{proofs.WireEnds.get_set_same, specs.{Acts.{node_act, plain_reply}, Nodes.{Node, is_switch}, PortActs.Acts}}
use Rattle.c104_node.specs.{PortActs.{acts_limit, far_act, near_act}, Records.{IsNodeRun, MayAct}, Traces.entry_of}
use Rattle.{c104_node.specs.declared.{acts.{ActOf.ActOf, Entry.Entry}, crossings.Crossing.Crossing}, c104_plan.specs.Plans.{IsPlan, Plan}}
use Rattle.{c104_plan.specs.{Wiring.peer, declared.ports.Port.Port}, c104_run.proofs.BalancePlaces.still_in_place}
use Rattle.c104_run.proofs.{BalanceWires.{nodes_apart, peer_back, switch_inside, terminal_inside}, KeptElements.same_places}
use Rattle.c104_run.{proofs.RecordSteps.nodes_counted, specs.{Balance.AreInPlace, EventActs.{crossing_event, event_acts, port_place}}}
use Rattle.c104_run.specs.Network.{Network, event_fault, event_limit, network_apply, network_of, network_step, wired_fault}
use Rattle.{c104_run.specs.Runs.IsDoneRun, c104_switch.specs.{Actions.{Reply, is_ready}, declared.actions.ReplyOf.ReplyOf}}
use Rattle.{c104_token.specs.{Kinds.plain_kind, declared.tokens.Token.Token}, std.proofs.Common.{Bool, List, None, Ok, Option, Result}}
use Rattle.std.proofs.Common.{Some, [], ap, arith, if◌then◌else◌, inl, inr, length, map, nat_eq, refl, slice_get, slice_set, subst, sym}
use Rattle.std.proofs.{Common.{true, ℕ, ◌++◌, ◌+◌, ◌<◌, ◌∙◌, ◌∷◌, ◌≡◌, ◌≢◌, ◌⊎◌}, lemmas.Bool.{Decides.nat_tests, cases_eq}}
use Rattle.std.{proofs.lemmas.List.length-set, specs.List.AllByRecursion}

-- the parts of a list at its places
at_here : {X : Type 0} (k j : ℕ) (x : X) (ds : List (ℕ × X)) → j ≡ k → at_place k ((j, x) ∷ ds) ≡ x ∷ at_place k ds
at_here k j x ds same = let is : nat_eq j k ≡ true = grind (arith, nat_tests) in rw is refl

at_other : {X : Type 0} (k j : ℕ) (x : X) (ds : List (ℕ × X)) → j ≢ k → at_place k ((j, x) ∷ ds) ≡ at_place k ds
at_other k j x ds differs = by_test (nat_eq j k) refl
  where
    by_test : (b : Bool) → nat_eq j k ≡ b → (if b then x ∷ at_place k ds else at_place k ds) ≡ at_place k ds
    by_test b is = search (arith, is, nat_tests)

plain_same : (r : Reply) → plain_reply plain_kind r ≡ r
plain_same r = search arith

module _ (plan : Plan) (is_plan : IsPlan plan) where
  -- nodes that stand at their places, with all their links
  pub record AreReady (nodes : List (Node Token)) : Type 0 where
    pub placed : AreInPlace plan nodes
    pub wide : (k : ℕ) (n : Node Token) → slice_get nodes k ≡ Some n → IsWide n

  still_ready : (nodes : List (Node Token)) (k : ℕ) (n m : Node Token) → AreReady nodes → slice_get nodes k ≡ Some n → is_switch m ≡ is_switch n → IsWide m → AreReady (slice_set nodes k m)
  still_ready nodes k n m ready at same wide = search (arith, still_in_place, place_after_set)

  applied : (nodes next : List (Node Token)) (e : Event) (r : Reply) → event_fault plan e ≡ None → network_step plain_kind (network_of plan nodes) e ≡ Some (r, network_of plan next) → event_limit (network_of plan nodes) e ≡ None →
      ◌≡◌ {A = Result Reply EventFault × Network Token} (Ok r, network_of plan next) (network_apply plain_kind (network_of plan nodes) e)
  applied nodes next e r possible made below = rw (possible, made, below) refl

  wired_possible : (p q : Port) → peer plan p ≡ Some q → wired_fault plan p ≡ None
  wired_possible p q wired = search (arith, switch_inside, nat_tests, terminal_inside)

  crossing_possible : (crossing : Crossing) (p q : Port) → peer plan p ≡ Some q → event_fault plan (crossing_event crossing p) ≡ None
  crossing_possible crossing p q wired = search (arith, wired_possible)

  pub crossing_acts_are : (crossing : Crossing) (p q : Port) → peer plan p ≡ Some q → ◌≡◌ {A = Option (Acts Token)} (event_acts plan (crossing_event crossing p)) (Some (Acts.Joint p q crossing))
  crossing_acts_are crossing p q wired = search arith

  crossing_below : (nodes : List (Node Token)) (crossing : Crossing) (p q : Port) → peer plan p ≡ Some q → event_limit (network_of plan nodes) (crossing_event crossing p) ≡ None
  crossing_below nodes crossing p q wired = ap (λ o. o >>= acts_limit nodes) (crossing_acts_are crossing p q wired)

  module _ (nodes : List (Node Token)) (ready : AreReady nodes) where
    abbrev Net : Network Token
    Net = network_of plan nodes

    -- an act of one node is the step of its event
    alone_step : (k : ℕ) (a : ActOf Token) (n m : Node Token) (r : Reply) → slice_get nodes k ≡ Some n → (alone : LeadsAlone plan k a) → node_act plain_kind 0 a n ≡ Some (r, m) → network_step plain_kind Net alone.event ≡ Some (r, network_of plan (slice_set nodes k m))
    alone_step k a n m r at alone made = search (arith, number_plain, plain_same)

    alone_below : (k : ℕ) (a : ActOf Token) (n : Node Token) (wired : ℕ) → slice_get nodes k ≡ Some n → (alone : LeadsAlone plan k a) → MayAct wired n a → event_limit Net alone.event ≡ None
    alone_below k a n wired at alone may = search arith

    -- and so are the acts at both ends of a wire
    joint_step_is : (crossing : Crossing) (p q : Port) (n m n' m' : Node Token) (r d : Reply) → peer plan p ≡ Some q → slice_get nodes (port_place plan p) ≡ Some n → slice_get nodes (port_place plan q) ≡ Some n' →
        node_act plain_kind 0 (near_act crossing p) n ≡ Some (r, m) → node_act plain_kind 0 (far_act q r) n' ≡ Some (d, m') →
        network_step plain_kind Net (crossing_event crossing p) ≡ Some (r, network_of plan (slice_set (slice_set nodes (port_place plan p) m) (port_place plan q) m'))
    joint_step_is crossing p q n m n' m' r d wired near far left entered =
        search (arith, get_set_other, nodes_apart, crossing_acts_are, plain_same)

  -- each node runs its part of some entries that lead, from these nodes to others
  abbrev pub RunParts : (ℕ → ℕ) → List (Node Token) → List (Node Token) → List (ℕ × Lead Entry) → Type 0
  RunParts wired nodes ends ms = (k : ℕ) (n m : Node Token) → slice_get nodes k ≡ Some n → slice_get ends k ≡ Some m → IsNodeRun (wired k) n (at_place k (all_deeds (far_of plan) ms)) m

  abbrev Again : (ℕ → ℕ) → List (Node Token) → List (ℕ × Lead Entry) → Type 0
  Again wired ends ms = (next : List (Node Token)) → AreReady next → length ends ≡ length next → RunParts wired next ends ms → IsDoneRun plain_kind (network_of plan next) (map (lead_pair plan) ms) (network_of plan ends)

  module _ (wired : ℕ → ℕ) (nodes ends : List (Node Token)) (ready : AreReady nodes) (long : length ends ≡ length nodes) (m : ℕ × Lead Entry) (ms : List (ℕ × Lead Entry)) (sure : IsSure plan m) (parts : RunParts wired nodes ends (m ∷ ms)) (again : Again wired ends ms) where
    abbrev X : Entry
    X = m.1.entry

    abbrev K : ℕ
    K = m.1.place

    abbrev Rest : ℕ → List Entry
    Rest k = at_place k (all_deeds (far_of plan) ms)

    ready_reply : is_ready X.reply ≡ true
    ready_reply = act_ready plain_kind 0 X.act sure.was.node (X.reply, sure.was.after) sure.was.made

    alone_run : K < length plan.switches + length plan.terminals → (n e : Node Token) → slice_get nodes K ≡ Some n → slice_get ends K ≡ Some e → LeadsAlone plan K X.act → IsDoneRun plain_kind (network_of plan nodes) (map (lead_pair plan) (m ∷ ms)) (network_of plan ends)
    alone_run inside n e at at_end alone = (network_of plan (slice_set nodes K mid), applied nodes (slice_set nodes K mid) (lead_event plan m) X.reply possible step below, ready_reply, again (slice_set nodes K mid) (still_ready nodes K n mid ready at same (wide_act 0 X.act n (X.reply, mid) (ready.wide K n at) run.2)) (long ∙ sym (length-set nodes K mid)) rest)
      where
        none : far_of plan K X ≡ None
        none = far_alone plan K X alone

        deeds : (k : ℕ) → at_place k (all_deeds (far_of plan) (m ∷ ms)) ≡ at_place k ((K, X) ∷ all_deeds (far_of plan) ms)
        deeds k = ap (λ o. at_place k ((K, X) ∷ (far_deed (far_of plan) o ++ all_deeds (far_of plan) ms))) none

        run : IsNodeRun (wired K) n (X ∷ Rest K) e
        run = subst (λ es. IsNodeRun (wired K) n es e) (deeds K ∙ at_here K K X (all_deeds (far_of plan) ms) refl) (parts K n e at at_end)

        mid : Node Token
        mid = run.0

        same : is_switch mid ≡ is_switch n
        same = same_kind (wired K) X.act n mid X.reply run.1 run.2

        is : lead_event plan m ≡ alone.event
        is = rw alone.told refl

        possible : event_fault plan (lead_event plan m) ≡ None
        possible = ap (event_fault plan) is ∙ alone.possible inside n (X.reply, mid) (ready.wide K n at) run.1.short run.2

        step : network_step plain_kind (network_of plan nodes) (lead_event plan m) ≡ Some (X.reply, network_of plan (slice_set nodes K mid))
        step = ap (network_step plain_kind (network_of plan nodes)) is ∙ alone_step nodes ready K X.act n mid X.reply at alone run.2

        below : event_limit (network_of plan nodes) (lead_event plan m) ≡ None
        below = ap (event_limit (network_of plan nodes)) is ∙ alone_below nodes ready K X.act n (wired K) at alone run.1

        rest : RunParts wired (slice_set nodes K mid) ends ms
        rest k o f here there = elim (cases_eq K k) [
          | inl equal ↦ at_same equal
          | inr differs ↦ subst (λ es. IsNodeRun (wired k) o es f) (deeds k ∙ at_other k K X (all_deeds (far_of plan) ms) differs) (parts k o f (sym (get_set_other nodes K k mid differs) ∙ here) there)
        ]
          where
            at_same : K ≡ k → IsNodeRun (wired k) o (Rest k) f
            at_same equal =
                let new : mid ≡ o = (let both : Some mid ≡ Some o = sym (get_set_same nodes K n mid at) ∙ ap (slice_get (slice_set nodes K mid)) equal ∙ here in cc) in
                let end : e ≡ f = (let both : Some e ≡ Some f = sym at_end ∙ ap (slice_get ends) equal ∙ there in cc) in
                subst (λ j. IsNodeRun (wired j) o (Rest j) f) equal (subst (λ g. IsNodeRun (wired K) o (Rest K) g) end (subst (λ g. IsNodeRun (wired K) g (Rest K) e) new run.3))

    joint_run : (j : LeadsJoint plan K X.act) (n e n' e' : Node Token) → slice_get nodes K ≡ Some n → slice_get ends K ≡ Some e → slice_get nodes (port_place plan j.far) ≡ Some n' → slice_get ends (port_place plan j.far) ≡ Some e' → IsDoneRun plain_kind (network_of plan nodes) (map (lead_pair plan) (m ∷ ms)) (network_of plan ends)
    joint_run j n e n' e' at at_end far_at far_end = (network_of plan next, applied nodes next (lead_event plan m) X.reply possible step below, ready_reply, again next next_ready next_long rest)
      where
        F : ℕ
        F = port_place plan j.far

        Y : Entry
        Y = entry_of (stamp_of X) (far_act j.far X.reply) ReplyOf.Done

        apart : K ≢ F
        apart same = nodes_apart plan is_plan j.near j.far j.wired (j.place ∙ same)

        deeds : (k : ℕ) → at_place k (all_deeds (far_of plan) (m ∷ ms)) ≡ at_place k ((K, X) ∷ (F, Y) ∷ all_deeds (far_of plan) ms)
        deeds k = ap (λ o. at_place k ((K, X) ∷ (far_deed (far_of plan) o ++ all_deeds (far_of plan) ms))) (far_joint plan K X j)

        run : IsNodeRun (wired K) n (X ∷ Rest K) e
        run = subst (λ es. IsNodeRun (wired K) n es e) (deeds K ∙ at_here K K X ((F, Y) ∷ all_deeds (far_of plan) ms) refl ∙ ap (λ es. X ∷ es) (at_other K F Y (all_deeds (far_of plan) ms) (λ same. apart (sym same)))) (parts K n e at at_end)

        far_run : IsNodeRun (wired F) n' (Y ∷ Rest F) e'
        far_run = subst (λ es. IsNodeRun (wired F) n' es e') (deeds F ∙ at_other F K X ((F, Y) ∷ all_deeds (far_of plan) ms) apart ∙ at_here F F Y (all_deeds (far_of plan) ms) refl) (parts F n' e' far_at far_end)

        mid : Node Token
        mid = run.0

        far_mid : Node Token
        far_mid = far_run.0

        one : List (Node Token)
        one = slice_set nodes K mid

        next : List (Node Token)
        next = slice_set one F far_mid

        far_on : slice_get one F ≡ Some n'
        far_on = get_set_other nodes K F mid apart ∙ far_at

        one_ready : AreReady one
        one_ready = still_ready nodes K n mid ready at (same_kind (wired K) X.act n mid X.reply run.1 run.2) (wide_act 0 X.act n (X.reply, mid) (ready.wide K n at) run.2)

        next_ready : AreReady next
        next_ready = still_ready one F n' far_mid one_ready far_on (same_kind (wired F) Y.act n' far_mid Y.reply far_run.1 far_run.2) (wide_act 0 Y.act n' (Y.reply, far_mid) (ready.wide F n' far_at) far_run.2)

        next_long : length ends ≡ length next
        next_long = long ∙ sym (length-set nodes K mid) ∙ sym (length-set one F far_mid)

        is : lead_event plan m ≡ crossing_event j.crossing j.near
        is = rw j.told refl

        possible : event_fault plan (lead_event plan m) ≡ None
        possible = ap (event_fault plan) is ∙ crossing_possible j.crossing j.near j.far j.wired

        left : node_act plain_kind 0 (near_act j.crossing j.near) n ≡ Some (X.reply, mid)
        left = subst (λ a. node_act plain_kind 0 a n ≡ Some (X.reply, mid)) j.is run.2

        step : network_step plain_kind (network_of plan nodes) (lead_event plan m) ≡ Some (X.reply, network_of plan next)
        step =
            ap (network_step plain_kind (network_of plan nodes)) is
            ∙ joint_step_is nodes ready j.crossing j.near j.far n mid n' far_mid X.reply ReplyOf.Done j.wired (ap (slice_get nodes) j.place ∙ at) far_at left far_run.2
            ∙ ap (λ k. Some (X.reply, network_of plan (slice_set (slice_set nodes k mid) F far_mid))) j.place

        below : event_limit (network_of plan nodes) (lead_event plan m) ≡ None
        below = ap (event_limit (network_of plan nodes)) is ∙ crossing_below nodes j.crossing j.near j.far j.wired

        rest : RunParts wired next ends ms
        rest k o f here there = elim (cases_eq K k) [
          | inl equal ↦ at_near equal
          | inr differs ↦ elim (cases_eq F k) [
            | inl equal ↦ at_far equal
            | inr other ↦ subst (λ es. IsNodeRun (wired k) o es f) (deeds k ∙ at_other k K X ((F, Y) ∷ all_deeds (far_of plan) ms) differs ∙ at_other k F Y (all_deeds (far_of plan) ms) other) (parts k o f (sym (get_set_other nodes K k mid differs) ∙ sym (get_set_other one F k far_mid other) ∙ here) there)
          ]
        ]
          where
            at_near : K ≡ k → IsNodeRun (wired k) o (Rest k) f
            at_near equal =
                let new : mid ≡ o = (let both : Some mid ≡ Some o = sym (get_set_same nodes K n mid at) ∙ sym (get_set_other one F K far_mid (λ same. apart (sym same))) ∙ ap (slice_get next) equal ∙ here in cc) in
                let end : e ≡ f = (let both : Some e ≡ Some f = sym at_end ∙ ap (slice_get ends) equal ∙ there in cc) in
                subst (λ j. IsNodeRun (wired j) o (Rest j) f) equal (subst (λ g. IsNodeRun (wired K) o (Rest K) g) end (subst (λ g. IsNodeRun (wired K) g (Rest K) e) new run.3))

            at_far : F ≡ k → IsNodeRun (wired k) o (Rest k) f
            at_far equal =
                let new : far_mid ≡ o = (let both : Some far_mid ≡ Some o = sym (get_set_same one F n' far_mid far_on) ∙ ap (slice_get next) equal ∙ here in cc) in
                let end : e' ≡ f = (let both : Some e' ≡ Some f = sym far_end ∙ ap (slice_get ends) equal ∙ there in cc) in
                subst (λ j. IsNodeRun (wired j) o (Rest j) f) equal (subst (λ g. IsNodeRun (wired F) o (Rest F) g) end (subst (λ g. IsNodeRun (wired F) g (Rest F) e') new far_run.3))

    -- the first event is done, and then the rest
    first_run : K < length plan.switches + length plan.terminals → IsDoneRun plain_kind (network_of plan nodes) (map (lead_pair plan) (m ∷ ms)) (network_of plan ends)
    first_run inside = by_cases (lead_cases plan K X.act sure.leads)
      where
        counted : length nodes ≡ length plan.switches + length plan.terminals
        counted = nodes_counted plan nodes ready.placed

        by_cases : LeadsAlone plan K X.act ⊎ LeadsJoint plan K X.act → IsDoneRun plain_kind (network_of plan nodes) (map (lead_pair plan) (m ∷ ms)) (network_of plan ends)
        by_cases (inl alone) =
            let n = element_at nodes K (omega (arith, inside, counted)) in
            let e = element_at ends K (omega (arith, inside, counted, long)) in
            alone_run inside n.0 e.0 n.1 e.1 alone
        by_cases (inr j) =
            let n = element_at nodes K (omega (arith, inside, counted)) in
            let e = element_at ends K (omega (arith, inside, counted, long)) in
            let far_inside = port_there j.far j.near (peer_back plan is_plan j.near j.far j.wired) in
            let n' = element_at nodes (port_place plan j.far) (omega (arith, far_inside, counted)) in
            let e' = element_at ends (port_place plan j.far) (omega (arith, far_inside, counted, long)) in
            joint_run j n.0 e.0 n'.0 e'.0 n.1 e.1 n'.1 e'.1
          where
            port_there : (p q : Port) → peer plan p ≡ Some q → port_place plan p < length plan.switches + length plan.terminals
            port_there (Port.Switch s l) q wired = let inside = (switch_inside plan is_plan s l q wired).0 in omega (arith, inside)
            port_there (Port.Terminal t) q wired = let inside = terminal_inside plan is_plan t q wired in omega (arith, inside)

  -- the network runs the events of entries that lead
  pub network_runs : (wired : ℕ → ℕ) (ms : List (ℕ × Lead Entry)) (nodes ends : List (Node Token)) → AreReady nodes → length ends ≡ length nodes → AllByRecursion (IsSure plan) ms → AllByRecursion (λ m. m.1.place < length plan.switches + length plan.terminals) ms → RunParts wired nodes ends ms → IsDoneRun plain_kind (network_of plan nodes) (map (lead_pair plan) ms) (network_of plan ends)
  network_runs wired [] nodes ends ready long sure inside parts = ap (network_of plan) (same_places nodes ends long (λ k x y left right. parts k x y left right))
  network_runs wired (m ∷ ms) nodes ends ready long sure inside parts = first_run wired nodes ends ready long m ms sure.0 parts (λ next next_ready next_long rest. network_runs wired ms next ends next_ready next_long sure.1 inside.1 rest) inside.0
