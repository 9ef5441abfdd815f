-- Rounds go on until the network is quiet: each round that does something leaves less work, whatever words its inputs are handed, and
-- in whatever order its claims are.
use Rattle.c104_check.specs.{ChannelDependencies.IsRanking, Routes.{IsRandomized, Routes, link_settings, routes_of}, Walks.port_of}
use Rattle.{c104_check.specs.declared.ports.SwitchPort.SwitchPort, c104_deadlock.proofs.{RoundMembers.still_of, RoundsAlike.AreRounds}}
use Rattle.c104_deadlock.proofs.{RoundsAlike.rounds_idle, StillPorts.{all_quiet, depends_on}, WorkEvents.{AreFalling, AreStarted}}
use Rattle.c104_deadlock.{proofs.{WorkEvents.{event_less, event_started}, WorkSteps.{at_far, far_of, own}}, specs.HeaderWork.ahead_by}
use Rattle.{c104_deadlock.specs.HeaderWork.{random_ahead, random_work}, c104_event.specs.declared.events.Event.Event}
use Rattle.{c104_event.specs.declared.faults.EventFault.EventFault, c104_net.proofs.{JointKeeps.IsOfRound, LinkEvents.world_of}}
use Rattle.c104_net.proofs.{NodeViews.phases, PacketInvariant.{IsChosen, IsLabelled, Suits, group_at}, PlanWires.wired, Promises.IsSettled}
use Rattle.c104_net.{proofs.{Promises.{one, set_is}, RunSteps.done_step_is, SentBytes.SendsBytes}, specs.Unchanged.MayHappen}
use Rattle.c104_node.specs.{Nodes.Node, Traced.traced_kind, declared.{node.NodeOf.NodeOf, traced.Traced.Traced}}
use Rattle.c104_plan.{proofs.RangeLists.all_of_each, specs.{PlanImage.Image, Plans.{IsPlan, Plan}, Wiring.peer, declared.ports.Port.Port}}
use Rattle.{c104_regs.specs.{Settings.header_length, declared.settings.Settings.Settings}, c104_run.proofs.BalanceEvents.applied_steady}
use Rattle.c104_run.{proofs.{BalanceWires.peer_back, RoundRuns.{run_append, undone_leaves}}, specs.{Balance.IsSteady, EventRuns.Outcome}}
use Rattle.c104_run.specs.{EventRuns.{run_events, unless_fault}, Network.{Network, network_apply, network_of, network_step}}
use Rattle.{c104_run.specs.{QuietNets.IsQuiet, Rounds.round, Standstill.{IsStarted, IsUnready}}, c104_switch.specs.Actions.Reply}
use Rattle.c104_switch.specs.{Actions.is_ready, Group.is_in_group, Switch.{Input, Switch}, declared.actions.ReplyOf.ReplyOf}
use Rattle.{c104_switch.specs.declared.phase.Phase.TheVariants.{Stream, Want}, std.proofs.Common.{Bool, Err, List, None, Ok, Option}}
use Rattle.std.proofs.Common.{Result, Some, [], ap, arith, false, inl, inr, length, refl, slice_get, subst, suc, sym, true, zero, ℕ, ⊎_elim}
use Rattle.std.{proofs.{Common.{◌*◌, ◌+◌, ◌<◌, ◌∙◌, ◌∷◌, ◌≡◌, ◌≤◌, ◌⊎◌}, lemmas.Bool.cases_Bool}, specs.List.AllByRecursion}

pub may_happen : (routes : Routes) (e : Event) (r : Reply) → IsOfRound e → MayHappen routes e r
may_happen routes e r of = grind arith

pub sends_none : (e : Event) → IsOfRound e → SendsBytes e
sends_none e of = search arith

pub not_ready : (r : Reply) → is_ready r ≡ false → r ≡ ReplyOf.NotReady
not_ready r is = search arith

module _ (plan : Plan) (image : Image) (is_plan : IsPlan plan) (labelled : IsLabelled (routes_of plan image)) (rank : SwitchPort → ℕ) (falls : IsRanking (routes_of plan image) rank) where
  goes_down : (s i l o : ℕ) (R : Port) → IsChosen (routes_of plan image) (Port.Switch s i) l → group_at (routes_of plan image) (Port.Switch s i) l o ≡ true → peer plan (Port.Switch s o) ≡ Some R → far_of plan rank (Port.Switch s o) + 1 ≤ own plan rank (Port.Switch s i)
  goes_down s i l o R chosen group wire = search (arith, depends_on, wired)

  -- nothing is counted in advance at an input that a switch is wired to, since no random headers are put there
  ahead_inner : (s l : ℕ) (z o : ℕ) → peer plan (Port.Switch s l) ≡ Some (Port.Switch z o) → random_ahead (routes_of plan image) rank (port_of s l) ≡ 0
  ahead_inner s l z o wire = by_settings (link_settings (routes_of plan image).settings (port_of s l)) refl
    where
      outer : IsRandomized (routes_of plan image) (port_of s l) → ⊥
      outer random = let out = labelled.accepted.random_outside (port_of s l) random in (let clash : Some (Port.Switch z o) ≡ Some (Port.Terminal out.0) = sym wire ∙ out.1 in cc)

      by_settings : (x : Option Settings) → link_settings (routes_of plan image).settings (port_of s l) ≡ x → ahead_by (routes_of plan image).header (rank (port_of s l)) x ≡ 0
      by_settings None is = refl
      by_settings (Some x) is = ⊎_elim (λ (k : x.randomize ≡ true). absurd (outer (x, is, k))) (λ (k : x.randomize ≡ false). rw k refl) (cases_Bool x.randomize)

  none_far : (s o : ℕ) (R : Port) → peer plan (Port.Switch s o) ≡ Some R → at_far plan rank (random_ahead (routes_of plan image) rank) (Port.Switch s o) ≡ 0
  none_far s o (Port.Terminal t) wire = rw wire refl
  none_far s o (Port.Switch s' i') wire = rw wire (ahead_inner s' i' s o (peer_back plan is_plan (Port.Switch s o) (Port.Switch s' i') wire))

  pub falling : (nodes : List (Node Traced)) → IsSettled plan image is_plan labelled nodes → AreFalling plan rank (random_ahead (routes_of plan image) rank) nodes
  falling nodes good = record { puts = puts; streams = streams; wants = wants }
    where
      puts : (s i : ℕ) (S : Switch Traced) (t : Settings) → slice_get nodes s ≡ Some (NodeOf.Switch S) → slice_get S.settings i ≡ Some t → t.randomize ≡ true → random_ahead (routes_of plan image) rank (port_of s i) ≡ header_length t * (8 * own plan rank (Port.Switch s i)) + 1
      puts s i S t here set random =
          let there : link_settings (routes_of plan image).settings (port_of s i) ≡ Some t = ap (λ l. slice_get l i) (sym (set_is plan image is_plan labelled nodes good.set s S here)) ∙ set in
          let out = labelled.accepted.random_outside (port_of s i) (t, there, random) in
          let long : header_length t ≡ (routes_of plan image).header = labelled.accepted.one_length (port_of s i) (Port.Terminal out.0) t out.1 there in
          let is_put : ahead_by (routes_of plan image).header (rank (port_of s i)) (Some t) ≡ (routes_of plan image).header * (8 * (rank (port_of s i) + 1)) + 1 = rw random refl in
          ap (ahead_by (routes_of plan image).header (rank (port_of s i))) there ∙ is_put ∙ ap (λ n. n * (8 * (rank (port_of s i) + 1)) + 1) (sym long)

      streams : (s i o : ℕ) (S : Switch Traced) (p : Input Traced) → slice_get nodes s ≡ Some (NodeOf.Switch S) → slice_get S.inputs i ≡ Some p → p.phase ≡ Stream o → (far_of plan rank (Port.Switch s o) + 1 ≤ own plan rank (Port.Switch s i)) × (at_far plan rank (random_ahead (routes_of plan image) rank) (Port.Switch s o) ≡ 0)
      streams s i o S p here input e =
          let phase : phases plan nodes (Port.Switch s i) ≡ Stream o = rw (here, input) e in
          let u : Suits (routes_of plan image) (world_of plan image nodes).book good.holds.0 (Port.Switch s i) (Stream o) = rw phase at (good.holds.1.suits (Port.Switch s i)) in
          (goes_down s i u.4 o u.1 u.5 u.6 u.2, none_far s o u.1 u.2)

      wants : (s i o g : ℕ) (S : Switch Traced) (p : Input Traced) (b : List Traced) → slice_get nodes s ≡ Some (NodeOf.Switch S) → slice_get S.inputs i ≡ Some p → p.phase ≡ Want b g → is_in_group S.settings g o ≡ true → (0 < length b) × (far_of plan rank (Port.Switch s o) + 1 ≤ own plan rank (Port.Switch s i)) × (at_far plan rank (random_ahead (routes_of plan image) rank) (Port.Switch s o) ≡ 0)
      wants s i o g S p b here input e group =
          let phase : phases plan nodes (Port.Switch s i) ≡ Want b g = rw (here, input) e in
          let u : Suits (routes_of plan image) (world_of plan image nodes).book good.holds.0 (Port.Switch s i) (Want b g) = rw phase at (good.holds.1.suits (Port.Switch s i)) in
          let among : group_at (routes_of plan image) (Port.Switch s i) g o ≡ true = ap (λ l. is_in_group l g o) (sym (set_is plan image is_plan labelled nodes good.set s S here)) ∙ group in
          let out = u.2 o among in
          (omega (arith, u.3, labelled.positive), goes_down s i g o out.0 u.4 among out.1, none_far s o out.0 out.1)

  -- what a run of such events leaves: less work, or all as it was, where none of them was ready
  record Goes (nodes : List (Node Traced)) (es : List Event) (ended : Network Traced) : Type 0 where
    nodes' : List (Node Traced)
    is : network_of plan nodes' ≡ ended
    good : IsSettled plan image is_plan labelled nodes'
    started : AreStarted nodes'
    steady : IsSteady (network_of plan nodes')
    less : (random_work plan (routes_of plan image) rank nodes' + 1 ≤ random_work plan (routes_of plan image) rank nodes) ⊎ ((nodes' ≡ nodes) × AllByRecursion (IsUnready traced_kind (network_of plan nodes)) es)

  abbrev pub Run : Network Traced → List Event → Network Traced → Type 0
  Run net es ended = ◌≡◌ {A = Outcome (Network Traced)} (run_events (network_apply traced_kind) net es) (Ok tt, ended)

  goes_on : (nodes : List (Node Traced)) (e : Event) (es : List Event) (ended : Network Traced) → IsOfRound e → IsSettled plan image is_plan labelled nodes → AreStarted nodes → IsSteady (network_of plan nodes) →
      ((next : List (Node Traced)) → IsSettled plan image is_plan labelled next → AreStarted next → IsSteady (network_of plan next) → Run (network_of plan next) es ended → Goes next es ended) →
      (answer : Result Reply EventFault) (next : Network Traced) → ◌≡◌ {A = Result Reply EventFault × Network Traced} (answer, next) (network_apply traced_kind (network_of plan nodes) e) →
      ◌≡◌ {A = Outcome (Network Traced)} (unless_fault answer next (λ n. run_events (network_apply traced_kind) n es)) (Ok tt, ended) → Goes nodes (e ∷ es) ended
  goes_on nodes e es ended of good started steady later (Err f) next due is = let told : ◌≡◌ {A = Result (Unit {0}) EventFault} (Err f) (Ok tt) = ap (λ (z : Outcome (Network Traced)). z.0) is in absurd (cc)
  goes_on nodes e es ended of good started steady later (Ok r) next due is = by_ready (is_ready r) refl
    where
      by_ready : (b : Bool) → is_ready r ≡ b → Goes nodes (e ∷ es) ended
      by_ready false k =
          let stays : next ≡ network_of plan nodes = undone_leaves traced_kind (network_of plan nodes) next e r k (inl due) in
          let unready : IsUnready traced_kind (network_of plan nodes) e = sym (ap (λ (z : Result Reply EventFault × Network Traced). z.0) due) ∙ ap Ok (not_ready r k) in
          let g = later nodes good started steady (subst (λ n. Run n es ended) stays is) in
          record {
            nodes' = g.nodes';
            is = g.is;
            good = g.good;
            started = g.started;
            steady = g.steady;
            less = ⊎_elim (λ (h : random_work plan (routes_of plan image) rank g.nodes' + 1 ≤ random_work plan (routes_of plan image) rank nodes). inl h) (λ (h : (g.nodes' ≡ nodes) × AllByRecursion (IsUnready traced_kind (network_of plan nodes)) es). inr (h.0, (unready, h.1))) g.less;
          }
      by_ready true k =
          let made : network_step traced_kind (network_of plan nodes) e ≡ Some (r, next) = done_step_is traced_kind (network_of plan nodes) next e r due k in
          let n1 = one plan image is_plan labelled nodes next e r (may_happen (routes_of plan image) e r of) (sends_none e of) made good in
          let started1 : AreStarted n1.0 = subst IsStarted (sym n1.1) (event_started traced_kind plan nodes started e r next of made) in
          let steady1 : IsSteady (network_of plan n1.0) = subst IsSteady (sym n1.1) (applied_steady traced_kind plan is_plan nodes steady e (Ok r) next (inl due)) in
          let less1 : random_work plan (routes_of plan image) rank n1.0 + 1 ≤ random_work plan (routes_of plan image) rank nodes = subst (λ (n : Network Traced). random_work plan (routes_of plan image) rank n.nodes + 1 ≤ random_work plan (routes_of plan image) rank nodes) (sym n1.1) (event_less traced_kind plan is_plan rank (random_ahead (routes_of plan image) rank) nodes good.placed (falling nodes good) e r next of made) in
          let g = later n1.0 n1.2 started1 steady1 (subst (λ n. Run n es ended) (sym n1.1) is) in
          record {
            nodes' = g.nodes';
            is = g.is;
            good = g.good;
            started = g.started;
            steady = g.steady;
            less = inl (⊎_elim
                (λ (h : random_work plan (routes_of plan image) rank g.nodes' + 1 ≤ random_work plan (routes_of plan image) rank n1.0). omega (arith, h, less1))
                (λ (h : (g.nodes' ≡ n1.0) × AllByRecursion (IsUnready traced_kind (network_of plan n1.0)) es). let same : random_work plan (routes_of plan image) rank g.nodes' ≡ random_work plan (routes_of plan image) rank n1.0 = ap (random_work plan (routes_of plan image) rank) h.0 in omega (arith, same, less1))
                g.less);
          }

  goes : (es : List Event) (nodes : List (Node Traced)) (ended : Network Traced) → AllByRecursion IsOfRound es → IsSettled plan image is_plan labelled nodes → AreStarted nodes → IsSteady (network_of plan nodes) → Run (network_of plan nodes) es ended → Goes nodes es ended
  goes [] nodes ended of good started steady is = record { nodes' = nodes; is = ap (λ (z : Outcome (Network Traced)). z.1) is; good = good; started = started; steady = steady; less = inr (refl, tt) }
  goes (e ∷ es) nodes ended of good started steady is = goes_on nodes e es ended of.0 good started steady (λ next. goes es next ended of.1) (network_apply traced_kind (network_of plan nodes) e).0 (network_apply traced_kind (network_of plan nodes) e).1 refl is

  -- a round that leaves no less work leaves all as it was, and finds it quiet
  round_quiet : (nodes : List (Node Traced)) → IsSettled plan image is_plan labelled nodes → AreStarted nodes → IsSteady (network_of plan nodes) → AllByRecursion (IsUnready traced_kind (network_of plan nodes)) (round plan) → IsQuiet (network_of plan nodes)
  round_quiet nodes good started steady all = all_quiet plan image is_plan labelled nodes good steady started (still_of traced_kind (network_of plan nodes) is_plan (all_of_each (IsUnready traced_kind (network_of plan nodes)) (round plan) all)) rank falls

  -- a network in which all is settled and quiet
  pub record IsAtRest (ended : Network Traced) : Type 0 where
    pub nodes : List (Node Traced)
    pub is : network_of plan nodes ≡ ended
    pub good : IsSettled plan image is_plan labelled nodes
    pub quiet : IsQuiet (network_of plan nodes)

  abbrev pub Rest : ℕ → Type 0
  Rest n = (es : List Event) (nodes : List (Node Traced)) (ended : Network Traced) → AreRounds plan n es → IsSettled plan image is_plan labelled nodes → AreStarted nodes → IsSteady (network_of plan nodes) → random_work plan (routes_of plan image) rank nodes < n → Run (network_of plan nodes) es ended → IsAtRest ended

  one_more : (n : ℕ) → Rest n → Rest (suc n)
  one_more n later es nodes ended rounds good started steady few is =
      by_first (run_events (network_apply traced_kind) (network_of plan nodes) now).0 (run_events (network_apply traced_kind) (network_of plan nodes) now).1 refl
      (sym (ap (run_events (network_apply traced_kind) (network_of plan nodes)) rounds.2 ∙ run_append (network_apply traced_kind) now next (network_of plan nodes)) ∙ is)
    where
      now : List Event
      now = rounds.0

      next : List Event
      next = rounds.1

      by_first : (answer : Result (Unit {0}) EventFault) (mid : Network Traced) → ◌≡◌ {A = Outcome (Network Traced)} (run_events (network_apply traced_kind) (network_of plan nodes) now) (answer, mid) →
          ◌≡◌ {A = Outcome (Network Traced)} (unless_fault answer mid (λ net. run_events (network_apply traced_kind) net next)) (Ok tt, ended) → IsAtRest ended
      by_first (Err f) mid first rest = let told : ◌≡◌ {A = Result (Unit {0}) EventFault} (Err f) (Ok tt) = ap (λ (z : Outcome (Network Traced)). z.0) rest in absurd (cc)
      by_first (Ok u) mid first rest =
          let g = goes now nodes mid rounds.3.of good started steady first in
          ⊎_elim
          (λ (h : random_work plan (routes_of plan image) rank g.nodes' + 1 ≤ random_work plan (routes_of plan image) rank nodes). later next g.nodes' ended rounds.4 g.good g.started g.steady (omega (arith, h, few)) (subst (λ net. Run net next ended) (sym g.is) rest))
          (λ (h : (g.nodes' ≡ nodes) × AllByRecursion (IsUnready traced_kind (network_of plan nodes)) now).
          let same : mid ≡ network_of plan nodes = sym g.is ∙ ap (network_of plan) h.0 in
          let still : AllByRecursion (IsUnready traced_kind (network_of plan nodes)) (round plan) = rounds.3.finds nodes h.1 in
          let last : Run (network_of plan nodes) next ended = subst (λ net. Run net next ended) same rest in
          let end : network_of plan nodes ≡ ended = ap (λ (z : Outcome (Network Traced)). z.1) (sym (rounds_idle plan nodes still n next rounds.4) ∙ last) in
          record { nodes = nodes; is = end; good = good; quiet = round_quiet nodes good started steady still })
          g.less

  -- more rounds than there is work leave the network quiet, whatever words they are handed and in whatever order their claims are
  pub rounds_rest : (n : ℕ) → Rest n
  rounds_rest zero = λ es nodes ended rounds good started steady few is. absurd (omega (arith, few))
  rounds_rest (suc n) = one_more n (rounds_rest n)
