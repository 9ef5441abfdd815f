-- Rounds until a network stands still are fewer than there may be, where the labels are accepted, nobody changed the network,
-- its channels don't depend on one another in a cycle and no random headers are put before packets: each of them leaves less
-- work, so there are no more than there is work; and an entry in a trace, so there are no more than there may be entries.
use Rattle.c104_check.specs.{ChannelDependencies.{IsNeverRandomized, IsRanking}, Routes.{IsAccepted, Routes, routes_of}}
use Rattle.{c104_check.specs.declared.ports.SwitchPort.SwitchPort, c104_deadlock.proofs.FullWork.{plain_work, random_within}}
use Rattle.c104_deadlock.{proofs.RecordedRounds.{applied_plain, done_after}, specs.{DeadlockFreedom.IsAcyclicNet, HeaderWork.random_bound}}
use Rattle.{c104_deadlock.specs.{HeaderWork.{random_work, work_bound}, Work.highest_rank}, c104_event.specs.declared.events.Event.Event}
use Rattle.{c104_event.specs.declared.faults.EventFault.EventFault, c104_net.proofs.SentBytes.{AreBytesSent, SendsBytes}}
use Rattle.{c104_net.specs.{RoundEvents.IsOfRound, Unchanged.{AreStartsOf, IsUnchanged, MayHappen}}, c104_node.specs.Nodes.Node}
use Rattle.c104_node.specs.{Starts.start_node, Traces.seatless, declared.starts.NodeStart.NodeStart}
use Rattle.c104_plan.{proofs.RangeLists.each_append, specs.{PlanImage.Image, Plans.{IsPlan, Plan}}}
use Rattle.c104_run.proofs.{EntryCounts.{lengths_same, total_below}, RecordSteps.nodes_counted, RecordedRuns.record_plan, RoundRuns.Applied}
use Rattle.c104_run.specs.{EventRuns.{Outcome, run_events, unless_fault}, HandedWords.{round_with, rounds_with}, NetRecords.IsNetRecord}
use Rattle.c104_run.specs.{NetRecords.{NetRecord, total_entries}, Network.{Network, network_apply, network_of}, RecordedRuns.record_apply}
use Rattle.c104_run.specs.{Runs.{IsDoneRun, at_node, run_deeds}, Standstill.IsUnready, declared.words.Words.Words}
use Rattle.c104_script.specs.{Script.{most_rounds, read_script_line}, declared.answers.{Answer.Answer, Settled.Settled}}
use Rattle.{c104_script.specs.declared.places.Request.Request, c104_session.proofs.FurtherRounds.{event_passes, few_left, idle_still}}
use Rattle.c104_session.proofs.{SettledLaw.{Kept, Moved, first_done, first_refused, line_settles, run_keeps}, UnchangedNets.of_round}
use Rattle.c104_session.{proofs.{UnchangedNets.unchanged_on, WorkGrowth.round_less}, specs.Settling.{ChangesNothing, IsAfterRounds}}
use Rattle.c104_session.specs.{Settling.{SettlesTo, after_round, after_rounds, largest_count, rounds_at_most}, SettlingEnds.AlwaysSettles}
use Rattle.c104_session.specs.{SettlingEnds.RoundsEnd, Shown.line_answer, declared.session.Session.Session}
use Rattle.{c104_switch.specs.{Actions.{Reply, is_ready}, declared.actions.ReplyOf.ReplyOf}, c104_token.specs.Kinds.plain_kind}
use Rattle.{c104_token.specs.declared.tokens.Token.Token, std.proofs.Common.{Bool, Err, IfOk, List, Ok, Option, Result, Some, [], ap}}
use Rattle.std.proofs.Common.{arith, false, inl, inr, length, map, max, min, nat_lt, refl, subst, suc, sym, true, zero, ℕ, ◌*◌, ◌++◌, ◌+◌}
use Rattle.std.{proofs.{Common.{◌<◌, ◌∙◌, ◌∷◌, ◌≡◌, ◌≤◌, ◌⊎◌}, lemmas.Bool.Decides.nat_tests}, specs.List.AllByRecursion}

may_happen : (routes : Routes) (e : Event) (r : Reply) → IsOfRound e → MayHappen routes e r
may_happen routes e r of = search arith

no_bytes : (e : Event) → IsOfRound e → SendsBytes e
no_bytes e of = search arith

not_ready : (r : Reply) → is_ready r ≡ false → r ≡ ReplyOf.NotReady
not_ready r is = search arith

-- each of the rounds behind one changes something too
moved_later : (net next : NetRecord) (n : ℕ) → after_round net ≡ (Ok tt, next) → Moved net (suc n) → Moved next n
moved_later net next n run moved i less none =
    let within : suc i < suc n = omega (arith, less) in
    moved (suc i) within (subst (λ (o : Outcome NetRecord). ChangesNothing o.1) (sym (first_done net next i run)) none)

module _ (plan : Plan) (image : Image) (is_plan : IsPlan plan) (accepted : IsAccepted (routes_of plan image))
    (first : List NodeStart) (set : AreStartsOf plan image first) (rank : SwitchPort → ℕ)
    (falls : IsRanking (routes_of plan image) rank) (within : (p : SwitchPort) → rank p ≤ 32 * length plan.switches) where
  abbrev routes : Routes
  routes = routes_of plan image

  abbrev work : NetRecord → ℕ
  work net = random_work plan routes rank net.network.nodes

  -- a network of this plan that nobody changed in a run from these starts
  record IsCalm (net : NetRecord) : Type 0 where
    pub same : net.network.plan ≡ plan
    pub events : List (Event × Reply)
    pub run : IsDoneRun plain_kind (network_of plan (map start_node first)) events (network_of plan net.network.nodes)
    pub unchanged : IsUnchanged routes events
    pub bytes : AreBytesSent events

  -- an event of a round
  module _ (net : NetRecord) (e : Event) (of : IsOfRound e) (calm : IsCalm net) (r : Reply) (told : (record_apply net e).0 ≡ Ok r) where
    abbrev next : NetRecord
    next = (record_apply net e).1

    same_next : next.network.plan ≡ plan
    same_next = record_plan net e ∙ calm.same

    due : ◌≡◌ {A = Applied (Network Token)} (Ok r, network_of plan next.network.nodes)
        (network_apply plain_kind (network_of plan net.network.nodes) e)
    due =
        let there : network_of plan next.network.nodes ≡ next.network = ap (λ p. network_of p next.network.nodes) (sym same_next) in
        let here : net.network ≡ network_of plan net.network.nodes = ap (λ p. network_of p net.network.nodes) calm.same in
        ap (λ (n : Network Token). (Ok r, n)) there ∙ applied_plain net e r told
        ∙ ap (λ (n : Network Token). network_apply plain_kind n e) here

    -- it was done
    done_calm : is_ready r ≡ true → IsCalm next
    done_calm ready = record {
      same = same_next;
      events = calm.events ++ (e, r) ∷ [];
      run = done_after plain_kind (network_of plan (map start_node first)) (network_of plan net.network.nodes)
          (network_of plan next.network.nodes) calm.events ((e, r) ∷ []) calm.run
          (network_of plan next.network.nodes, due, ready, refl);
      unchanged = unchanged_on routes calm.events e r calm.unchanged (may_happen routes e r of);
      bytes = each_append (λ (x : Event × Reply). SendsBytes x.0) calm.events ((e, r) ∷ []) calm.bytes (no_bytes e of, tt);
    }

    less_left : is_ready r ≡ true → work next < work net
    less_left ready =
        round_less plan image is_plan accepted first set rank falls within net.network.nodes calm.events calm.run calm.unchanged
        calm.bytes e r (network_of plan next.network.nodes) of due ready

    -- it wasn't
    stays : is_ready r ≡ false → next ≡ net
    stays not =
        let unready : IsUnready plain_kind net.network e =
        sym (ap (λ (z : Applied (Network Token)). z.0) (applied_plain net e r told)) ∙ ap Ok (not_ready r not) in
        ap (λ (z : Applied NetRecord). z.1) (event_passes net e unready)

  then_less : (net next after : NetRecord) → work next < work net → (after ≡ next) ⊎ (work after < work next)
      → work after < work net
  then_less net next after less (inl same) = subst (λ (n : NetRecord). work n < work net) (sym same) less
  then_less net next after less (inr more) = omega (arith, less, more)

  -- events of a round change nothing, or leave less work; and nobody changed the network then
  abbrev Goes : NetRecord → NetRecord → Type 0
  Goes net after = IsCalm after × ((after ≡ net) ⊎ (work after < work net))

  goes : (es : List Event) (net after : NetRecord) → AllByRecursion IsOfRound es → IsCalm net
      → run_events record_apply net es ≡ (Ok tt, after) → Goes net after
  goes [] net after of calm is =
      let same : net ≡ after = ap (λ (o : Outcome NetRecord). o.1) is in (subst IsCalm same calm, inl (sym same))
  goes (e ∷ es) net after of calm is =
      by_answer (record_apply net e).0 refl (λ there rest. goes es (record_apply net e).1 after of.1 there rest) is
    where
      by_answer : (answer : Result Reply EventFault) → (record_apply net e).0 ≡ answer
          → (IsCalm (record_apply net e).1 → run_events record_apply (record_apply net e).1 es ≡ (Ok tt, after)
          → Goes (record_apply net e).1 after)
          → ◌≡◌ {A = Outcome NetRecord} (unless_fault answer (record_apply net e).1 (λ n. run_events record_apply n es)) (Ok tt, after)
          → Goes net after
      by_answer (Err f) told later rest =
          let no : ◌≡◌ {A = Result (Unit {0}) EventFault} (Err f) (Ok tt) = ap (λ (z : Outcome NetRecord). z.0) rest in absurd (cc)
      by_answer (Ok r) told later rest = by_ready (is_ready r) refl
        where
          by_ready : (b : Bool) → is_ready r ≡ b → Goes net after
          by_ready true ready =
              let left = later (done_calm net e of.0 calm r told ready) rest in
              (left.0, inr (then_less net (record_apply net e).1 after (less_left net e of.0 calm r told ready) left.1))
          by_ready false not =
              let same : (record_apply net e).1 ≡ net = stays net e of.0 calm r told not in
              subst (λ (n : NetRecord). Goes n after) same (later (subst IsCalm (sym same) calm) rest)

  -- so a round that changes something leaves less
  moved_less : (net next : NetRecord) → IsCalm net → after_round net ≡ (Ok tt, next) → (ChangesNothing net → ⊥)
      → IsCalm next × (work next < work net)
  moved_less net next calm run moves =
      by_end (goes (round_with Words.Zero net.network.plan) net next (of_round Words.Zero net.network.plan) calm run)
    where
      by_end : Goes net next → IsCalm next × (work next < work net)
      by_end (there, inl same) = absurd (moves (run ∙ ap (λ (n : NetRecord). (Ok tt, n)) same))
      by_end (there, inr less) = (there, less)

  -- and of such rounds there are no more than there is work
  rounds_few : (n : ℕ) (net new : NetRecord) → IsCalm net → after_rounds net n ≡ (Ok tt, new) → Moved net n → n ≤ work net
  rounds_few zero net new calm run moved = omega arith
  rounds_few (suc n) net new calm run moved =
      by_first (λ next there rest later. rounds_few n next new there rest later) (after_round net) refl
    where
      by_first : ((next : NetRecord) → IsCalm next → after_rounds next n ≡ (Ok tt, new) → Moved next n → n ≤ work next)
          → (o : Outcome NetRecord) → after_round net ≡ o → suc n ≤ work net
      by_first few (Ok u, next) one =
          let some : 0 < suc n = omega arith in
          let left = moved_less net next calm one (moved 0 some) in
          let less : work next < work net = left.1 in
          let more : n ≤ work next = few next left.0 (sym (first_done net next n one) ∙ run) (moved_later net next n one moved) in
          omega (arith, less, more)
      by_first few (Err f, next) one =
          let no : ◌≡◌ {A = Result (Unit {0}) EventFault} (Err f) (Ok tt) =
          ap (λ (o : Outcome NetRecord). o.0) (sym (first_refused net next n f one) ∙ run) in
          absurd (cc)

-- such a round does an event
more_done : (net next : NetRecord) → Kept net → after_round net ≡ (Ok tt, next) → (ChangesNothing net → ⊥)
    → net.count < next.count
more_done net next kept run moves = by_test (nat_lt net.count next.count) refl
  where
    by_test : (b : Bool) → nat_lt net.count next.count ≡ b → net.count < next.count
    by_test true is = grind (arith, nat_tests, is)
    by_test false is =
        let none : next.count ≤ net.count = grind (arith, nat_tests, is) in
        let same : next ≡ net = (idle_still net next (few_left net kept.0 kept.1) run none).1 in
        absurd (moves (run ∙ ap (λ (n : NetRecord). (Ok tt, n)) same))

rounds_done : (n : ℕ) (net new : NetRecord) → Kept net → after_rounds net n ≡ (Ok tt, new) → Moved net n → net.count + n ≤ new.count
rounds_done zero net new kept run moved =
    let same : net.count ≡ new.count = ap (λ (o : Outcome NetRecord). o.1.count) run in omega (arith, same)
rounds_done (suc n) net new kept run moved =
    by_first (λ next there rest later. rounds_done n next new there rest later) (after_round net) refl
  where
    by_first : ((next : NetRecord) → Kept next → after_rounds next n ≡ (Ok tt, new) → Moved next n → next.count + n ≤ new.count)
        → (o : Outcome NetRecord) → after_round net ≡ o → net.count + suc n ≤ new.count
    by_first more (Ok u, next) one =
        let some : 0 < suc n = omega arith in
        let there : Kept next = run_keeps net next (round_with Words.Zero net.network.plan) one kept in
        let grown : net.count < next.count = more_done net next kept one (moved 0 some) in
        let later : next.count + n ≤ new.count =
        more next there (sym (first_done net next n one) ∙ run) (moved_later net next n one moved) in
        omega (arith, grown, later)
    by_first more (Err f, next) one =
        let no : ◌≡◌ {A = Result (Unit {0}) EventFault} (Err f) (Ok tt) =
        ap (λ (o : Outcome NetRecord). o.0) (sym (first_refused net next n f one) ∙ run) in
        absurd (cc)

-- of which no network can do more than this
few_done : (net : NetRecord) → Kept net → net.count ≤ 335544320
few_done net kept =
    let plan : Plan = net.network.plan in
    let start : List (Node Token) = map start_node net.starts in
    let told = kept.1.told in
    let traces : length net.traces ≡ length start =
    lengths_same net.traces start (λ k n. at_node k (run_deeds plan seatless 0 told.0)) told.1.told in
    let nodes : length start ≡ length plan.switches + length plan.terminals = nodes_counted plan start kept.1.started.in_place in
    let switches : length plan.switches ≤ 64 = kept.0.few_switches in
    let terminals : length plan.terminals ≤ 256 = kept.0.terminals.few in
    let total : total_entries net.traces ≤ length net.traces * 1048576 = total_below net.traces kept.1.within in
    let counted : net.count ≤ total_entries net.traces = kept.1.counted in
    omega (arith, traces, nodes, switches, terminals, total, counted)

-- no more rounds than work are as many as there may be only where these aren't more than are counted
most_counted : (work n : ℕ) → n ≡ min largest_count (max most_rounds (work + 1)) → n ≤ work → n ≡ largest_count
most_counted work n is few = omega (arith, is, few)

all_counted : (net : NetRecord) (n : ℕ) → n ≡ rounds_at_most net → n ≤ work_bound net.network.plan net.network.nodes
    → n ≡ largest_count
unfolding rounds_at_most
all_counted net n is few = most_counted (work_bound net.network.plan net.network.nodes) n is few

module _ (net : NetRecord) (is_plan : IsPlan net.network.plan) (kept : IsNetRecord net) (sent : AreBytesSent kept.told.0) where
  abbrev plan : Plan
  plan = net.network.plan

  within_work : (image : Image) → IsAcyclicNet image net → IsNeverRandomized (routes_of plan image) → (n : ℕ) (new : NetRecord)
      → IsAfterRounds net n new → n ≤ work_bound plan net.network.nodes
  within_work image is plain n new after =
      let routes : Routes = routes_of plan image in
      let rank : SwitchPort → ℕ = is.acyclic.0 in
      let within : (p : SwitchPort) → rank p ≤ 32 * length plan.switches =
      λ p. subst (λ m. is.acyclic.0 p ≤ 32 * m) is.fits.settings (is.acyclic.2 p) in
      let few : n ≤ random_work plan routes rank net.network.nodes =
      rounds_few plan image is_plan is.kept.accepted net.starts is.kept.set rank is.acyclic.1 within n net new
      (record {
        same = refl;
        events = kept.told.0;
        run = kept.told.1.run;
        unchanged = is.kept.unchanged kept.told.0 kept.told.1;
        bytes = sent;
      }) after.rounds after.least in
      let most : random_work plan routes rank net.network.nodes ≤ random_bound plan routes net.network.nodes =
      random_within plan routes rank within net.network.nodes in
      let same : random_bound plan routes net.network.nodes ≡ work_bound plan net.network.nodes =
      plain_work plan routes (highest_rank plan) plain net.network.nodes in
      omega (arith, few, most, same)

  pub rounds_end : RoundsEnd net
  rounds_end answer after settled image is plain n moving =
      let so : SettlesTo net (Some (Answer.Settled (Settled.Moving n))) after =
      subst (λ (a : Option Answer). SettlesTo net a after) moving settled in
      let within : n ≤ work_bound plan net.network.nodes = within_work image is plain n after so.0 in
      let all : n ≡ 4294967295 = all_counted net n so.1 within in
      let done : net.count + n ≤ after.count = rounds_done n net after (is_plan, kept) so.0.rounds so.0.least in
      let there : Kept after =
      run_keeps net after (rounds_with Words.Zero plan n) so.0.rounds (is_plan, kept) in
      let few : after.count ≤ 335544320 = few_done after there in
      absurd (omega (arith, all, done, few))

-- so it is of what a session answers
pub answer_ends : {E : Type 0} (session after : Session) (line : List ℕ) (result : Result (Option Answer) E)
    → IsPlan session.net.network.plan → IsNetRecord session.net → RoundsEnd session.net
    → IfOk result (λ answer. ◌≡◌ {A = Option Answer × Session} (answer, after) (line_answer session line))
    → IfOk result (λ answer. read_script_line session.net.network.plan session.image line ≡ Ok (Some Request.Settle)
    → AlwaysSettles session.net answer)
answer_ends session after line (Ok answer) is_plan kept ends came =
    λ asks. ends answer after.net (line_settles session after line answer is_plan kept came asks)
answer_ends session after line (Err e) is_plan kept ends came = tt
