-- Where no event of a round is done the network stands still, or an inbox or a trace is full.
use Rattle.c104_deadlock.{proofs.{HandedRounds.still_plain, RoundMembers.each_of_round_with}, specs.DeadlockFreedom.HasFullInbox}
use Rattle.{c104_deadlock.specs.DeadlockFreedom.{HasFullTrace, IsUndone, NothingDone}, c104_event.specs.declared.events.Event.Event}
use Rattle.{c104_event.specs.declared.faults.EventFault.EventFault, c104_link.{proofs.MadeSteps.All-place, specs.Steps.◌>>=◌}}
use Rattle.c104_node.specs.{Nodes.{Node, arrived_tokens}, PortActs.{Acts, act_limit, acts_limit, inbox_limit}, Traces.full_at}
use Rattle.c104_node.specs.{Traces.{is_trace_full, part}, declared.{acts.{ActOf.ActOf, Entry.Entry}, crossings.Crossing.Crossing}}
use Rattle.c104_plan.{proofs.{RangeLists.all_of_each, Wires.wiring}, specs.{Plans.{IsPlan, Plan}, Wiring.peer, declared.ports.Port.Port}}
use Rattle.c104_run.proofs.{ActAttempts.{claim_possible, drain_possible, turn_possible}, IdleEvents.wired_inside, RoundRuns.Applied}
use Rattle.c104_run.specs.{EventActs.{crossing_acts, event_acts, port_place}, EventDeeds.{acts_full, event_full}, HandedWords.round_with}
use Rattle.c104_run.specs.{NetRecords.{NetRecord, is_done}, Network.{Network, event_fault, event_limit, network_apply, network_step}}
use Rattle.c104_run.specs.Network.{outcome_if_possible, outcome_if_ready, outcome_within_limit, terminal_place, wired_fault}
use Rattle.c104_run.specs.{RecordedRuns.{record_apply, record_stage}, Rounds.round, Stages.stage_full, Standstill.{IsUnready, StandsStill}}
use Rattle.{c104_run.specs.declared.words.Words.Words, c104_switch.specs.{Actions.{Action, Reply}, declared.actions.ActionOf.ActionOf}}
use Rattle.{c104_switch.specs.declared.actions.ReplyOf.ReplyOf, c104_token.specs.{Kinds.plain_kind, declared.tokens.Token.Token}}
use Rattle.std.proofs.Common.{Bool, Err, List, None, Ok, Option, Result, Some, [], ap, false, if◌then◌else◌, inl, inr, length, map, nat_lt}
use Rattle.std.proofs.Common.{refl, slice_get, suc, sym, true, unwrap_or, ℕ, ⊎_elim, ◌&&◌, ◌<◌, ◌||◌, ◌∙◌, ◌∷◌, ◌≡◌, ◌⊎◌}
use Rattle.std.{proofs.lemmas.Option.slice_get-map, specs.{List.AllByRecursion, Option.option_map}}

module _ (net : NetRecord) where
  abbrev plan : Plan
  plan = net.network.plan

  -- a trace that is full is one of the traces
  full_trace : (k : ℕ) → full_at (map is_trace_full net.traces) k ≡ true → HasFullTrace net
  full_trace k full = by_trace (slice_get net.traces k) refl (ap (λ o. unwrap_or o false) (sym (slice_get-map is_trace_full net.traces k)) ∙ full)
    where
      by_trace : (o : Option (List Entry)) → slice_get net.traces k ≡ o → unwrap_or (option_map is_trace_full o) false ≡ true → HasFullTrace net
      by_trace None at is = absurd (cc is)
      by_trace (Some trace) at is = (k, trace, at, is)

  either : (j k : ℕ) → (full_at (map is_trace_full net.traces) j || full_at (map is_trace_full net.traces) k) ≡ true → HasFullTrace net
  either j k is = by_first (full_at (map is_trace_full net.traces) j) refl is
    where
      by_first : (b : Bool) → full_at (map is_trace_full net.traces) j ≡ b → (b || full_at (map is_trace_full net.traces) k) ≡ true → HasFullTrace net
      by_first true first all = full_trace j first
      by_first false first all = full_trace k all

  acts_trace : (o : Option (Acts Token)) → part false (λ (acts : Acts Token). acts_full plan (map is_trace_full net.traces) acts) o ≡ true → HasFullTrace net
  acts_trace None is = absurd (cc is)
  acts_trace (Some (Acts.Alone k a)) is = full_trace k is
  acts_trace (Some (Acts.Joint p q c)) is = either (port_place plan p) (port_place plan q) is

  event_trace : (e : Event) → event_full plan (map is_trace_full net.traces) e ≡ true → HasFullTrace net
  event_trace e full = acts_trace (event_acts plan e) full

  -- what hinders an event that isn't done: it isn't ready, or an inbox or a trace is full
  abbrev Hindered : Event → Type 0
  Hindered e = IsUnready plain_kind net.network e ⊎ (HasFullInbox net ⊎ HasFullTrace net)

  abbrev Due : Type 0
  Due = Applied (Network Token)

  -- a fault of an event that is possible is that of its limit
  limit_is : (e : Event) (o : Option (Reply × Network Token)) (f : EventFault) → (outcome_if_ready plain_kind net.network e o).0 ≡ Err f → event_limit net.network e ≡ Some f
  limit_is e None f is = absurd (cc is)
  limit_is e (Some r) f is = by_limit (event_limit net.network e) is
    where
      by_limit : (limit : Option EventFault) → (outcome_within_limit plain_kind net.network limit r).0 ≡ Err f → limit ≡ Some f
      by_limit None is = absurd (cc is)
      by_limit (Some g) is = cc

  hindered : (e : Event) → event_fault plan e ≡ None → ((f : EventFault) → event_limit net.network e ≡ Some f → (record_apply net e).0 ≡ Err f → HasFullInbox net) → IsUndone net e → Hindered e
  hindered e possible limited undone = by_full (stage_full true (record_stage net) e) refl (is_done (network_apply plain_kind net.network e).0) refl undone (λ f. limited f)
    where
      by_answer : (answer : Result Reply EventFault) → (network_apply plain_kind net.network e).0 ≡ answer → is_done answer ≡ false → ((f : EventFault) → answer ≡ Err f → HasFullInbox net) → Hindered e
      by_answer (Ok ReplyOf.NotReady) is none limit = inl is
      by_answer (Err f) is none limit = inr (inl (limit f refl))
      by_answer answer is none limit = absurd (cc none)

      by_full : (full : Bool) → stage_full true (record_stage net) e ≡ full → (done : Bool) → is_done (network_apply plain_kind net.network e).0 ≡ done →
          is_done (if◌then◌else◌ {A = Due} (full && done) (Err EventFault.TraceFull, net.network) (network_apply plain_kind net.network e)).0 ≡ false →
          ((f : EventFault) → event_limit net.network e ≡ Some f → (if◌then◌else◌ {A = Due} (full && done) (Err EventFault.TraceFull, net.network) (network_apply plain_kind net.network e)).0 ≡ Err f → HasFullInbox net) → Hindered e
      by_full true full true done none limit = inr (inr (event_trace e full))
      by_full true full false done none limit = by_answer (network_apply plain_kind net.network e).0 refl done (λ f is. limit f (limit_is e (network_step plain_kind net.network e) f (ap (λ o. (outcome_if_possible plain_kind net.network e o).0) (sym possible) ∙ is)) is)
      by_full false full done is none limit = by_answer (network_apply plain_kind net.network e).0 refl none (λ f is. limit f (limit_is e (network_step plain_kind net.network e) f (ap (λ o. (outcome_if_possible plain_kind net.network e o).0) (sym possible) ∙ is)) is)

  -- the events of a round are possible
  module _ (is_plan : IsPlan net.network.plan) where
    wired_possible : (p q : Port) → peer plan p ≡ Some q → wired_fault plan p ≡ None
    wired_possible p q wire = wired_inside plan p q ((wiring plan is_plan).inside p q wire) wire

    -- none has a limit but an arrival
    no_limit : {P : Type 0} (f : EventFault) → None ≡ Some f → P
    no_limit f is = absurd (let no : ⊥ = cc in no)

    abbrev May : Event → Type 0
    May e = IsUndone net e → Hindered e

    none_limits : (c : Crossing) (p q : Port) → peer plan p ≡ Some q → (crossing_acts c p (peer plan p) >>= acts_limit net.network.nodes) ≡ None
    none_limits c p q wire = ap (λ o. crossing_acts c p o >>= acts_limit net.network.nodes) wire

    step_unlimited : (o : Option (Node Token)) (a : Action) → act_limit o (ActOf.Step a) ≡ None
    step_unlimited None a = refl
    step_unlimited (Some n) a = refl

    credit_may : (p q : Port) → peer plan p ≡ Some q → May (Event.Credit p)
    credit_may p q wire = hindered (Event.Credit p) (wired_possible p q wire) (λ f is told. no_limit f (sym (none_limits Crossing.Grant p q wire) ∙ is))

    cross_may : (p q : Port) → peer plan p ≡ Some q → May (Event.Cross p)
    cross_may p q wire = hindered (Event.Cross p) (wired_possible p q wire) (λ f is told. no_limit f (sym (none_limits Crossing.Token p q wire) ∙ is))

    turn_may : (s l w : ℕ) (q : Port) → peer plan (Port.Switch s l) ≡ Some q → May (Event.Input s l w)
    turn_may s l w q wire = hindered (Event.Input s l w) (turn_possible plan s l w (wired_possible (Port.Switch s l) q wire)) (λ f is told. no_limit f (sym (step_unlimited (slice_get net.network.nodes s) (ActionOf.Input l w)) ∙ is))

    claim_may : (s i o : ℕ) → s < length plan.switches → i < 32 → o < 32 → May (Event.Claim s i o)
    claim_may s i o inside input output = hindered (Event.Claim s i o) (claim_possible plan s i o inside input output) (λ f is told. no_limit f (sym (step_unlimited (slice_get net.network.nodes s) (ActionOf.Claim i o)) ∙ is))

    drain_may : (t : ℕ) → t < length plan.terminals → May (Event.Drain t)
    drain_may t inside = hindered (Event.Drain t) (drain_possible plan t inside) (λ f is told. (t, told ∙ ap Err (full (slice_get net.network.nodes (terminal_place plan t)) f is)))
      where
        full : (o : Option (Node Token)) (f : EventFault) → act_limit o ActOf.Drain ≡ Some f → f ≡ EventFault.InboxFull
        full None f is = absurd (let no : ⊥ = cc in no)
        full (Some n) f is = by_test (nat_lt (length (arrived_tokens n)) inbox_limit) is
          where
            by_test : (b : Bool) → (if b then None else Some EventFault.InboxFull) ≡ Some f → f ≡ EventFault.InboxFull
            by_test true is = absurd (let no : ⊥ = cc in no)
            by_test false is = cc

    each_event : (words : Words) → AllByRecursion May (round_with words plan)
    each_event words = each_of_round_with plan May words credit_may cross_may turn_may claim_may drain_may

    -- all of them are unready, or something is full
    abbrev Found : List Event → Type 0
    Found es = AllByRecursion (IsUnready plain_kind net.network) es ⊎ (HasFullInbox net ⊎ HasFullTrace net)

    found_in : (es : List Event) → AllByRecursion May es → ((i : ℕ) (e : Event) → slice_get es i ≡ Some e → IsUndone net e) → Found es
    found_in [] may undone = inl tt
    found_in (e ∷ es) may undone = by_first (found_in es may.1 (λ i f at. undone (suc i) f at)) (may.0 (undone 0 e refl))
      where
        by_first : Found es → Hindered e → Found (e ∷ es)
        by_first (inl rest) (inl first) = inl (first, rest)
        by_first (inr full) (inl first) = inr full
        by_first rest (inr full) = inr full

    undone_found : (words : Words) → NothingDone words net → StandsStill plain_kind net.network ⊎ (HasFullInbox net ⊎ HasFullTrace net)
    undone_found words none = ⊎_elim (λ (all : AllByRecursion (IsUnready plain_kind net.network) (round_with words plan)). inl (all_of_each (IsUnready plain_kind net.network) (round plan) (still_plain plain_kind net.network words (round plan) all))) (λ (full : HasFullInbox net ⊎ HasFullTrace net). inr full)
        (found_in (round_with words plan) (each_event words) (λ i e at. All-place (IsUndone net) (round_with words plan) i e at none))

pub undone_stands : (net : NetRecord) → IsPlan net.network.plan → (words : Words) → NothingDone words net → StandsStill plain_kind net.network ⊎ (HasFullInbox net ⊎ HasFullTrace net)
undone_stands net is_plan words none = undone_found net is_plan words none
