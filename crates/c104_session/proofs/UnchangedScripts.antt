-- A script that changes nothing leaves a network that nobody changed, whose terminals sent what its lines sent.
use Rattle.{c104_check.specs.Routes.Routes, c104_deadlock.proofs.RoundsAlike.of_fair_events, c104_event.specs.declared.events.Event.Event}
use Rattle.{c104_event.specs.declared.faults.EventFault.EventFault, c104_net.{proofs.SentBytes.SendsBytes, specs.Unchanged.MayHappen}}
use Rattle.{c104_node.specs.declared.starts.NodeStart.NodeStart, c104_plan.specs.Plans.{IsPlan, Plan}, c104_run.proofs.RoundRuns.run_seen}
use Rattle.c104_run.specs.{EventRuns.Outcome, FairRounds.{InTurn, fair_events, fairly, in_turn}, HandedWords.{rounds_with, words_of}}
use Rattle.c104_run.specs.{NetRecords.{NetRecord, is_done}, RecordedRuns.record_apply, declared.words.Words.Words}
use Rattle.c104_script.{proofs.ScriptBytes.{AskedBytes, line_bytes}, specs.{Script.read_script_line, declared.faults.LineFault.LineFault}}
use Rattle.{c104_script.specs.declared.{places.Request.Request, probes.Probe.Probe}, c104_session.proofs.PeekedNets.IsNoPoke}
use Rattle.c104_session.proofs.{PeekedNets.probe_leaves, UnchangedNets.{Fact, IsUnchangedNet, Keeps, event_leaves, events_leave, of_rounds}}
use Rattle.c104_session.specs.PrintedPackets.{LeaveUnchanged, MayAsk, asked_sends, line_sends, lines_sent, was_done}
use Rattle.c104_session.specs.{Settling.rounds_to_rest, Shown.{answer_of_read, event_answer, fair_outcome, line_answer, line_outcome}}
use Rattle.{c104_session.specs.declared.session.Session.Session, c104_stream.specs.Scripts.lines_outcome, c104_switch.specs.Actions.Reply}
use Rattle.{c104_token.specs.declared.packets.Packet.Packet, std.proofs.Common.{Bool, Err, IfOk, List, None, Ok, Option, Result, Some, []}}
use Rattle.std.proofs.Common.{ap, append-nil, append_assoc, arith, false, if◌then◌else◌, refl, subst, suc, sym, true, ℕ, ◌++◌, ◌∙◌, ◌∷◌}
use Rattle.std.proofs.Common.{◌≡◌}

done_same : (a : Result Reply EventFault) → is_done a ≡ was_done (Some (event_answer a))
done_same a = search arith

may_of : (routes : Routes) (e : Event) (a : Result Reply EventFault) → MayAsk routes (Ok (Some (Request.Asked e))) (Some (event_answer a)) → (r : Reply) → a ≡ Ok r → MayHappen routes e r
may_of routes e a may r is = search arith

none_if : {X : Type 0} (b : Bool) → ◌≡◌ {A = List X} (if b then [] else []) []
none_if b = search arith

module _ (routes : Routes) (plan : Plan) (is_plan : IsPlan plan) (starts : List NodeStart) (fact : Fact) (keeps : Keeps routes plan starts fact) where
  abbrev Is : List (ℕ × Packet) → NetRecord → Type 0
  Is sends net = IsUnchangedNet routes plan starts fact sends net

  -- what is read of a line sends this, where it is answered so
  abbrev read_sends : Session → Result (Option Request) LineFault → List (ℕ × Packet)
  read_sends session asked = if was_done (answer_of_read session asked).0 then asked_sends asked else []

  module _ (sends : List (ℕ × Packet)) (session : Session) (was : IsUnchangedNet routes plan starts fact sends session.net) where
    abbrev IsAfter : Result (Option Request) LineFault → Type 0
    IsAfter asked = Is (sends ++ read_sends session asked) (answer_of_read session asked).1.net

    nothing : (b : Bool) (net : NetRecord) → Is sends net → Is (sends ++ (if b then [] else [])) net
    nothing b net left = subst (λ (l : List (ℕ × Packet)). Is l net) (sym (ap (λ (l : List (ℕ × Packet)). sends ++ l) (none_if b) ∙ append-nil sends)) left

    event_done : (e : Event) → SendsBytes e → MayAsk routes (Ok (Some (Request.Asked e))) (answer_of_read session (Ok (Some (Request.Asked e)))).0 → IsAfter (Ok (Some (Request.Asked e)))
    event_done e bytes may = search (arith, done_same, event_leaves, may_of)

    poked : (it : Probe) → MayAsk routes (Ok (Some (Request.Probed it))) (answer_of_read session (Ok (Some (Request.Probed it)))).0 → IsNoPoke routes plan is_plan starts fact keeps sends it
    poked it may = search arith

    -- what fair rounds leave, beside their turns
    fair_leaves : (words : Words) (count : ℕ) → Is sends (fair_outcome words session.net session.turns count).1.state
    fair_leaves words count =
        let x : InTurn NetRecord = in_turn session.net session.turns in
        let events : List Event = fair_events record_apply words session.net.network.plan count x in
        subst (λ (n : NetRecord). Is sends n)
        (sym (ap (λ (o : Outcome NetRecord). o.1) (run_seen (fairly record_apply) record_apply (λ (z : InTurn NetRecord). z.state) (λ z e. refl) events x)))
        (events_leave routes plan is_plan starts fact keeps sends events session.net
        (of_fair_events record_apply words session.net.network.plan count x) was)

    read_leaves : (asked : Result (Option Request) LineFault) → IfOk asked (AskedBytes plan) → MayAsk routes asked (answer_of_read session asked).0 → IsAfter asked
    read_leaves (Ok None) bytes may = nothing false session.net was
    read_leaves (Ok (Some (Request.Asked e))) bytes may = event_done e bytes may
    read_leaves (Ok (Some (Request.Rounds count true seed))) bytes may =
        nothing (was_done (answer_of_read session (Ok (Some (Request.Rounds count true seed)))).0) _ (fair_leaves (words_of seed) count)
    read_leaves (Ok (Some (Request.Rounds count false seed))) bytes may =
        nothing (was_done (answer_of_read session (Ok (Some (Request.Rounds count false seed)))).0) _
        (events_leave routes plan is_plan starts fact keeps sends (rounds_with (words_of seed) session.net.network.plan count) session.net
        (of_rounds (words_of seed) session.net.network.plan count) was)
    read_leaves (Ok (Some Request.Settle)) bytes may =
        nothing (was_done (answer_of_read session (Ok (Some Request.Settle))).0) _
        (events_leave routes plan is_plan starts fact keeps sends (rounds_with Words.Zero session.net.network.plan (rounds_to_rest session.net))
        session.net (of_rounds Words.Zero session.net.network.plan (rounds_to_rest session.net)) was)
    read_leaves (Ok (Some (Request.Probed it))) bytes may = nothing (was_done (answer_of_read session (Ok (Some (Request.Probed it)))).0) _ (probe_leaves routes plan is_plan starts fact keeps sends session.net session.image it (poked it may) was)
    read_leaves (Ok (Some (Request.Refused kind))) bytes may = nothing false session.net was
    read_leaves (Err kind) bytes may = nothing false session.net was

    -- a line that changes nothing
    pub line_leaves : (line : List ℕ) → MayAsk routes (read_script_line session.net.network.plan session.image line) (line_answer session line).0 → Is (sends ++ line_sends session line) (line_answer session line).1.net
    unfolding line_answer
    line_leaves line may = search (arith, read_leaves, line_bytes)

  -- lines in turn
  pub lines_leave : (lines : List (List ℕ)) (number : ℕ) (sends : List (ℕ × Packet)) (session : Session) → LeaveUnchanged routes session lines → Is sends session.net → Is (sends ++ lines_sent session lines) (lines_outcome line_outcome number session lines).1.net
  unfolding line_outcome
  lines_leave [] number sends session all was = subst (λ (l : List (ℕ × Packet)). Is l session.net) (sym (append-nil sends)) was
  lines_leave (line ∷ lines) number sends session all was =
      let after : Session = (line_answer session line).1 in
      subst (λ (l : List (ℕ × Packet)). Is l (lines_outcome line_outcome (suc number) after lines).1.net) (append_assoc sends (line_sends session line) (lines_sent after lines))
      (lines_leave lines (suc number) (sends ++ line_sends session line) after all.1 (line_leaves sends session was line all.0))
