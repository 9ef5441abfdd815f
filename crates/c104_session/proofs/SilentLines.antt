-- What each event keeps that sends nothing, lines that send nothing keep: so a network that is quiet stays so.
use Rattle.{c104_check.specs.Routes.Routes, c104_event.specs.declared.events.Event.Event, c104_net.proofs.SentBytes.SendsBytes}
use Rattle.{c104_net.specs.{RoundEvents.IsOfRound, Unchanged.MayHappen}, c104_node.specs.{Nodes.Node, Quiet.IsQuietNode}}
use Rattle.{c104_node.specs.declared.starts.NodeStart.NodeStart, c104_plan.specs.Plans.{IsPlan, Plan}}
use Rattle.c104_run.{proofs.{RecordSteps.done_made, RoundRuns.Applied}, specs.{EventRuns.run_events, NetRecords.NetRecord, Network.Network}}
use Rattle.{c104_run.specs.{Network.network_apply, RecordedRuns.record_apply}, c104_script.specs.Script.read_script_line}
use Rattle.c104_session.proofs.{QuietEvents.stays_quiet, UnchangedNets.{Fact, IsUnchangedNet, Keeps, events_leave, keeps_nothing, nothing}}
use Rattle.c104_session.{proofs.{UnchangedNets.of_fact, UnchangedScripts.line_leaves}, specs.PrintedPackets.{LeaveUnchanged, MayAsk}}
use Rattle.c104_session.specs.{PrintedPackets.{event_sends, line_sends, lines_sent}, Shown.{line_answer, line_outcome}}
use Rattle.{c104_session.specs.declared.session.Session.Session, c104_stream.specs.Scripts.lines_outcome, c104_switch.specs.Actions.Reply}
use Rattle.{c104_switch.specs.Actions.is_ready, c104_token.specs.{Kinds.plain_kind, declared.{packets.Packet.Packet, tokens.Token.Token}}}
use Rattle.std.proofs.Common.{All, List, Ok, [], ap, append-nil, arith, length, length-append, refl, subst, suc, sym, true, ℕ, ◌++◌, ◌+◌}
use Rattle.std.{proofs.Common.{◌∙◌, ◌∷◌, ◌≡◌, ◌≤◌}, specs.List.AllByRecursion}

pub both_empty : {X : Type 0} (xs ys : List X) → xs ++ ys ≡ [] → (xs ≡ []) × (ys ≡ [])
both_empty [] ys is = (refl, is)
both_empty (x ∷ xs) ys is = absurd (cc is)

module _ (routes : Routes) (plan : Plan) (is_plan : IsPlan plan) (starts : List NodeStart) where
  abbrev Is : List (ℕ × Packet) → NetRecord → Type 0
  Is sends net = IsUnchangedNet routes plan starts nothing sends net

  -- an event that is done and sends nothing keeps this
  abbrev pub KeepsSilent : (List (Node Token) → Type 0) → Type 0
  KeepsSilent P = (sends : List (ℕ × Packet)) (net : NetRecord) (e : Event) (r : Reply) (next : Network Token) → Is sends net → ◌≡◌ {A = Applied (Network Token)} (Ok r, next) (network_apply plain_kind net.network e) → is_ready r ≡ true →
      MayHappen routes e r → SendsBytes e → event_sends e ≡ [] → P net.network.nodes → P next.nodes

  -- that a network is quiet is kept so
  pub keeps_quiet : KeepsSilent (All IsQuietNode)
  keeps_quiet sends net e r next was due ready may bytes none quiet =
      stays_quiet plain_kind net.network.plan (subst IsPlan (sym was.same_plan) is_plan) net.network.nodes was.kept.steady.in_place quiet r next routes e none may (done_made plain_kind net.network next r e due ready)

  module _ (P : List (Node Token) → Type 0) (keeps : KeepsSilent P) where
    -- so it is as long as no more than `count` packets were sent
    abbrev since : ℕ → Fact
    since count sends nodes = (length sends ≡ count → P nodes) × (count ≤ length sends)

    keeps_since : (count : ℕ) → Keeps routes plan starts (since count)
    keeps_since count sends net e r next was due ready may bytes = by_sends (event_sends e) refl
      where
        before : count ≤ length sends
        before = was.holds.1

        by_sends : (new : List (ℕ × Packet)) → event_sends e ≡ new → since count (sends ++ new) next.nodes
        by_sends [] none =
            let long : length (sends ++ []) ≡ length sends = ap (λ (s : List (ℕ × Packet)). length s) (append-nil sends) in
            (λ same. keeps sends net e r next (of_fact routes plan starts (since count) nothing sends net was tt) due ready may bytes none (was.holds.0 (sym long ∙ same)), omega (arith, long, before))
        by_sends (x ∷ new) some =
            let long : length (sends ++ x ∷ new) ≡ length sends + suc (length new) = length-append sends (x ∷ new) in
            (λ same. absurd (let no : ⊥ = omega (arith, long, before, same) in no), omega (arith, long, before))

    since_now : (sends : List (ℕ × Packet)) (net : NetRecord) → Is sends net → P net.network.nodes → IsUnchangedNet routes plan starts (since (length sends)) sends net
    since_now sends net was here = of_fact routes plan starts nothing (since (length sends)) sends net was (λ same. here, omega arith)

    -- events of a round keep it
    pub events_keep : (sends : List (ℕ × Packet)) (es : List Event) (net : NetRecord) → AllByRecursion IsOfRound es → Is sends net → P net.network.nodes → P (run_events record_apply net es).1.network.nodes
    events_keep sends es net of was here = (events_leave routes plan is_plan starts (since (length sends)) (keeps_since (length sends)) sends es net of (since_now sends net was here)).holds.0 refl

    -- and a line that sends nothing, and lines
    pub line_keeps : (sends : List (ℕ × Packet)) (session : Session) (line : List ℕ) → Is sends session.net → MayAsk routes (read_script_line session.net.network.plan session.image line) (line_answer session line).0 → line_sends session line ≡ [] → P session.net.network.nodes → P (line_answer session line).1.net.network.nodes
    line_keeps sends session line was may silent here =
        (line_leaves routes plan is_plan starts (since (length sends)) (keeps_since (length sends)) sends session (since_now sends session.net was here) line may).holds.0
        (ap (λ (s : List (ℕ × Packet)). length (sends ++ s)) silent ∙ ap (λ (s : List (ℕ × Packet)). length s) (append-nil sends))

  -- a line that sends nothing is no further packet
  pub silent_line : (sends : List (ℕ × Packet)) (session : Session) (line : List ℕ) → Is sends session.net → MayAsk routes (read_script_line session.net.network.plan session.image line) (line_answer session line).0 → line_sends session line ≡ [] → Is sends (line_answer session line).1.net
  silent_line sends session line was may silent =
      subst (λ (s : List (ℕ × Packet)). Is s (line_answer session line).1.net) (ap (λ (s : List (ℕ × Packet)). sends ++ s) silent ∙ append-nil sends)
      (line_leaves routes plan is_plan starts nothing (keeps_nothing routes plan starts) sends session was line may)

  -- lines that send nothing leave a quiet network quiet
  pub lines_quiet : (lines : List (List ℕ)) (number : ℕ) (sends : List (ℕ × Packet)) (session : Session) → Is sends session.net → LeaveUnchanged routes session lines → lines_sent session lines ≡ [] → All IsQuietNode session.net.network.nodes → All IsQuietNode (lines_outcome line_outcome number session lines).1.net.network.nodes
  unfolding line_outcome
  lines_quiet [] number sends session was all silent quiet = quiet
  lines_quiet (line ∷ lines) number sends session was all silent quiet =
      let next : Session = (line_answer session line).1 in
      let parts = both_empty (line_sends session line) (lines_sent next lines) silent in
      lines_quiet lines (suc number) sends next (silent_line sends session line was all.0 parts.0) all.1 parts.1
      (line_keeps (All IsQuietNode) keeps_quiet sends session line was all.0 parts.0 quiet)
