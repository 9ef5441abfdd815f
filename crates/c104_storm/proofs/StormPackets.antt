-- A storm that ends where all is quiet writes all packets that its script sent.
use Rattle.{c104_check.specs.Routes.{IsAccepted, Routes, routes_of}, c104_describe.specs.PlanText.read_description}
use Rattle.{c104_describe.specs.declared.faults.PlanFault.PlanFault, c104_event.specs.declared.faults.EventFault.EventFault}
use Rattle.{c104_label.specs.Images.IsImageOf, c104_lean.specs.Runs.{AreApplied, IsSharedRun}, c104_net.proofs.NamedOrigins.quiet_traced}
use Rattle.c104_net.proofs.{NamedOrigins.sent_plain, Promises.headline, RunOrigins.{IsKeptRun, ends_traced, traced}, StartMaps.starts_are}
use Rattle.c104_net.specs.{Deliveries.{Promise, arrived_at, sent_at}, RoundEvents.IsOfRound, TracedEnds.traced_end}
use Rattle.c104_node.specs.{MappedNodes.map_node, Nodes.{Node, arrived_tokens}, Starts.start_node, Traced.traced_kind, Traces.part}
use Rattle.{c104_node.specs.{Traces.seatless, declared.{starts.NodeStart.NodeStart, traced.Traced.Traced}}, c104_plan.specs.PlanImage.Fits}
use Rattle.{c104_plan.specs.{PlanImage.Image, Plans.{IsPlan, Plan}}, c104_run.{proofs.RecordSteps.nodes_counted, specs.Balance.AreInPlace}}
use Rattle.c104_run.specs.{FinishedRecords.record_finish, NetRecords.NetRecord, Network.{Network, network_of, terminal_place}}
use Rattle.{c104_run.specs.{QuietNets.IsQuiet, RecordedRuns.record_apply, Runs.IsDoneRun}, c104_session.proofs.PlacedNets.placed_set}
use Rattle.c104_session.proofs.{PlacedNets.{placed_starts, placed_unchanged}, PrintedRunsLaw.{image_fits, read_is_plan}}
use Rattle.c104_session.{proofs.UnchangedNets.{IsUnchangedNet, keeps_nothing, nothing, round_event}, specs.PrintedPackets.packets_of}
use Rattle.{c104_setup.specs.Setups.ComesTo, c104_storm.proofs.{RoundWork.team_of_round, SentScripts.lines_leave, ShownPackets.IsShownAt}}
use Rattle.c104_storm.{proofs.{ShownPackets.writes_packets, ShownTexts.{Shows, nothing_shown, shows}}, specs.Arrivals.JoinArrivals}
use Rattle.c104_storm.specs.{Endings.{IsEndText, IsEnding}, Packets.{EndsWith, MaySend, SendsWell, WritesPackets, WritesPacketsOf}}
use Rattle.c104_storm.specs.{Packets.{WritesSentPackets, script_sent, shown_text}, Sends.{new_sending, send_outcome}, Storms.MayStorm}
use Rattle.c104_storm.specs.{Texts.audited_line, Workers.{AreDoneBy, Team}, declared.{endings.Ending.Ending, sends.Sending.Sending}}
use Rattle.{c104_stream.specs.{ScriptLines.{is_long, script_lines}, Scripts.script_outcome}, c104_switch.specs.Actions.Reply}
use Rattle.{c104_tickets.specs.declared.views.Done.Done, c104_token.specs.declared.packets.Packet.Packet, c104_turns.specs.Calls.SeatView}
use Rattle.{c104_turns.specs.Logs.done_pair, std.proofs.Common.{Bool, Err, List, Ok, Result, [], ap, arith, false, inl, inr, length, map}}
use Rattle.std.proofs.{Common.{nat_lt, refl, subst, sym, true, ℕ, ◌++◌, ◌+◌, ◌∙◌, ◌∷◌, ◌≡◌, ◌≤◌}, lemmas.Bool.Decides.nat_tests}
use Rattle.std.{proofs.lemmas.{List.length-map, Option.slice_get_past}, specs.List.AllByRecursion}

module _ (plan : Plan) (image : Image) (is_plan : IsPlan plan) (fits : Fits image plan) where
  abbrev R : Routes
  R = routes_of plan image

  abbrev starts : List NodeStart
  starts = placed_starts plan image is_plan fits

  abbrev Is : List (ℕ × Packet) → NetRecord → Type 0
  Is sends net = IsUnchangedNet R plan starts nothing sends net

  -- a network that nobody changed stays so by events of rounds
  applied_leaves : (sends : List (ℕ × Packet)) (log : List Done) (net left : NetRecord)
      → AllByRecursion (λ (d : Done). IsOfRound d.deed.event) log → AreApplied net (map done_pair log) left
      → Is sends net → Is sends left
  applied_leaves sends [] net left of is was = subst (Is sends) (sym is) was
  applied_leaves sends (d ∷ log) net left of applied was =
      let here : (record_apply net d.deed.event).1 ≡ applied.0 =
      ap (λ (r : Result Reply EventFault × NetRecord). r.1) (sym applied.1) in
      applied_leaves sends log applied.0 left of.1 applied.3
      (subst (Is sends) here
      (round_event R plan is_plan starts nothing (keeps_nothing R plan starts) sends net d.deed.event of.0 was))

  -- what is written of one that nobody changed and in which all is quiet
  module _ (accepted : IsAccepted (routes_of plan image)) (sends : List (ℕ × Packet)) (net : NetRecord)
      (ended : IsUnchangedNet (routes_of plan image) plan (placed_starts plan image is_plan fits) nothing sends net)
      (quiet : IsQuiet net.network) where
    here_plan : IsPlan net.network.plan
    here_plan = subst IsPlan (sym ended.same_plan) is_plan

    abbrev kept : IsKeptRun (record_finish net)
    kept = record {
      stamps = seatless;
      events = ended.events;
      nodes = net.network.nodes;
      told = ended.told;
      ended = refl;
      placed = ended.kept.steady.in_place;
      started = ended.kept.started;
      sent = ended.bytes;
    }

    -- the same run over tokens that tell where they came from
    abbrev ran : List (Node Traced)
    ran = (traced (record_finish net) here_plan kept).0

    abbrev End : Network Traced
    End = network_of plan ran

    end_is : traced_end (record_finish net) ≡ End
    end_is = ends_traced (record_finish net) here_plan kept ∙ ap (λ p. network_of p ran) ended.same_plan

    run : IsDoneRun traced_kind (network_of plan (map start_node starts)) ended.events End
    run = search (arith, ended, traced, here_plan)

    promised : Promise R End
    promised =
        headline image (network_of plan (map start_node starts)) End ended.events is_plan accepted
        (starts_are plan image starts (placed_set plan image is_plan fits)) run ended.unchanged ended.bytes

    plain : map (map_node (λ (x : Traced). x.token)) ran ≡ net.network.nodes
    plain = (traced (record_finish net) here_plan kept).1.plain

    sent : (t : ℕ) → sent_at End t ≡ packets_of t sends
    sent t = search (arith, sent_plain, ended)

    quiet_end : IsQuiet End
    quiet_end = quiet_traced plan ran net.network.nodes plain quiet

    -- nothing arrives past the terminals
    counted : length ran ≡ length plan.switches + length plan.terminals
    counted =
        sym (length-map ran (map_node (λ (x : Traced). x.token))) ∙ ap length plain
        ∙ nodes_counted plan net.network.nodes (subst (λ p. AreInPlace p net.network.nodes) ended.same_plan ended.kept.steady.in_place)

    none_past : (t : ℕ) → length plan.terminals ≤ t → arrived_at End t ≡ []
    none_past t past = ap (part [] arrived_tokens) (slice_get_past ran (terminal_place plan t) (omega (arith, counted, past)))

    module _ (text : List ℕ) (joined : JoinArrivals (record_finish net) audited_line (length net.network.plan.terminals) text) where
      lists : Shows (record_finish net) (length plan.terminals) audited_line text
      lists =
          shows (record_finish net) (length plan.terminals) audited_line text
          (subst (λ (p : Plan). JoinArrivals (record_finish net) audited_line (length p.terminals) text) ended.same_plan joined)

      shown : (t : ℕ) → IsShownAt End t (lists.shown t)
      shown t =
          subst (λ (n : Network Traced). IsShownAt n t (lists.shown t)) end_is
          (by_inside (nat_lt t (length plan.terminals)) refl)
        where
          by_inside : (b : Bool) → nat_lt t (length plan.terminals) ≡ b → IsShownAt (traced_end (record_finish net)) t (lists.shown t)
          by_inside true is = lists.inside t (grind (arith, nat_tests, is))
          by_inside false is =
              let past : length plan.terminals ≤ t = grind (arith, nat_tests, is) in
              nothing_shown (record_finish net) t (lists.shown t) (ap (λ (n : Network Traced). arrived_at n t) end_is
              ∙ none_past t past) (lists.past t past)

      pub writes : WritesPackets plan R sends text
      writes =
          writes_packets R End sends promised sent lists.shown shown plan text quiet_end
          (subst (λ (p : Plan). text ≡ audited_line ++ shown_text p lists.shown (length plan.terminals)) ended.same_plan lists.text)

module _ (team : Team) (plan : Plan) (image : Image) (script : List ℕ) (is_plan : IsPlan plan) (fits : Fits image plan)
    (accepted : IsAccepted (routes_of plan image))
    (may_send : AllByRecursion (MaySend (routes_of plan image)) (script_sent plan image script)) where
  abbrev sends : List (ℕ × Packet)
  sends = script_sent plan image script

  abbrev sending : Sending
  sending = (script_outcome send_outcome (new_sending plan image) script).1

  -- nobody changed the network that the script left, and so the one that the workers left
  sent_well : IsUnchangedNet (routes_of plan image) plan (placed_starts plan image is_plan fits) nothing sends sending.net
  sent_well =
      lines_leave (routes_of plan image) plan is_plan (placed_starts plan image is_plan fits) (script_lines script) 1 []
      (new_sending plan image) may_send (placed_unchanged plan image is_plan fits (routes_of plan image) nothing tt)

  module _ (left : NetRecord) (seats : List SeatView) (one : IsSharedRun sending.net left team.count seats)
      (done : AreDoneBy team sending.net.network.plan seats) where
    pub left_well : IsUnchangedNet (routes_of plan image) plan (placed_starts plan image is_plan fits) nothing sends left
    left_well =
        applied_leaves plan image is_plan fits sends one.log sending.net left
        (team_of_round team sending.net.network.plan seats one.log done one.seated one.calls) one.applied sent_well

    by_ending : (text : List ℕ) (ending : Ending) → IsEnding team left ending → IsEndText false left ending text
        → EndsWith plan image script text
    by_ending text Ending.NotQuiet is told = inl told
    by_ending text (Ending.Stopped worker kind) is told = inr (inl (worker, kind, told))
    by_ending text Ending.Quiet is told = inr (inr (writes plan image is_plan fits accepted sends left left_well is text told))

  pub storm_ends_with : (long faulty refused : Bool) (text : List ℕ) → long ≡ false
      → MayStorm team sending.net long faulty text refused → EndsWith plan image script text
  storm_ends_with long faulty refused text short may =
      by_ending may.left may.seats may.one may.done text may.ends.ending may.ends.is
      (subst (λ l. IsEndText l may.left may.ends.ending text) short may.ends.is_text)

-- what a storm writes behind the answers
pub packets_written : (team : Team) (plan : Plan) (image : Image) → IsPlan plan → Fits image plan → WritesSentPackets team plan image
unfolding WritesSentPackets
packets_written team plan image is_plan fits script text refused may well =
    storm_ends_with team plan image script is_plan fits well.accepted well.may (is_long script) sending_faulty refused may.end
    well.short may.storms
  where
    sending_faulty : Bool
    sending_faulty = (script_outcome send_outcome (new_sending plan image) script).1.is_faulty

-- of a description
pub comes_to : (due : Result Plan PlanFault) (plan : Plan) (image : Image) → ComesTo due (Ok (plan, image))
    → (due ≡ Ok plan) × IsImageOf plan image
comes_to (Ok read) plan image is = (ap Ok (sym is.0), subst (λ p. IsImageOf p image) (sym is.0) is.1)
comes_to (Err kind) plan image is = absurd is

pub packets_of_description : (team : Team) (description : List ℕ) → WritesPacketsOf team description
unfolding WritesPacketsOf
packets_of_description team description plan image is =
    let came = comes_to (read_description description) plan image is in
    packets_written team plan image (read_is_plan description plan came.0) (image_fits plan image came.1)
