-- What a network with its record answers to a command, as a port.
use Rattle.{c104_event.specs.declared.events.Event.Event, c104_node.{proofs.WireEnds.get_set_same, specs.{Nodes.Node, Starts.start_node}}}
use Rattle.{c104_node.specs.{Traces.{entry_of, seatless}, declared.acts.{ActOf.ActOf, Entry.Entry}}, c104_run.specs.NetRecords.IsNetRecord}
use Rattle.{c104_run.specs.{NetRecords.{NetRecord, RecordsEvent, ticket_after}, Runs.{at_node, run_deeds}}, c104_switch.specs.Actions.Reply}
use Rattle.{c104_switch.specs.declared.actions.{ActionOf.ActionOf, ReplyOf.ReplyOf}, c104_token.specs.declared.tokens.Token.Token}
use Rattle.c104_tools.proofs.{NetCommands.{commands_on, last_below, traces_below}, NetSwitches.{IsObeyed, obeyed, stands_at}}
use Rattle.c104_tools.specs.{NetCommands.{first_commands, net_commands, net_switches}, Ports.{Obeyed, command_asked}}
use Rattle.std.proofs.Common.{List, Ok, Some, [], ap, arith, length, map, refl, slice_get, slice_set, suc, true, ℕ, ◌++◌, ◌<◌, ◌∙◌, ◌∷◌}
use Rattle.std.{proofs.Common.◌≡◌, specs.Option.option_map}

module _ (old new : NetRecord) (before : IsNetRecord old) (after : IsNetRecord new) (k : ℕ) (bytes : List ℕ) where
  module _ (r : Reply) (recorded : RecordsEvent old (Event.Control k bytes) (Ok r) new) where
    pub by_switch : IsObeyed old.network new.network k bytes r
    by_switch = obeyed old.network new.network _ k bytes r before.steady.in_place recorded.answers

  module _ (told : List ℕ) (recorded : RecordsEvent old (Event.Control k bytes) (Ok (ReplyOf.Control told)) new) where
    it : IsObeyed old.network new.network k bytes (ReplyOf.Control told)
    it = by_switch (ReplyOf.Control told) recorded

    abbrev newest : Entry
    newest = entry_of (seatless old.count) (ActOf.Step (ActionOf.Control bytes)) (ReplyOf.Control told)

    -- there is a trace for each switch
    trace_there : (trace : List Entry) × (slice_get old.traces k ≡ Some trace)
    trace_there =
        let start = stands_at (length old.network.plan.switches) (length old.network.plan.terminals) (map start_node old.starts) before.started.in_place k it.inside in
        (at_node k (run_deeds old.network.plan seatless 0 before.told.0), before.told.1.told k ∙ ap (option_map (λ (n : Node Token). at_node k (run_deeds old.network.plan seatless 0 before.told.0))) start.there)

    traces_on : new.traces ≡ slice_set old.traces k (trace_there.0 ++ newest ∷ [])
    traces_on = recorded.traces ∙ rw trace_there.1 refl

    counted : new.count ≡ suc old.count
    counted =
        let there : slice_get new.traces k ≡ Some (trace_there.0 ++ newest ∷ []) = ap (λ ts. slice_get ts k) traces_on ∙ get_set_same old.traces k trace_there.0 (trace_there.0 ++ newest ∷ []) trace_there.1 in
        let low : old.count < new.count = last_below new.count trace_there.0 newest (traces_below new after k (trace_there.0 ++ newest ∷ []) there) in
        let same : new.count ≡ ticket_after old.count true = recorded.count in
        omega (arith, low, same)

    pub commands_grown : net_commands new ≡ net_commands old ++ command_asked k bytes told ∷ []
    commands_grown =
        ap (λ n. first_commands n new.traces) counted ∙ ap (first_commands (suc old.count)) traces_on
        ∙ commands_on old.count old.traces k trace_there.0 newest trace_there.1 refl (traces_below old before)

    pub was_obeyed : Obeyed (net_switches old) (command_asked k bytes told ∷ []) (net_switches new)
    was_obeyed = search (arith, it)
