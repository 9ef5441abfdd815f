use Rattle.{c104_net.specs.{Replays.TellsOn, ToldEvents.told_events}, c104_node.specs.{Starts.start_node, declared.acts.Entry.Entry}}
use Rattle.c104_run.specs.{FinishedRecords.FinishedRecord, NetRecords.{NetRecord, fresh_record}, Network.network_of}
use Rattle.std.proofs.Common.{List, map, subst, sym, ◌≡◌}
use Rattle.c104_net.proofs.run_origins.replayed.Goals as goal

pub from_starts-requires : goal.from_starts-requires
from_starts-requires c = rw (c.plan-plan.ensures, c.starts-starts.ensures.starts) c.starts-starts.ensures.told.started

pub returns-in-Ok : goal.returns-in-Ok
returns-in-Ok c =
    let run : FinishedRecord = c.args.run.now in
    let begun : c.in_ok-net.net ≡ fresh_record (network_of run.finished.plan (map start_node run.starts)) = rw (sym c.plan-plan.ensures, sym c.starts-starts.ensures.starts) c.in_ok-net.ensures in
    subst (λ (first : NetRecord). TellsOn first (told_events first.network.plan run.traces) c.replay_all.new.net) begun
    (subst (λ (ts : List (List Entry)). TellsOn c.in_ok-net.net (told_events c.in_ok-net.net.network.plan ts) c.replay_all.new.net) c.traces-traces.ensures c.in-Ok.ensures)
