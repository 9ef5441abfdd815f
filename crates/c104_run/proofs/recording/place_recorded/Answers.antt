use Rattle.{c104_run.{proofs.FirstRecords.placed_all, specs.NetRecords.shown_record}, std.proofs.Common.map}

pub returns-clause-first : Rattle.c104_run.proofs.recording.place_recorded.Goals.returns-clause-first
returns-clause-first c = placed_all c.add_terminals.result c.args.wires.now c.args.image.now (map shown_record c.add_switches.new.list.items) (map shown_record c.add_terminals.new.list.items) c.in_ok-add_switches.ensures.first c.add_terminals.ensures.first
