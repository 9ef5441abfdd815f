use Rattle.{c104_node.specs.declared.node.NodeOf.NodeOf, c104_run.specs.{KnownWires.AreLinkedNodes, NetRecords.first_record}}
use Rattle.{c104_run.specs.NetRecords.shown_record, c104_switch.specs.Switch.new_switch, std.proofs.Common.{map, take, ◌≡◌}}

-- the switches so far are made, with their wired links
abbrev pub invariant-loop-name : Rattle.c104_run.proofs.recording.add_new_switches.Given.invariant-loop-name
invariant-loop-name l = record {
  made : map shown_record l.list.items ≡ map (λ name. first_record (NodeOf.Switch (new_switch l.cap))) (take l._name-index l._name-items);
  linked : AreLinkedNodes l.wires l.list.items;
}
