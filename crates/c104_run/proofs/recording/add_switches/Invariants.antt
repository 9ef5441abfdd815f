use Rattle.{c104_node.specs.declared.node.NodeOf.NodeOf, c104_run.specs.{KnownWires.AreLinkedNodes, NetRecords.first_record}}
use Rattle.{c104_run.specs.NetRecords.shown_record, c104_switch.specs.Switch.new_switch_with, std.proofs.Common.{map, take, true, ◌≡◌}}

-- the switches so far are made, with their wired links
abbrev pub invariant-loop-switch : Rattle.c104_run.proofs.recording.add_switches.Given.invariant-loop-switch
invariant-loop-switch l = record {
  made : map shown_record l.list.items ≡ map (λ settings. first_record (NodeOf.Switch (new_switch_with l.cap settings true))) (take l.switch-index l.switch-items);
  linked : AreLinkedNodes l.wires l.list.items;
}
