use Rattle.{c104_node.specs.{Terminals.new_terminal, declared.node.NodeOf.NodeOf}, c104_run.specs.KnownWires.AreLinkedNodes}
use Rattle.{c104_run.specs.NetRecords.{first_record, shown_record}, std.proofs.Common.{map, take, ◌++◌, ◌≡◌}}

-- the terminals so far are made, with their wired links
abbrev pub invariant-loop-terminal : Rattle.c104_run.proofs.recording.add_terminals.Given.invariant-loop-terminal
invariant-loop-terminal l = record {
  made : map shown_record l.list.items ≡ map shown_record l.initial.list.items ++ map (λ terminal. first_record (NodeOf.Terminal (new_terminal l.cap))) (take l._terminal-index l._terminal-items);
  linked : AreLinkedNodes l.wires l.list.items;
}
