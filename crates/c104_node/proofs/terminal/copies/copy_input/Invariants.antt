use Rattle.std.proofs.Common.{length, take, ◌+◌, ◌≡◌}

-- the tokens so far, and what is left of the granted ones
abbrev pub invariant-loop-index : Rattle.c104_node.proofs.terminal.copies.copy_input.Given.invariant-loop-index
invariant-loop-index g l = record {
  cap : l.copy.cap ≡ l.input.cap;
  items : l.copy.items ≡ take l.index l.input.items;
  granted : l.copy.granted + l.index ≡ length l.input.items + l.input.granted;
}
