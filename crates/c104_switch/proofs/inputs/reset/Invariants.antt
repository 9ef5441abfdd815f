use Rattle.{c104_crossbar.specs.Marks.ArePartition, c104_switch.specs.{Commands.input_reset, Holding.held_claims}, std.proofs.Common.drop}
use Rattle.std.proofs.Common.{map, take, ◌++◌, ◌≡◌}

-- the inputs so far are reset, and the crossbar counts as taken just the outputs whose claims are held
abbrev pub invariant-loop-input : Rattle.c104_switch.proofs.inputs.reset.Given.invariant-loop-input
invariant-loop-input g l = record {
  reset : l.list ≡ map input_reset (take l.input-index l.initial.list) ++ drop l.input-index l.initial.list;
  partition : ArePartition (held_claims l.list) l.crossbar;
}
