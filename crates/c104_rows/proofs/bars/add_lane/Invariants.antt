use Rattle.{c104_rows.specs.Bars.bars_by, std.{proofs.Common.{take, ◌++◌, ◌≡◌}, specs.List.flat_map}}

-- the stretches so far
abbrev pub invariant-loop-stretch : Rattle.c104_rows.proofs.bars.add_lane.Given.invariant-loop-stretch
invariant-loop-stretch l =
    l.bars.items ≡ l.initial.bars.items ++ flat_map (bars_by l.last l.lane) (take l.stretch-index l.lane.stretches)
