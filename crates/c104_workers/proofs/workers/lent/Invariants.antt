use Rattle.std.proofs.Common.{map, take, ◌≡◌}

-- the parts so far
abbrev pub invariant-loop-part : Rattle.c104_workers.proofs.workers.lent.Given.invariant-loop-part
invariant-loop-part l = map (λ part. part.now) l.lent.items ≡ take l.part-index l.parts
