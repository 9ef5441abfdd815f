use Rattle.{c104_lean.specs.Working.IsPartEvent, std.proofs.Common.All}

-- the parts so far
abbrev pub invariant-loop-part : Rattle.c104_lean.proofs.workers.Worker.own_parts.Given.invariant-loop-part
invariant-loop-part g l =
    All (λ part. All (IsPartEvent l.self.shared.now.before.plan l.self.count l.self.number) part.now.events) l.own.items
