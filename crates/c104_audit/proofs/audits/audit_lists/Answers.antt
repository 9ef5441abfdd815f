use Rattle.c104_audit.{proofs.FirstFailures.first_none, specs.Audits.IsCalled}

pub returns-clause-audited : Rattle.c104_audit.proofs.audits.audit_lists.Goals.returns-clause-audited
returns-clause-audited c = record {
  shaped = c.in_default.ensures;
  ordered = c.in_default-first_unordered.ensures;
  ended = c.in_default-first_unequal.ensures;
  called = first_none (IsCalled c.args.lists.now) c.in_ok-uncalled.uncalled c.in_ok-uncalled.ensures (λ s is. c.in_default-uncalled.not-Some s is);
  before = c.in_default-first_changed.ensures;
}
