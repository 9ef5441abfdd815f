use Rattle.{c104_check.specs.declared.faults.CheckFault.CheckFault, c104_fixes.proofs.FixLemmas.mended, std.proofs.Common.{rules, ◌≢◌}}

pub returns-in-Err : Rattle.c104_fixes.proofs.trials.is_mended.Goals.returns-in-Err
returns-in-Err c =
    let told : c.in-Err.other ≢ CheckFault.NoMemory = search rules in
    mended c.args.plan.now c.args.image.now c.args.fault.now c.in-Err.other c.is_same_fault.result (c.fits.ensures.0 c.if-not-fits.false) c.in-Err.ensures.refused told c.is_same_fault.ensures
