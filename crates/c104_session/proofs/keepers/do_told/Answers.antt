use Rattle.c104_session.proofs.ToldEvents.{told_due, told_kept, told_meter}
use Rattle.c104_session.proofs.keepers.do_told.Goals as goal

pub returns-clause-due : goal.returns-clause-due
returns-clause-due g c =
    told_due g.K.Meter.sees _ _ _ _ c.args.keeper.now c.apply_told.new.meter c.apply_told.ensures

pub returns-clause-kept : goal.returns-clause-kept
returns-clause-kept g c =
    told_kept g.K.Meter.sees _ _ _ _ c.args.keeper.now c.apply_told.new.meter c.apply_told.ensures

pub returns-clause-told : goal.returns-clause-told
returns-clause-told g c =
    told_meter g.K.Meter.sees _ _ _ _ c.args.keeper.now c.apply_told.new.meter c.apply_told.ensures
