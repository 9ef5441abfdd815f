use Rattle.c104_regs.proofs.KeptLemmas.{kept_value_is}

pub returns-clause-kept : Rattle.c104_regs.proofs.registers.Registers.kept_value.Goals.returns-clause-kept
returns-clause-kept c v =
    let ranges = c.all_settings-settings.ensures.kept.in_range in
    rw (c.kept_value.ensures, c.all_settings-settings.ensures.settings) (kept_value_is c.args.self.now.settings ranges c.args.addr v)
