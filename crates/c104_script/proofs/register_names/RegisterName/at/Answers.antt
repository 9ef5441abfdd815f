use Rattle.{c104_script.proofs.NamesRead.named_read, std.proofs.Common.refl}

pub returns-clause-read_back : Rattle.c104_script.proofs.register_names.RegisterName.at.Goals.returns-clause-read_back
returns-clause-read_back c =
    let stands = (c.in_ok-address.ensures.table c.in_ok-address.address).0 refl in
    named_read c.in_ok-address.address c.args.addr _ _ _ c.of.ensures.link c.of.ensures.name c.of.ensures.row stands.0 stands.1
