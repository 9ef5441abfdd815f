use Rattle.{c104_commands.proofs.BootLemmas.are_all, std.proofs.Common.refl}

pub returns : Rattle.c104_commands.proofs.boots.boot_commands.Goals.returns
returns c =
    are_all c.args.image.now _ c.switches-switches.result.now _ _ _ _ refl c.switches-switches.ensures.settings c.new-commands.ensures.items
    c.in_ok-add_for_each.ensures c.in_ok-add_all_pokes.ensures c.in_ok-add_for_each-2.ensures
