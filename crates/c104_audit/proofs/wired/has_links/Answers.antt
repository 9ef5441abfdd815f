use Rattle.c104_audit.proofs.WiredLinks.{links_are}

pub returns : Rattle.c104_audit.proofs.wired.has_links.Goals.returns
returns c = links_are c.args.lists.now c.args.node c.args.wired.now c.has_each_link.result c.has_each_link.ensures
