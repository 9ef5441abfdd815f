use Rattle.{c104_switch.proofs.LinkSets.bits_both, std.proofs.Common.sym}

pub returns : Rattle.c104_switch.proofs.link_set.LinkSet.both.Goals.returns
returns c = λ l. rw (sym c.self.view_is, sym c.other.view_is) (bits_both c.self.inside.word c.other.inside.word l)
