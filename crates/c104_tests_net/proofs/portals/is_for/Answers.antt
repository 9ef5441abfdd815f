use Rattle.{c104_tests_net.proofs.NotRandom.two_byte_label, std.proofs.{Common.{arith, ◌≡◌}, lemmas.Bool.Decides.nat_tests}}

pub returns : Rattle.c104_tests_net.proofs.portals.is_for.Goals.returns
returns c =
    let two : c.in-Some.length ≡ 2 = grind (arith, nat_tests, c.if-length-ne2.false) in
    λ is. two_byte_label c.args.plan.now c.args.image.now c.args.packet.now c.args.terminal c.in-Some.length c.in-Some-two_byte_header.header c.requires.accepted c.in-Some.ensures two c.in-Some-two_byte_header.ensures (c.has_label.ensures is)
