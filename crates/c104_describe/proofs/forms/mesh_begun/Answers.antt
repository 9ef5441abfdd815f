use Rattle.{c104_describe.proofs.ShapeJoins.mesh_two, std.proofs.{Common.{arith, true, ◌==◌, ◌∙◌, ◌≡◌}, lemmas.Bool.Decides.nat_tests}}

pub returns-then-link-eq2-clause-end : Rattle.c104_describe.proofs.forms.mesh_begun.Goals.returns-then-link-eq2-clause-end
returns-then-link-eq2-clause-end c =
    let is : (c.args.link == 2) ≡ true = grind (arith, nat_tests) in
    c.port_after.ensures.end c.args.height ∙ mesh_two c.args.width c.args.height c.args.switch c.args.link is
