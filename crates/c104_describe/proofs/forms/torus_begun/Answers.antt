use Rattle.{c104_describe.proofs.ShapeJoins.torus_two, std.proofs.{Common.{arith, true, ◌==◌, ◌∙◌, ◌≡◌}, lemmas.Bool.Decides.nat_tests}}

pub returns-then-link-eq2-clause-end : Rattle.c104_describe.proofs.forms.torus_begun.Goals.returns-then-link-eq2-clause-end
returns-then-link-eq2-clause-end c =
    let is : (c.args.link == 2) ≡ true = grind (arith, nat_tests) in
    c.torus_after.ensures.end c.args.height ∙ torus_two c.args.width c.args.height c.args.switch c.args.link is
