use Rattle.{c104_switch.{proofs.OwnersKept.owner_inside, specs.Views.owner_from}, std.proofs.Common.{None, Some, ap, arith, rules, sym}}
use Rattle.std.proofs.{Common.{◌∙◌, ◌≡◌}, lemmas.List.get_or_past}
use Rattle.c104_switch.proofs.inputs.InputsOf.owner.Goals as goal

pub returns-then-output-ge-LINKS-clause-owner : goal.returns-then-output-ge-LINKS-clause-owner
returns-then-output-ge-LINKS-clause-owner g c = sym (get_or_past c.self.inside.owners c.args.output None (omega (arith, c.self.invariant.2.count, c.if-output-ge-LINKS.true))) ∙ c.self.invariant.2.each c.args.output ∙ ap (λ ps. owner_from 0 ps c.args.output) c.self.view_is

pub returns-in-Some-clause-inside : goal.returns-in-Some-clause-inside
returns-in-Some-clause-inside g c = let found : owner_from 0 c.args.self.now c.args.output ≡ Some c.from.result = search rules in let below = owner_inside 0 c.args.self.now c.args.output c.from.result found in omega arith
