use Rattle.c104_check.{proofs.TableLemmas.ways_link, specs.Trails.routes_in}
use Rattle.{c104_interval.specs.declared.intervals.Select.TheVariants.Link, std.proofs.Common.{Some, ap, arith, sym, ◌∙◌}}
use Rattle.c104_check.proofs.routes.Routes.links.Goals as goal

pub group_of-group-requires-clause-link : goal.group_of-group-requires-clause-link
group_of-group-requires-clause-link c = let below = c.select.ensures.below c.in-Link.link c.in-Link.is in omega (arith, below, c.from.ensures)

pub returns-in-Link : goal.returns-in-Link
returns-in-Link c =
    ways_link (routes_in c.args.self.now) c.args.header c.args.goal c.from.result c.group_of-group.result.first c.group_of-group.result.last c.args.at (c.select.ensures.select ∙ ap Some c.in-Link.is ∙ ap (λ g. Some (Link g)) (sym c.from.ensures)) c.group_of-group.ensures.members c.group_of-group.ensures.in_order c.group_of-group.ensures.below
