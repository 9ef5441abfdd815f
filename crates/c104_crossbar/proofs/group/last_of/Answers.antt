use Rattle.{c104_crossbar.proofs.GroupScans.{IsLast, last_found}, std.proofs.Common.{subst, sym}}
use Rattle.c104_crossbar.proofs.group.last_of.Goals as goal

last : (c : goal.After-trailing_ones) → IsLast c.args.continues c.args.link c.requires c.ranges.continues.fits c.trailing_ones.result
last c = subst (IsLast c.args.continues c.args.link c.requires c.ranges.continues.fits) (sym c.trailing_ones.ensures) (last_found c.args.continues c.args.link c.requires c.ranges.continues.fits)

pub returns-clause-within : goal.returns-clause-within
returns-clause-within c = (last c).within

pub returns-clause-joined : goal.returns-clause-joined
returns-clause-joined c = (last c).joined

pub returns-clause-largest : goal.returns-clause-largest
returns-clause-largest c = λ more. (last c).largest
