use Rattle.c104_crossbar.proofs.GroupScans.{first_found}
use Rattle.c104_crossbar.proofs.group.first_of.Goals as goal

pub overflow_sub-result-2 : goal.overflow_sub-result-2
overflow_sub-result-2 c = (first_found c.args.continues c.args.link c.requires c.ranges.continues.fits).few

pub returns-clause-below : goal.returns-clause-below
returns-clause-below c = (first_found c.args.continues c.args.link c.requires c.ranges.continues.fits).below

pub returns-clause-joined : goal.returns-clause-joined
returns-clause-joined c = (first_found c.args.continues c.args.link c.requires c.ranges.continues.fits).joined

pub returns-clause-largest : goal.returns-clause-largest
returns-clause-largest c = (first_found c.args.continues c.args.link c.requires c.ranges.continues.fits).largest
