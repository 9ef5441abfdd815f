use Rattle.{c104_tools.proofs.NetRuns.load_ends, std.proofs.Common.refl}
use Rattle.c104_session.proofs.tools.load_net.Goals as goal

pub returns-clause-ends : goal.returns-clause-ends
returns-clause-ends c = load_ends _ _ c.args.image.now _ c.load.ensures.unfitting c.load.ensures.not_asked c.load.ensures.due

pub returns-clause-loaded : goal.returns-clause-loaded
returns-clause-loaded c = λ same. c.load.ensures.loaded _ refl same
