use Rattle.std.proofs.Common.{None, Some, sym, ◌∙◌, ◌≡◌}
use Rattle.c104_run.proofs.net.nodes.Net.trace.Goals as goal

pub returns-in-Some-clause-recorded : goal.returns-in-Some-clause-recorded
returns-in-Some-clause-recorded c = λ trace here. (c.in-Some.found.now.0, c.in-Some.ensures.node)

pub returns-in-None-clause-recorded : goal.returns-in-None-clause-recorded
returns-in-None-clause-recorded c = λ trace here. let both : None ≡ Some trace = sym c.in-None.ensures.node ∙ here in absurd (let no : _ = cc in no)
