use Rattle.{c104_script.proofs.ProbeLists.{many_values, no_value}, std.proofs.Common.arith}
use Rattle.c104_script.proofs.probe_lines.read_value_words.Goals as goal

pub returns-in_default : goal.returns-in_default
returns-in_default c =
    no_value c.args.plan.now c.args.node.now c.args.word.now c.args.words.now (let below = c.in_default.len_below in omega (arith, below))

pub returns-in_default-rest : goal.returns-in_default-rest
returns-in_default-rest c =
    many_values c.args.plan.now c.args.node.now c.args.word.now c.args.words.now (let above = c.in_default-rest.len_at_least in omega (arith, above))
