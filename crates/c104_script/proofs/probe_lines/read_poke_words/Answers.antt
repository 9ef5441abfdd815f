use Rattle.{c104_script.proofs.ProbeLists.few_pokes, std.proofs.Common.arith}

pub returns-in_default : Rattle.c104_script.proofs.probe_lines.read_poke_words.Goals.returns-in_default
returns-in_default c = few_pokes c.args.plan.now c.args.words.now (let below = c.in_default.len_below in omega (arith, below))
