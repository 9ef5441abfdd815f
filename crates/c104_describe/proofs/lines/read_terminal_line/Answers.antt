use Rattle.{c104_describe.{proofs.LineWords.few_words, specs.PlanDrafts.draft_of}, std.proofs.Common.{arith, inl}}

pub returns-in_default : Rattle.c104_describe.proofs.lines.read_terminal_line.Goals.returns-in_default
returns-in_default c = inl (few_words (draft_of c.args.draft.now) c.args.rest.now (let below = c.in_default.len_below in omega (arith, below)))
