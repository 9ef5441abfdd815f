use Rattle.c104_check.{proofs.RandomLemmas.{none_random, none_random_next, random_at_tells, random_is_header}, specs.Trails.routes_in}
use Rattle.std.proofs.Common.{ap, arith, false, length, refl, sym, true, ◌∙◌, ◌≡◌}
use Rattle.c104_check.proofs.routes.Routes.is_random.Goals as goal

pub returns-then-is_random_at : goal.returns-then-is_random_at
returns-then-is_random_at c = ((λ _. (c.loop-terminal.terminal, c.entry.result, c.entry.ensures.entry, random_at_tells (routes_in c.args.self.now) c.entry.result c.args.header (omega (arith, c.if-header-header_count.false, c.header_count.ensures)) (sym c.is_random_at.ensures ∙ c.if-is_random_at.true))), (λ _. refl))

pub returns-then-header-header_count : goal.returns-then-header-header_count
returns-then-header-header_count c = ((λ holds. let clash : false ≡ true = holds in absurd cc), (λ random. absurd (let low = random_is_header (routes_in c.args.self.now) c.args.header random in omega (arith, low, c.if-header-header_count.true, c.header_count.ensures))))

pub loop-terminal-preserved : goal.loop-terminal-preserved
loop-terminal-preserved c = none_random_next (routes_in c.args.self.now) c.args.header c.loop-terminal.terminal c.entry.result c.entry.ensures.entry (sym c.is_random_at.ensures ∙ c.if-is_random_at.false) c.loop-terminal.invariant

pub returns : goal.returns
returns c = ((λ holds. let clash : false ≡ true = holds in absurd cc), (λ random. absurd (none_random (routes_in c.args.self.now) c.args.header c.loop-terminal.terminal c.ranges-terminal-end.ensures.network (let same = ap length c.ranges-terminal-end.ensures.ranges in omega (arith, c.loop-terminal-test.false, c.loop-terminal.auto.terminal-end, same)) c.loop-terminal.invariant random)))
