use Rattle.{c104_script.specs.Script.read_script_line, c104_tests_top.specs.PrintedTexts.IsCalm, std.proofs.Common.{All, Bor, List, subst}}
use Rattle.std.proofs.{Common.ℕ, lemmas.List.{Elements.{All-map, All-more}, take_all}}
use Rattle.c104_tests_top.proofs.printed.are_calm.Goals as goal

pub loop-line-preserved : goal.loop-line-preserved
loop-line-preserved c =
    All-more (λ (line : Bor (List ℕ)). IsCalm (read_script_line c.args.plan.now c.args.image.now line.now)) c.args.lines.now c.loop-line.line-index _ c.loop-line-test.true c.loop-line.invariant (c.is_calm_line.ensures c.if-not-is_calm_line.false)

pub returns : goal.returns
returns c = λ yes.
    All-map (λ (line : List ℕ). IsCalm (read_script_line c.args.plan.now c.args.image.now line)) (λ (line : Bor (List ℕ)). line.now) c.args.lines.now
    (subst (All (λ (line : Bor (List ℕ)). IsCalm (read_script_line c.args.plan.now c.args.image.now line.now))) (take_all c.loop-line.line-index c.args.lines.now c.loop-line-test.false) c.loop-line.invariant)
