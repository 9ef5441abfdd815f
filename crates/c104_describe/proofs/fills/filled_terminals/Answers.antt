use Rattle.{c104_describe.proofs.FilledNames.numbers_differ, c104_plan.proofs.RangeLists.{map_next, none_in_range}}
use Rattle.{c104_plan.specs.{Layouts.filled_terminal, declared.plans.Terminal.Terminal}, std.proofs.Common.{ap, arith, bytes_eq, ◌<◌, ◌^◌}}
use Rattle.std.{proofs.Common.{◌∙◌, ◌∷◌}, specs.{Fmt.decimal, List.list_any}}
use Rattle.c104_describe.proofs.fills.filled_terminals.Goals as goal

-- the names so far have other numbers
pub push-requires : goal.push-requires
push-requires c =
    let small : c.loop-number.number < 10 ^ 7 = omega (arith, c.loop-number-test.true, c.requires.few) in
    ap (λ (made : Terminal). list_any (λ (t : Terminal). bytes_eq t.name made.name) c.loop-number.list) c.in_ok-terminal.ensures
    ∙ ap (list_any (λ (t : Terminal). bytes_eq t.name (0x74 ∷ decimal c.loop-number.number))) c.loop-number.invariant
    ∙ none_in_range (λ (t : Terminal). bytes_eq t.name (0x74 ∷ decimal c.loop-number.number)) (filled_terminal c.args.links c.args.terminals) 0 c.loop-number.number
    (λ k lt. numbers_differ 0x74 k c.loop-number.number (omega (arith, lt)) small)

pub loop-number-preserved : goal.loop-number-preserved
loop-number-preserved c = map_next (filled_terminal c.args.links c.args.terminals) c.loop-number.number _ _ _ c.loop-number.invariant c.in_ok-terminal.ensures c.in_ok-push.ensures.terminals
