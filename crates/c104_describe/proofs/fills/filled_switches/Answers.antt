use Rattle.{c104_describe.proofs.FilledNames.{numbers_differ, switch_named}, c104_plan.proofs.RangeLists.{map_next, none_in_range}}
use Rattle.{c104_plan.specs.{Layouts.filled_name, TextWords.is_name}, std.proofs.Common.{arith, bytes_eq, rules, subst, sym, true, ◌<◌}}
use Rattle.std.{proofs.Common.{◌^◌, ◌∙◌, ◌≡◌}, specs.List.list_any}
use Rattle.c104_describe.proofs.fills.filled_switches.Goals as goal

pub push-requires-clause-named : goal.push-requires-clause-named
push-requires-clause-named c =
    let text : c.as_bytes.result.now ≡ filled_name c.loop-switch.switch-counter = search rules in
    subst (λ name. is_name name ≡ true) (sym text) (switch_named c.loop-switch.switch-counter (omega (arith, c.loop-switch-test.true, c.requires)))

-- the names so far have other numbers
pub push-requires-clause-free : goal.push-requires-clause-free
push-requires-clause-free c =
    let text : c.as_bytes.result.now ≡ filled_name c.loop-switch.switch-counter = search rules in
    let small : c.loop-switch.switch-counter < 10 ^ 7 = omega (arith, c.loop-switch-test.true, c.requires) in
    (λ i. list_any (λ other. bytes_eq other (text i)) (c.loop-switch.invariant i))
    ∙ none_in_range (λ other. bytes_eq other (filled_name c.loop-switch.switch-counter)) filled_name 0 c.loop-switch.switch-counter
    (λ k lt. numbers_differ 0x73 k c.loop-switch.switch-counter (omega (arith, lt)) small)

pub loop-switch-preserved : goal.loop-switch-preserved
loop-switch-preserved c =
    let text : c.as_bytes.result.now ≡ filled_name c.loop-switch.switch-counter = search rules in
    map_next filled_name c.loop-switch.switch-counter _ _ c.as_bytes.result.now c.loop-switch.invariant text c.in_ok-push.ensures.switches
