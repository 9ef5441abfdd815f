use Rattle.{c104_plan.specs.{PlanImage.Image, declared.plans.Terminal.Terminal}, c104_readback.proofs.CopiedSettings.{all_same, labels_all}}
use Rattle.{c104_readback.proofs.CopiedSettings.{labels_count, labels_next, labels_settings}, c104_regs.specs.Registers.reset_bank}
use Rattle.std.proofs.{Common.{List, None, Some, ap, arith, get_or, length, slice_get, sym, ◌<◌, ◌∙◌, ◌≡◌}, lemmas.Option.slice_get-get_or}
use Rattle.c104_readback.proofs.registers.blank_image.Goals.{in-Some, in_default}
use Rattle.c104_readback.proofs.registers.blank_image.Goals as goal

pub loop-terminal-preserved : goal.loop-terminal-preserved
loop-terminal-preserved c =
    let ranges = c.args.image.now.ranges in
    let old = c.loop-terminal.blank in
    let t = c.loop-terminal.terminal in
    let before = c.loop-terminal.invariant in
    elim c.match-range.branch [
      | in-Some w ↦
          let new = w.set_range.new.self in
          let first = w.in-Some.first in
          let count = w.in-Some.count in
          let at : slice_get ranges t ≡ Some (first, count) = sym c.range.ensures.range ∙ w.in-Some.is in
          rw w.blank-is (record {
            labels = labels_next ranges old new t first count w.set_range.result w.set_range.ensures at w.in-Some.ensures.within before.count before.labels;
            count = labels_count ranges old new t first count w.set_range.result w.set_range.ensures at w.in-Some.ensures.within before.count;
            settings = labels_settings ranges old new t first count w.set_range.result w.set_range.ensures at w.in-Some.ensures.within before.count ∙ before.settings;
          })
      | in_default w ↦
          let many : length c.terminals-terminal-end.result.now ≡ length c.args.plan.now.terminals = ap (λ (xs : List Terminal). length xs) c.terminals-terminal-end.ensures.terminals in
          let inside : t < length ranges = omega (arith, c.loop-terminal-test.true, many, c.requires.ranges) in
          let found : slice_get ranges t ≡ Some (get_or ranges t (0, 0)) = slice_get-get_or ranges t (0, 0) inside in
          let clash : None ≡ Some (get_or ranges t (0, 0)) = sym w.in_default.is ∙ c.range.ensures.range ∙ found in
          absurd (cc)
    ]

pub returns-clause-ranges : goal.returns-clause-ranges
returns-clause-ranges c =
    let many : length c.terminals-terminal-end.result.now ≡ length c.args.plan.now.terminals = ap (λ (xs : List Terminal). length xs) c.terminals-terminal-end.ensures.terminals in
    labels_all c.args.image.now.ranges c.loop-terminal.blank.ranges c.loop-terminal.terminal c.loop-terminal.invariant.count
    (omega (arith, c.loop-terminal-test.false, many, c.requires.ranges)) c.loop-terminal.invariant.labels

pub returns-clause-reset : goal.returns-clause-reset
returns-clause-reset c =
    all_same reset_bank.settings c.args.plan.now.switches c.loop-terminal.blank.settings
    (c.loop-terminal.invariant.settings ∙ ap (λ (i : Image). i.settings) c.in_ok-blank.ensures.image)
