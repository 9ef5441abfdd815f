use Rattle.{c104_regs.specs.declared.registers.TheConstants.LINKS, c104_rows.{proofs.Searches.{claim_end, claim_step}, specs.Waits.Wait}}
use Rattle.{c104_rows.specs.Waits.{claim_blocker, claim_or}, std.proofs.Common.{Option, ap, arith, sym, ◌+◌, ◌-◌, ◌∙◌}}
use Rattle.c104_rows.proofs.waits.claim_blocker.Goals as goal

pub loop-output-preserved : goal.loop-output-preserved
loop-output-preserved c =
    let r = c.args.net.now in
    let k = c.loop-output.output in
    ap (λ (w : Option Wait). claim_or r c.args.input.switch k w (claim_blocker r c.args.input (LINKS - (k + 1)) (k + 1))) c.in_default.ensures
    ∙ sym (claim_step r c.args.input LINKS k c.loop-output-test.true) ∙ c.loop-output.invariant

pub returns-in-Some : goal.returns-in-Some
returns-in-Some c =
    let r = c.args.net.now in
    let k = c.loop-output.output in
    c.blocker_by.ensures
    ∙ ap (λ (w : Option Wait). claim_or r c.args.input.switch k w (claim_blocker r c.args.input (LINKS - (k + 1)) (k + 1))) c.in-Some.ensures
    ∙ sym (claim_step r c.args.input LINKS k c.loop-output-test.true) ∙ c.loop-output.invariant

pub returns : goal.returns
returns c = sym (claim_end c.args.net.now c.args.input LINKS c.loop-output.output (omega arith)) ∙ c.loop-output.invariant
