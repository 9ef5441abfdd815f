use Rattle.{c104_regs.{proofs.KeptGaps.{gap_none, reset_none}, specs.Settings.reset_settings}, std.proofs.Common.{ap, arith, get_or, inl}}
use Rattle.std.proofs.{Common.{inr, ◌-◌, ◌/◌, ◌∙◌, ◌≡◌}, lemmas.Bool.cases_lt}
use Rattle.c104_regs.proofs.kept.next_kept.Goals as goal

pub loop-next-init : goal.loop-next-init
loop-next-init c = record { passed = λ a above below. gap_none c.args.settings.now a (c.past_gap-next.ensures.passed a above below); after = c.past_gap-next.ensures.after; within = c.past_gap-next.ensures.within }

pub loop-next-preserved : goal.loop-next-preserved
loop-next-preserved c = record {
  passed = λ a above below.
      elim (cases_lt a c.loop-next.next) [
        | inl before ↦ c.loop-next.invariant.passed a above before
        | inr from ↦
            let begins = c.begins_reset_link.ensures.begins c.loop-next-test.true in
            let link : a / 256 - 1 ≡ c.loop-next.next / 256 - 1 = omega (arith, begins, from, below) in
            reset_none c.args.settings.now a (ap (λ n. get_or c.args.settings.now n reset_settings) link ∙ c.begins_reset_link.ensures.reset c.loop-next-test.true)
      ];
  after = (let so_far = c.loop-next.invariant.after in omega (arith, so_far));
  within = (let begins = c.begins_reset_link.ensures.begins c.loop-next-test.true in let before = c.begins_reset_link.ensures.before c.loop-next-test.true in omega (arith, begins, before));
}
