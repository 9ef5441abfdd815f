use Rattle.c104_regs.proofs.{KeptGaps.entries_passed, KeptLemmas.{entries_all, entries_next, entries_skip, map_of_entries}}
use Rattle.{c104_regs.specs.KeptValues.kept_value, std.proofs.Common.{arith, sym, ◌+◌, ◌∙◌, ◌≡◌}}
use Rattle.c104_regs.proofs.registers.Registers.kept_values.Goals.{in-Some+in_ok-push, in_default}
use Rattle.c104_regs.proofs.registers.Registers.kept_values.Goals as goal

pub loop-addr-preserved : goal.loop-addr-preserved
loop-addr-preserved c =
    let settings = c.all_settings-settings.result.now in
    let passed = sym (entries_passed (kept_value settings) (c.loop-addr.addr + 1) c.next_kept-addr.result c.next_kept-addr.ensures.after c.next_kept-addr.ensures.passed) in
    elim c.match-kept_value.branch [
      | in-Some+in_ok-push w ↦ (rw w.values-is (entries_next settings c.loop-addr.addr w.in-Some.value _ _ c.loop-addr.invariant.0 w.in-Some.ensures w.in_ok-push.ensures.items ∙ passed), c.next_kept-addr.ensures.within)
      | in_default w ↦ (rw w.values-is (entries_skip settings c.loop-addr.addr _ c.loop-addr.invariant.0 w.in_default.ensures ∙ passed), c.next_kept-addr.ensures.within)
    ]

pub returns-clause-values : goal.returns-clause-values
returns-clause-values c =
    let end : c.loop-addr.addr ≡ 8448 = omega (arith, c.loop-addr.invariant.1) in
    rw (← c.all_settings-settings.ensures.settings) (c.loop-addr.invariant.0 ∙ entries_all _ _ end)

pub returns-clause-map : goal.returns-clause-map
returns-clause-map c =
    let end : c.loop-addr.addr ≡ 8448 = omega (arith, c.loop-addr.invariant.1) in
    rw (c.loop-addr.invariant.0, c.all_settings-settings.ensures.settings) (map_of_entries c.args.self.now.settings c.all_settings-settings.ensures.kept.in_range _ end)
