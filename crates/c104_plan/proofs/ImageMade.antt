-- What an image that is made of a plan keeps: its ranges are those of the plan's terminals.
use Rattle.c104_plan.{proofs.PlanSettings.all_have_settings, specs.PlanImage.{AreSettings, IsImage, range_of, switch_settings}}
use Rattle.{c104_plan.specs.Plans.{IsPlan, IsRange, Plan}, c104_regs.{proofs.RegisterLemmas.IsInRange-reset, specs.Ranges.IsInRange}}
use Rattle.{c104_regs.specs.{Registers.reset_bank, Settings.reset_settings, declared.settings.Settings.Settings}, std.proofs.Common.All}
use Rattle.std.proofs.{Common.{List, arith, length, map, refl, ℕ, ◌≡◌}, lemmas.List.Elements.{All-map, All-replicate, All-same}}
use Rattle.std.specs.List.{range_with_len}

abbrev pub AreRanges : List (ℕ × ℕ) → Type 0
AreRanges ranges = All (λ (range : ℕ × ℕ). IsRange range.0 range.1) ranges

pub ranges_kept : (plan : Plan) (ranges : List (ℕ × ℕ)) → IsPlan plan → ranges ≡ map range_of plan.terminals → AreRanges ranges
ranges_kept plan ranges kept same = search (arith, All-same, All-map)

reset_are_settings : AreSettings reset_bank.settings
reset_are_settings = (refl, All-replicate IsInRange 32 reset_settings IsInRange-reset)

pub new_kept : (plan : Plan) (ranges : List (ℕ × ℕ)) (settings : List (List Settings)) → IsPlan plan → ranges ≡ map range_of plan.terminals → settings ≡ map (λ name. reset_bank.settings) plan.switches → IsImage (record { ranges = ranges; settings = settings })
new_kept plan ranges settings kept is_ranges is_settings = search (arith, All-same, All-map, reset_are_settings, ranges_kept)

pub hand_kept : (plan : Plan) (ranges : List (ℕ × ℕ)) (settings : List (List Settings)) → IsPlan plan → ranges ≡ map range_of plan.terminals → settings ≡ map (switch_settings plan) (range_with_len 0 (length plan.switches)) → IsImage (record { ranges = ranges; settings = settings })
hand_kept plan ranges settings kept is_ranges is_settings = search (arith, all_have_settings, ranges_kept)
