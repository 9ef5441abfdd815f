-- What a load comes to at a port that shows its switches.
use Rattle.{c104_plan.specs.PlanImage.AreSettings, c104_regs.proofs.{KeptPokes.AreKept, RegisterLemmas.IsInRange-reset}}
use Rattle.c104_regs.specs.{Ranges.IsInRange, Settings.reset_settings, declared.settings.Settings.Settings}
use Rattle.c104_tools.{proofs.{KnownCommands.AreDone, LoadedSwitches.{AreLoadable, load_done}}, specs.Loaded.{each_with, loaded}}
use Rattle.{c104_tools.specs.{Loads.load_list, Ports.Switches}, std.proofs.Common.{All, List, MatchOption, Option, Some, [], arith, get_or}}
use Rattle.std.proofs.{Common.{inl, inr, length, refl, subst, suc, sym, zero, ℕ, ◌∷◌, ◌≡◌}, lemmas.{Bool.cases_lt, List.get_or_past}}

-- the settings of an image are those that a switch may have
module _ (settings : List Settings) (all : AreSettings settings) where
  ranges : (l : ℕ) → IsInRange (get_or settings l reset_settings)
  ranges l = elim (cases_lt l (length settings)) [
    | inl inside ↦ all.1 l reset_settings inside
    | inr past ↦ subst IsInRange (sym (get_or_past settings l reset_settings past)) IsInRange-reset
  ]

  pub in_range : AreKept settings
  in_range = record { links = all.0; statuses = refl; in_range = ranges }

loadable_by : (image : List (List Settings)) → All AreSettings image → AreLoadable image
loadable_by [] all = tt
loadable_by (settings ∷ image) all = (in_range settings (all zero settings (omega arith)), loadable_by image (λ k d inside. all (suc k) d (omega arith)))

-- the switches that a port shows are as many as those of an image, and do all steps of its load
pub load_shown : (before : Switches) (image : List (List Settings)) (first : Option Switches) (count : ℕ) → first ≡ Some before → MatchOption first (Unit {0}) (λ switches. length switches ≡ count) → count ≡ length image → All AreSettings image → AreDone before (load_list image) (each_with loaded before image)
load_shown before image first count is told fits all = search (arith, load_done, loadable_by)
