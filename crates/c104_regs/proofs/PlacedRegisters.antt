-- What registers with given settings keep.
use Rattle.c104_regs.{proofs.RegisterLemmas.IsInRange-reset, specs.{Ranges.IsInRange, Registers.IsRegisterBank, Settings.Settings}}
use Rattle.{c104_regs.specs.{Settings.reset_settings, Values.{Status, reset_status}}, std.proofs.Common.{All, Bool, List, arith, get_or}}
use Rattle.std.proofs.{Common.{length, replicate, ℕ, ◌≡◌}, lemmas.{Bool.cases_lt, List.get_or_past}}

-- past the last link stands what is set after a reset
link_in_range : (settings : List Settings) → All IsInRange settings → (l : ℕ) → IsInRange (get_or settings l reset_settings)
link_in_range settings ranges l = search (arith, cases_lt, get_or_past, IsInRange-reset)

pub kept_placed : (started : Bool) (given own : List Settings) (statuses : List Status) → own ≡ given → statuses ≡ replicate 32 reset_status → length given ≡ 32 → All IsInRange given → IsRegisterBank (record { started = started; settings = own; statuses = statuses })
kept_placed started given own statuses same told links ranges = search (arith, link_in_range)
