-- What a poke of the registers leaves, and so what it leaves of a switch.
use Rattle.c104_regs.specs.{Registers.RegisterBank, declared.{faults.RegFault.RegFault, settings.Settings.Settings}}
use Rattle.{c104_switch.specs.{Commands.switch_poke, Peeks.registers, Switch.Switch}, std.proofs.Common.{List, Result, ap, arith, length}}
use Rattle.std.proofs.Common.{length-set, ℕ, ◌∙◌, ◌≡◌}
use Rattle.c104_regs.specs.Registers as regs

-- registers that came of others: of a switch that is started or not as it was, with as many links
pub record KeepsBank (old new : RegisterBank) : Type 0 where
  pub started : new.started ≡ old.started
  pub links : length new.settings ≡ length old.settings

-- a poke keeps whether the switch is started, and how many links are set
pub keeps_poke : (b : RegisterBank) (a v : ℕ) → KeepsBank b (regs.bank_poke b a v).1
keeps_poke b a v = search (arith, length-set)

-- a poke whose answer and settings are those of a poke of the registers of a switch
module _ {A : Type 0} (s : Switch A) (a v : ℕ) (r : Result (Unit {0}) RegFault) (settings : List Settings) (answer : r ≡ (regs.bank_poke (registers s) a v).0) (left : settings ≡ (regs.bank_poke (registers s) a v).1.settings) where
  -- keeps how many links are set
  pub poke_links : length settings ≡ length s.settings
  poke_links = ap length left ∙ (keeps_poke (registers s) a v).links

  -- and is a poke of the switch
  pub poke_made : (t : Switch A) → t ≡ record s { settings = settings } → ◌≡◌ {A = Result (Unit {0}) RegFault × Switch A} (r, t) (switch_poke s a v)
  poke_made t is = search arith
