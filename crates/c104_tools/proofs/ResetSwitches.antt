-- A switch that was reset takes every value that may be set: nothing is under way, so no link is busy.
use Rattle.c104_control.{proofs.ReadCommands.read_back, specs.{Table.{command_bytes, reply_bytes}, declared.commands.Command.Command}}
use Rattle.c104_control.specs.declared.{commands.Command.TheVariants.CPoke, faults.CommandFault.CommandFault}
use Rattle.{c104_control.specs.declared.replies.Answer.TheVariants.Poked, c104_link.specs.Buffers.Outgoing}
use Rattle.c104_regs.{proofs.RegisterLemmas.get_or-same, specs.Addresses.{address_of, register_properties, register_takes}}
use Rattle.c104_regs.specs.{Registers.{bank_poke, placed_bank, settable, status_at, target, waits}, Values.reset_status}
use Rattle.c104_regs.specs.declared.addresses.{Address.{Address, TheVariants.{AtLink, DeviceId, Started}}, Register.Register}
use Rattle.c104_regs.specs.declared.{faults.RegFault.{RegFault, TheVariants.{NoRegister, ReadOnly}}, settings.Settings.Settings}
use Rattle.{c104_regs.specs.declared.status.Status.Status, c104_switch.specs.{Commands.{input_reset, switch_poke}, Control.poke_answer}}
use Rattle.c104_switch.specs.{Control.{switch_control, switch_obey_if_read}, Peeks.{link_status, registers, sides_status, statuses_from}}
use Rattle.{c104_switch.specs.Switch.{Input, Switch, is_owned}, c104_token.specs.declared.tokens.Token.Token}
use Rattle.{c104_tools.specs.Loaded.reset_with, std.proofs.Common.{Bool, Err, IsTrue, List, None, Ok, Option, Result, Some, [], ap, arith}}
use Rattle.std.proofs.Common.{false, get_or, map, option_map, refl, suc, zero, ℕ, ◌&&◌, ◌<◌, ◌^◌, ◌∙◌, ◌∷◌, ◌≡◌}
use Rattle.std.proofs.lemmas.{Bool.Decides.nat_tests, Option.slice_get-map}

-- no input of a switch that was reset streams
none_owned : (inputs : List (Input Token)) (o : ℕ) → is_owned (map input_reset inputs) o ≡ false
none_owned [] o = refl
none_owned (p ∷ inputs) o = none_owned inputs o

module _ (s : Switch Token) (settings : List Settings) where
  -- so none of its links is busy
  idle_sides : (l : ℕ) (p : Option (Input Token)) (q : Option (Outgoing Token)) → (sides_status (map input_reset s.inputs) l (option_map input_reset p) q).busy ≡ false
  idle_sides l p q = search (arith, none_owned)

  idle_link : (l : ℕ) → (link_status (reset_with s settings) l).busy ≡ false
  unfolding link_status
  idle_link l = search (arith, slice_get-map, idle_sides)

  idle_from : (n k l : ℕ) → (get_or (statuses_from (reset_with s settings) n k) l reset_status).busy ≡ false
  idle_from n zero zero = refl
  idle_from n zero (suc l) = refl
  idle_from n (suc k) zero = idle_link n
  idle_from n (suc k) (suc l) = idle_from (suc n) k l

  idle : (l : ℕ) → (status_at (registers (reset_with s settings)) l).busy ≡ false
  idle l = idle_from 0 32 l

  never : (b : Bool) → (b && false) ≡ false
  never b = search arith

  not_kept : (l : ℕ) (r : Register) → (waits r && (status_at (registers (reset_with s settings)) l).busy) ≡ false
  not_kept l r = ap (λ b. waits r && b) (idle l) ∙ never (waits r)

  not_kept_placed : (l : ℕ) (r : Register) → (waits r && (status_at (placed_bank settings) l).busy) ≡ false
  not_kept_placed l r = ap (λ (t : Status). waits r && t.busy) (get_or-same 32 l reset_status) ∙ never (waits r)

  -- a poke that may be made is made, as at a switch that was placed with the settings
  module _ (a v : ℕ) where
    no_fault : (e : RegFault) → target a v ≡ Err e → settable a v ≡ Ok tt → ⊥
    no_fault e at may = let no : ◌≡◌ {A = Result (Unit {0}) RegFault} (Err e) (Ok tt) = rw at at may in cc

    answer_of : (t : Result (ℕ × Register) RegFault) → target a v ≡ t → settable a v ≡ Ok tt → (bank_poke (registers (reset_with s settings)) a v).0 ≡ Ok tt
    answer_of (Err e) at may = absurd (no_fault e at may)
    answer_of (Ok (l, r)) at may = rw (at, not_kept l r) refl

    left_of : (t : Result (ℕ × Register) RegFault) → target a v ≡ t → settable a v ≡ Ok tt → (bank_poke (registers (reset_with s settings)) a v).1.settings ≡ (bank_poke (placed_bank settings) a v).1.settings
    left_of (Err e) at may = absurd (no_fault e at may)
    left_of (Ok (l, r)) at may = rw (at, not_kept l r, not_kept_placed l r) refl

    poked : settable a v ≡ Ok tt → switch_poke (reset_with s settings) a v ≡ (Ok tt, reset_with s (bank_poke (placed_bank settings) a v).1.settings)
    poked may = search (arith, answer_of, left_of)

    -- so is the command
    pub poke_obeyed : settable a v ≡ Ok tt → a < 2 ^ 16 → v < 2 ^ 32 → switch_control (reset_with s settings) (command_bytes (CPoke a v)) ≡ (reply_bytes Poked, reset_with s (bank_poke (placed_bank settings) a v).1.settings)
    poke_obeyed may low small =
        ap (λ (c : Result Command CommandFault). (reply_bytes (switch_obey_if_read (reset_with s settings) c).0, (switch_obey_if_read (reset_with s settings) c).1)) (read_back (CPoke a v) (low, small))
        ∙ ap (λ (r : Result (Unit {0}) RegFault × Switch Token). (reply_bytes (poke_answer r.0), r.1)) (poked may)

-- a value that may be set is a small one
small_by : (r : Register) (v : ℕ) → IsTrue (register_takes r v) → v < 4294967296
small_by r v takes = search (arith, nat_tests)

module _ (a v : ℕ) where
  taken_by : (l : ℕ) (r : Register) (writable fits : Bool) → register_takes r v ≡ fits → (register_properties r).is_writable ≡ writable → address_of a ≡ Some (AtLink l r) → settable a v ≡ Ok tt → v < 4294967296
  taken_by l r writable fits takes may at is = search (arith, small_by)

  pub settable_small : settable a v ≡ Ok tt → v < 4294967296
  settable_small is = by_address (address_of a) refl is
    where
      by_address : (x : Option Address) → address_of a ≡ x → settable a v ≡ Ok tt → v < 4294967296
      by_address None at is = let no : ◌≡◌ {A = Result (Unit {0}) RegFault} (Err NoRegister) (Ok tt) = rw at at is in cc
      by_address (Some DeviceId) at is = let no : ◌≡◌ {A = Result (Unit {0}) RegFault} (Err ReadOnly) (Ok tt) = rw at at is in cc
      by_address (Some Started) at is = let no : ◌≡◌ {A = Result (Unit {0}) RegFault} (Err ReadOnly) (Ok tt) = rw at at is in cc
      by_address (Some (AtLink l r)) at is = taken_by l r _ _ refl refl at is
