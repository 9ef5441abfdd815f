-- A poke of the registers, by the link and the register that it sets or its first fault.
use Rattle.c104_regs.{proofs.AddressLemmas.link_at, specs.{Addresses.Register, Faults.RegFault, Registers.{RegisterBank, bank_poke}}}
use Rattle.{c104_regs.specs.Registers.{free_target, status_at, target, with_register}, std.proofs.Common.{Bool, Err, Ok, Result, arith, ℕ}}
use Rattle.std.proofs.Common.{◌-◌, ◌/◌, ◌≡◌}

-- what a poke answers and leaves, by its target
abbrev pub poked_by : RegisterBank → ℕ → Result (ℕ × Register) RegFault → Result (Unit {0}) RegFault × RegisterBank
poked_by b v (Err e) = (Err e, b)
poked_by b v (Ok (l, r)) = (Ok tt, with_register b l r v)

module _ (a v : ℕ) where
  -- the link of a target is that of its address
  target_link : (l : ℕ) (r : Register) → target a v ≡ Ok (l, r) → l ≡ a / 256 - 1
  target_link l r is = search (arith, link_at)

  -- a poke does what its target says, which was told whether the link of the address is busy
  pub poke_by_target : (b : RegisterBank) (busy : Bool) (t : Result (ℕ × Register) RegFault) (link : ℕ) → link ≡ a / 256 - 1 → busy ≡ (status_at b link).busy → t ≡ free_target busy a v → poked_by b v t ≡ bank_poke b a v
  poke_by_target b busy t link of told is = search (arith, target_link)
