-- The registers of a switch: those that are set, and those that tell its state.
use Rattle.{c104_link.specs.Buffers.Outgoing, c104_regs.specs.{Registers.RegisterBank, Values.reset_status}}
use Rattle.c104_regs.specs.declared.{faults.RegFault.RegFault, registers.TheConstants.LINKS, status.Status.Status}
use Rattle.c104_switch.specs.{Switch.{Fresh, Head, Input, Phase, Sinking, Stream, Switch, Want, is_owned}, Views.owner_from}
use Rattle.std.specs.Prelude.{Bool, List, None, Option, Result, Some, [], false, length, slice_get, suc, true, zero, ℕ, ◌||◌, ◌∷◌}
use Rattle.c104_regs.specs.Registers as regs

-- a packet is on its way through the input
abbrev pub is_busy : {H : Type 0} → Phase H → Bool
is_busy Fresh = false
is_busy (Head b) = true
is_busy (Want b g) = true
is_busy (Stream o) = true
is_busy Sinking = true

-- what a switch tells of link l by its two sides
abbrev pub status_of : {A : Type 0} → List (Input A) → ℕ → Input A → Outgoing A → Status
status_of inputs l p q = record {
  sunk = p.sunk;
  short = p.short;
  input_level = length p.buffer.items;
  output_level = length q.items;
  credit = q.credit;
  granted = p.buffer.granted;
  owner = owner_from 0 inputs l;
  busy = is_busy p.phase || is_owned inputs l;
}

-- the same where link l may not be there: then it is as after a reset
abbrev pub sides_status : {A : Type 0} → List (Input A) → ℕ → Option (Input A) → Option (Outgoing A) → Status
sides_status inputs l None q = reset_status
sides_status inputs l (Some p) None = reset_status
sides_status inputs l (Some p) (Some q) = status_of inputs l p q

-- what a switch tells of link l
unfoldable pub link_status : {A : Type 0} → Switch A → ℕ → Status
link_status s l = sides_status s.inputs l (slice_get s.inputs l) (slice_get s.outputs l)

-- what a switch tells of n links, from link l on
abbrev pub statuses_from : {A : Type 0} → Switch A → ℕ → ℕ → List Status
statuses_from s l zero = []
statuses_from s l (suc n) = link_status s l ∷ statuses_from s (suc l) n

-- the registers of a switch
abbrev pub registers : {A : Type 0} → Switch A → RegisterBank
registers s = record { started = s.started; settings = s.settings; statuses = statuses_from s 0 LINKS }

-- what an address reads, where there is a register
abbrev pub switch_peek : {A : Type 0} → Switch A → ℕ → Result ℕ RegFault
switch_peek s a = regs.bank_peek (registers s) a
