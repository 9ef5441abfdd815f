-- What commands change in a switch: a reset, a poke of a register, and the start.
use Rattle.{c104_link.specs.Buffers.{incoming_clear, outgoing_clear}, c104_regs.specs.Settings.reset_settings}
use Rattle.{c104_regs.specs.declared.{faults.RegFault.RegFault, registers.TheConstants.LINKS}, c104_switch.specs.Peeks.registers}
use Rattle.c104_switch.specs.Switch.{Fresh, Input, Switch}
use Rattle.std.specs.Prelude.{Result, false, map, replicate, true, ℕ}
use Rattle.c104_regs.specs.Registers as regs

-- an input after a reset: no token, no packet under way, and nothing counted. What it granted stays
abbrev pub input_reset : {A : Type 0} → Input A → Input A
input_reset p = record { buffer = incoming_clear p.buffer; phase = Fresh; sunk = 0; short = 0 }

-- a switch after a reset: not started, all registers at their first values, and no token anywhere. What
-- its links granted and may send stays
abbrev pub switch_reset : {A : Type 0} → Switch A → Switch A
switch_reset s = record { started = false; settings = replicate LINKS reset_settings; inputs = map input_reset s.inputs; outputs = map outgoing_clear s.outputs }

-- what a poke of v at address a answers, and the switch after it: one that is refused changes nothing
abbrev pub switch_poke : {A : Type 0} → Switch A → ℕ → ℕ → Result (Unit {0}) RegFault × Switch A
switch_poke s a v = let r = regs.bank_poke (registers s) a v in (r.0, record s { settings = r.1.settings })

-- a switch after its start: from now on it grants, and moves tokens from its inputs to its outputs
abbrev pub switch_start : {A : Type 0} → Switch A → Switch A
switch_start s = record s { started = true }
