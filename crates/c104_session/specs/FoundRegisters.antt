-- The registers that the debugger finds: those that don't read as they were loaded, and those of a switch.
use Rattle.{c104_event.specs.declared.faults.EventFault.EventFault, c104_regs.specs.Addresses.{address_of, register_properties}}
use Rattle.c104_regs.specs.{KeptValues.address_end, declared.{addresses.Address.{Address, TheVariants.AtLink}, settings.Settings.Settings}}
use Rattle.{c104_run.specs.Network.{Network, network_peek}, c104_script.specs.declared.answers.Answer.{Answer, TheVariants.Found}}
use Rattle.c104_script.specs.declared.{answers.Answer.TheVariants.Refused, findings.Finding.Finding}
use Rattle.{c104_script.specs.declared.found_registers.FoundRegister.FoundRegister, c104_token.specs.declared.tokens.Token.Token}
use Rattle.c104_tools.specs.Loads.{due_value}
use Rattle.std.specs.{List.{flat_map, range_with_len}, Prelude.{Bool, List, None, Option, Some, [], false, if◌then◌else◌, not, slice_get}}
use Rattle.std.specs.Prelude.{true, ℕ, ◌++◌, ◌+◌, ◌-◌, ◌==◌, ◌∷◌}

-- a register of the switch of this name, with what was loaded there if it is compared with that
abbrev pub found_register : List ℕ → ℕ → ℕ → Option ℕ → FoundRegister
found_register switch addr value loaded = record { switch = switch; addr = addr; value = value; loaded = loaded }

-- a register at which this is due, if anything is, and that reads this: it is found if that is another value
abbrev pub difference : List ℕ → ℕ → Option ℕ → Option ℕ → List FoundRegister
difference switch addr (Some due) (Some value) = if value == due then [] else found_register switch addr value (Some due) ∷ []
difference switch addr due value = []

-- the addresses of a switch from this one on
unfoldable pub addresses_from : ℕ → List ℕ
addresses_from a = range_with_len a (address_end - a)

-- those of these addresses at a switch that was loaded with these settings
abbrev pub differences_at : Network Token → ℕ → List ℕ → List Settings → List ℕ → List FoundRegister
differences_at net s name settings addrs = flat_map (λ a. difference name a (due_value settings a) (network_peek net s a)) addrs

-- those of a switch, if there is one
abbrev pub switch_differences : Network Token → ℕ → Option (List ℕ) → List Settings → List FoundRegister
switch_differences net s None settings = []
switch_differences net s (Some name) settings = differences_at net s name settings (addresses_from 0)

-- those of the switches of an image, in order, the first of number n
abbrev pub differences_from : Network Token → ℕ → List (List Settings) → List FoundRegister
differences_from net n [] = []
differences_from net n (settings ∷ image) =
    switch_differences net n (slice_get net.plan.switches n) settings ++ differences_from net (n + 1) image

-- what is answered where these registers don't read as they were loaded
abbrev pub differences_answer : List FoundRegister → Answer
differences_answer [] = Found Finding.Verified
differences_answer (r ∷ registers) = Found (Finding.Registers (r ∷ registers))

-- whether a register that reads this is told of: it is one of the switch itself, or it reads another value than after a
-- reset
abbrev pub is_told : Option Address → ℕ → Bool
is_told None value = false
is_told (Some (AtLink l r)) value = not (value == (register_properties r).reset)
is_told (Some x) value = true

-- a register that reads this, if it is told of
abbrev pub told : List ℕ → ℕ → Option ℕ → List FoundRegister
told switch addr None = []
told switch addr (Some value) = if is_told (address_of addr) value then found_register switch addr value None ∷ [] else []

-- those of these addresses at a switch of this name
abbrev pub told_at : Network Token → ℕ → List ℕ → List ℕ → List FoundRegister
told_at net s name addrs = flat_map (λ a. told name a (network_peek net s a)) addrs

-- what is answered of the registers of a switch, if there is one
abbrev pub told_answer : Network Token → ℕ → Option (List ℕ) → Answer
told_answer net s None = Refused EventFault.NoNode
told_answer net s (Some name) = Found (Finding.Registers (told_at net s name (addresses_from 0)))
