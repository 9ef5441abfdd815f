-- What the loader asks for an image, and what it asks to see whether the image is loaded.
use Rattle.c104_control.specs.declared.commands.Command.{Command, TheVariants.{CPeek, CPoke, Reset, Start}}
use Rattle.c104_regs.specs.{Addresses.{address_of, is_writable_address}, KeptValues.{address_end, kept_values}, Registers.address_value}
use Rattle.c104_regs.specs.{Registers.placed_bank, declared.{addresses.Address.Address, settings.Settings.Settings}}
use Rattle.c104_tools.specs.Steps.{Step}
use Rattle.std.specs.{List.{flat_map, range_with_len}, Prelude.{List, None, Option, Some, [], if◌then◌else◌, length, map, ℕ, ◌++◌, ◌+◌}}
use Rattle.std.specs.Prelude.{◌∷◌}

-- a command that reads nothing
abbrev pub order : ℕ → Command → Step
order switch c = record { switch = switch; command = c; value = 0 }

-- a command for each of a given number of switches, in order
abbrev pub for_each : ℕ → Command → List Step
for_each count c = map (λ switch. order switch c) (range_with_len 0 count)

-- steps for each switch of an image, in order, the first of number n
abbrev pub steps_from : (ℕ → List Settings → List Step) → ℕ → List (List Settings) → List Step
steps_from steps n [] = []
steps_from steps n (settings ∷ image) = steps n settings ++ steps_from steps (n + 1) image

-- pokes of values into a switch, each at its address
abbrev pub pokes : ℕ → List (ℕ × ℕ) → List Step
pokes switch values = map (λ x. order switch (CPoke x.0 x.1)) values

-- what the image keeps of a switch, poked into it
abbrev pub switch_pokes : ℕ → List Settings → List Step
switch_pokes switch settings = pokes switch (kept_values settings)

-- what loads an image: each switch is reset; all that the image keeps is poked, by switch and by address;
-- and each switch is started
abbrev pub load_list : List (List Settings) → List Step
load_list image =
    for_each (length image) Reset ++ (steps_from switch_pokes 0 image ++ for_each (length image) Start)

-- what an address is to read, where it can be written, at a switch that is loaded with these settings
abbrev pub due_value : List Settings → ℕ → Option ℕ
due_value settings a = at (address_of a)
  where
    at : Option Address → Option ℕ
    at None = None
    at (Some x) = if is_writable_address x then Some (address_value (placed_bank settings) x) else None

-- peeks of a switch that are to read these values, each at its address
abbrev pub peeks : ℕ → List (ℕ × ℕ) → List Step
peeks switch values = map (λ x. record { switch = switch; command = CPeek x.0; value = x.1 }) values

-- what is due at an address, if anything is, with the address
abbrev pub due_entry : ℕ → Option ℕ → List (ℕ × ℕ)
due_entry a None = []
due_entry a (Some v) = (a, v) ∷ []

-- the values that are due at the addresses below an end, each with its address
abbrev pub due_values : List Settings → ℕ → List (ℕ × ℕ)
due_values settings end = flat_map (λ a. due_entry a (due_value settings a)) (range_with_len 0 end)

-- every register of a switch that can be written is read, by address
abbrev pub switch_peeks : ℕ → List Settings → List Step
switch_peeks switch settings = peeks switch (due_values settings address_end)

-- what sees whether an image is loaded: the same of every switch, in order
abbrev pub verify_list : List (List Settings) → List Step
verify_list image = steps_from switch_peeks 0 image
