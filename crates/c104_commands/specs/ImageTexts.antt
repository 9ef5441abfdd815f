-- What `label` prints: the ranges and the registers of an image, by the names of a plan.
use Rattle.{c104_plan.specs.{PlanImage.Image, Plans.Plan, PortTexts.{switch_name, terminal_name}}, c104_regs.specs.Addresses.address_of}
use Rattle.c104_regs.specs.{KeptValues.kept_values, declared.settings.Settings.Settings}
use Rattle.std.specs.{Fmt.{decimal, digits}, List.range_with_len, Prelude.{Bool, IsSome, List, None, Option, Some, [], codes, false}}
use Rattle.std.specs.Prelude.{flat_map, length, replicate, slice_get, ℕ, ◌++◌, ◌-◌, ◌≡◌}

-- a number in lower-case hexadecimal, padded in front with zeros (0x30) to at least a given number of digits
unfoldable pub hex_text : ℕ → ℕ → List ℕ
hex_text width n = replicate (width - length (digits 16 false n)) 0x30 ++ digits 16 false n

-- the line of a terminal's labels: the first, and how many; where there are none, nothing
abbrev pub range_line : Plan → ℕ → Option (ℕ × ℕ) → List ℕ
range_line plan terminal None = []
range_line plan terminal (Some range) =
    codes "range " ++ (terminal_name plan terminal ++ (codes " " ++ (decimal range.0 ++ (codes " " ++ (decimal range.1 ++ codes "\n")))))

-- the line of a register: its switch, its address and its value
abbrev pub value_line : List ℕ → ℕ × ℕ → List ℕ
value_line switch value =
    switch ++ (codes " " ++ (hex_text 4 value.0 ++ (codes " " ++ (hex_text 8 value.1 ++ codes "\n"))))

-- the lines of a switch's registers, but for those that read as after a reset, in ascending order of addresses
abbrev pub value_lines : List ℕ → Option (List Settings) → List ℕ
value_lines switch None = []
value_lines switch (Some settings) = flat_map (value_line switch) (kept_values settings)

-- the lines of all terminals of a plan
abbrev pub range_lines : Plan → Image → ℕ → List ℕ
range_lines plan image terminals =
    flat_map (λ t. range_line plan t (slice_get image.ranges t)) (range_with_len 0 terminals)

-- the lines of a plan's first switches, a given number of them
abbrev pub switch_lines : Plan → Image → ℕ → List ℕ
switch_lines plan image switches =
    flat_map (λ s. value_lines (switch_name plan s) (slice_get image.settings s)) (range_with_len 0 switches)

-- the lines of all terminals, and then those of all switches
abbrev pub image_text : Plan → Image → List ℕ
image_text plan image =
    range_lines plan image (length plan.terminals) ++ switch_lines plan image (length plan.switches)

-- what it prints, which isn't refused
abbrev pub PrintsLabels : Plan → Image → List ℕ → Bool → Type 0
PrintsLabels plan image text refused = (text ≡ image_text plan image) × (refused ≡ false)

-- and what `label --names` does, the same lines with the names of registers: one stands at the address of a value
abbrev pub PrintsNames : Plan → Image → List ℕ → Bool → Type 0
PrintsNames plan image text refused = refused ≡ false

abbrev pub IsOfRegister : ℕ × ℕ → Type 0
IsOfRegister value = IsSome (address_of value.0)
