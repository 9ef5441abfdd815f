-- The control commands that load and start a network, and the script of them that `label --commands` prints.
--     boot_commands image      the commands, each for its switch
--     PrintsCommands plan image text refused
use Rattle.{c104_commands.specs.declared.boots.SwitchCommand.SwitchCommand, c104_control.specs.Table.command_bytes}
use Rattle.{c104_plan.specs.{PlanImage.Image, Plans.Plan, PortTexts.switch_name}, c104_token.specs.Text.hex_digit}
use Rattle.c104_tools.specs.{Loads.load_list, Steps.Step}
use Rattle.std.specs.Prelude.{Bool, List, [], codes, false, flat_map, map, ℕ, ◌%◌, ◌++◌, ◌/◌, ◌∷◌, ◌≡◌}

-- what a step of the loader hands to its switch
abbrev pub switch_command : Step → SwitchCommand
switch_command step = record { switch = step.switch; bytes = command_bytes step.command }

-- all that the loader hands to the switches for an image, in its order
abbrev pub boot_commands : Image → List SwitchCommand
boot_commands image = map switch_command (load_list image.settings)

-- a byte in two hexadecimal digits, behind a space (0x20)
abbrev pub spaced_byte : ℕ → List ℕ
spaced_byte byte = 0x20 ∷ hex_digit (byte / 16) ∷ hex_digit (byte % 16) ∷ []

-- the line of a script that hands a command to its switch
abbrev pub command_line : Plan → SwitchCommand → List ℕ
command_line plan command =
    codes "control " ++ (switch_name plan command.switch ++ (flat_map spaced_byte command.bytes ++ codes "\n"))

-- the script of all of them
abbrev pub commands_text : Plan → Image → List ℕ
commands_text plan image = flat_map (command_line plan) (boot_commands image)

-- what `label --commands` prints of a network: that script, which isn't refused
abbrev pub PrintsCommands : Plan → Image → List ℕ → Bool → Type 0
PrintsCommands plan image text refused = (text ≡ commands_text plan image) × (refused ≡ false)
