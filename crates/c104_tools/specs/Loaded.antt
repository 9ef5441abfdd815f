-- What a load leaves of the switches of a port that shows them.
use Rattle.{c104_event.specs.declared.faults.EventFault.EventFault, c104_regs.specs.declared.settings.Settings.Settings}
use Rattle.{c104_switch.specs.{Commands.switch_reset, Switch.Switch}, c104_token.specs.declared.tokens.Token.Token}
use Rattle.c104_tools.specs.{Ports.Switches, declared.faults.LoadFault.LoadFault}
use Rattle.std.specs.Prelude.{List, true, ℕ, ◌<◌, ◌∷◌, ◌≡◌}

-- a switch that was reset, with these settings, before it is started
abbrev pub reset_with : Switch Token → List Settings → Switch Token
reset_with s settings = record (switch_reset s) { settings = settings }

-- a switch that was loaded with settings: it has just these, and is started; all else is as after a reset
abbrev pub loaded : Switch Token → List Settings → Switch Token
loaded s settings = record (reset_with s settings) { started = true }

-- each switch with what an image is of it
abbrev pub each_with : (Switch Token → List Settings → Switch Token) → Switches → List (List Settings) → Switches
each_with f (s ∷ switches) (settings ∷ image) = f s settings ∷ each_with f switches image
each_with f switches image = switches

-- the port gave no reply
abbrev pub IsUnansweredFault : LoadFault → Type 0
IsUnansweredFault (LoadFault.Port e) = Unit {0}
IsUnansweredFault f = ⊥

-- where the port gave no reply, it has this number of switches, and may leave a command of one of them unanswered so
abbrev pub IsLeftBySwitch : {P : Type 0} → (P → ℕ) → (P → ℕ → List ℕ → EventFault → Type 0) → ℕ → LoadFault → Type 0
IsLeftBySwitch {P} switch_count unanswered count (LoadFault.Port e) =
    (p : P) × (switch : ℕ) × (command : List ℕ)
    × (switch_count p ≡ count) × (switch < count) × unanswered p switch command e
IsLeftBySwitch switch_count unanswered count f = Unit {0}
