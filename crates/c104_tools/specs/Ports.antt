-- Control commands that were asked through a port, and what they come to at switches.
pub use Rattle.c104_tools.specs.declared.ports.Asked.{Asked}
use Rattle.{c104_event.specs.declared.faults.EventFault.EventFault, c104_switch.specs.{Control.switch_control, Switch.Switch}}
use Rattle.{c104_token.specs.declared.tokens.Token.Token, c104_tools.specs.Steps.Given}
use Rattle.std.specs.Prelude.{List, MatchResult, None, Option, Some, [], slice_get, slice_set, ℕ, ◌++◌, ◌∷◌, ◌≡◌}

-- the switches of a network, in order
abbrev pub Switches : Type 0
Switches = List (Switch Token)

-- a command that was asked of a switch and answered, by the bytes of both
abbrev pub command_asked : ℕ → List ℕ → List ℕ → Asked
command_asked switch command reply =
    record { switch = switch; command = command; reply = reply }

-- these switches obeyed commands one after the other: each reply is that of its switch, and those are the
-- switches after it. A port that shows no switches shows none later
abbrev pub Obeyed : Option Switches → List Asked → Option Switches → Type 0
Obeyed None asked after = after ≡ None
Obeyed (Some before) [] after = after ≡ Some before
Obeyed (Some before) (a ∷ asked) after =
    (s : Switch Token) × (slice_get before a.switch ≡ Some s)
    × (a.reply ≡ (switch_control s a.command).0)
    × Obeyed (Some (slice_set before a.switch (switch_control s a.command).1)) asked after

-- a command was handed to a switch through a port, which gave a reply or none: all that is known of the port after it.
-- Its list grew by just this command with its reply, which the switches that it shows obeyed; or nothing was asked, and
-- it is one that the port may leave unanswered so. It has as many switches as before
pub record Commanded {P : Type 0} (commands : P → List Asked) (switch_count : P → ℕ) (shown : P → Option Switches)
    (unanswered : P → ℕ → List ℕ → EventFault → Type 0) (due : P → ℕ → List ℕ → Given → P → Type 0)
    (old : P) (switch : ℕ) (command : List ℕ) (given : Given) (new : P) : Type 0 where
  pub replied : MatchResult given
      (λ reply. (commands new ≡ commands old ++ command_asked switch command reply ∷ [])
      × Obeyed (shown old) (command_asked switch command reply ∷ []) (shown new))
      (λ e. (commands new ≡ commands old) × (shown new ≡ shown old) × unanswered old switch command e)
  pub came : due old switch command given new
  pub count : switch_count new ≡ switch_count old
