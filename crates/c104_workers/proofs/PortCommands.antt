-- The commands of a seat grow by the one that a call is of.
use Rattle.c104_event.specs.{Calls.call_of, declared.{calls.Call.Call, events.Event.Event}}
use Rattle.{c104_switch.specs.declared.actions.ReplyOf.ReplyOf, c104_tools.specs.{Outcomes.Given, Ports.command_asked}}
use Rattle.{c104_turns.specs.{Calls.SeatView, SeatGrowth.GrewBy}, c104_workers.specs.SeatCommands.{IsOneCall, seat_commands, told_command}}
use Rattle.std.proofs.{Common.{Err, List, Ok, [], ap, sym, ℕ, ◌++◌, ◌∙◌, ◌∷◌, ◌≡◌}, lemmas.List.{append-nil, append_assoc}}
use Rattle.std.specs.Prelude.{MatchResult}

commands_last : (calls : List Call) (c : Call) → seat_commands (calls ++ c ∷ []) ≡ seat_commands calls ++ told_command c.event c.reply
commands_last [] c = append-nil (told_command c.event c.reply)
commands_last (d ∷ calls) c = ap (λ xs. told_command d.event d.reply ++ xs) (commands_last calls c) ∙ sym (append_assoc (told_command d.event d.reply) (seat_commands calls) (told_command c.event c.reply))

module _ (old new : SeatView) (s : ℕ) (bytes : List ℕ) where
  pub commands_grew : (told : List ℕ) → GrewBy old new (Event.Control s bytes) (ReplyOf.Control told) → seat_commands new.calls ≡ seat_commands old.calls ++ command_asked s bytes told ∷ []
  commands_grew told by = ap (λ (t : SeatView). seat_commands t.calls) by.listed ∙ commands_last old.calls (call_of (Event.Control s bytes) by.ticket (ReplyOf.Control told))

  -- and by none where no reply is given
  pub commands_by : (given : Given) → IsOneCall old new s bytes given → MatchResult given (λ told. seat_commands new.calls ≡ seat_commands old.calls ++ command_asked s bytes told ∷ []) (λ f. seat_commands new.calls ≡ seat_commands old.calls)
  commands_by (Ok told) by = commands_grew told by
  commands_by (Err f) same = ap (λ (t : SeatView). seat_commands t.calls) same
