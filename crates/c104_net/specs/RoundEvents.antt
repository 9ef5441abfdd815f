-- Events of a kind that rounds have.
use Rattle.c104_event.specs.declared.events.Event.{Event}

-- an event of a kind that rounds have, anywhere and in any order: no packet is sent, and no command is given
abbrev pub IsOfRound : Event → Type 0
IsOfRound (Event.Send t p) = ⊥
IsOfRound (Event.Control s bytes) = ⊥
IsOfRound e = Unit {0}
