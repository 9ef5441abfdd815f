-- The place of the node whose entry leads in an event.
use Rattle.{c104_event.specs.declared.events.Event.Event, c104_plan.specs.{Plans.Plan, declared.ports.Port.Port}}
use Rattle.{c104_run.specs.EventActs.{Ask, event_ask, port_place}, c104_token.specs.declared.tokens.Token.Token}
use Rattle.std.specs.Prelude.{ℕ}

-- the place of the node of which something is asked; of what crosses a wire, of the one where it goes out or that grants
abbrev pub ask_place : {A : Type 0} → Plan → Ask A → ℕ
ask_place plan (Ask.Switch s a) = s
ask_place plan (Ask.Terminal t a) = port_place plan (Port.Terminal t)
ask_place plan (Ask.Over p crossing) = port_place plan p

-- the place of the node whose entry leads in an event
abbrev pub event_place : Plan → Event → ℕ
event_place plan e = ask_place {A = Token} plan (event_ask e)
