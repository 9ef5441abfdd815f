-- The part of a node in a round: the events that lead at its place, in the round's order. What crosses a wire is of its
-- near node alone. And what these are, without the other events of the round.
use Rattle.{c104_event.specs.declared.events.Event.Event, c104_node.specs.declared.port_part.PortPart.TheVariants.{Credit, Cross, Turn}}
use Rattle.{c104_plan.specs.{Plans.Plan, declared.ports.Port.Port}, c104_run.specs.{EventPlaces.event_place, RoundParts.port_events}}
use Rattle.c104_run.specs.Rounds.{is_wired, round, switch_claims, wired_links}
use Rattle.std.specs.{List.flat_map, Prelude.{List, [], filter, if◌then◌else◌, length, nat_eq, nat_lt, ℕ, ◌++◌, ◌-◌, ◌∷◌}}

-- the part of the node at a place
abbrev pub round_part : Plan → ℕ → List Event
round_part plan k = filter (λ e. nat_eq (event_place plan e) k) (round plan)

-- the wired ports of the node at a place, in order
abbrev pub node_ports : Plan → ℕ → List Port
node_ports plan k =
    if nat_lt k (length plan.switches)
    then wired_links plan k
    else if nat_lt (k - length plan.switches) (length plan.terminals)
    then filter (is_wired plan) (Port.Terminal (k - length plan.switches) ∷ [])
    else []

-- what a round has for the node at a place beside its ports: a switch's claims, or a token's arrival at a terminal
abbrev pub own_events : Plan → ℕ → List Event
own_events plan k =
    if nat_lt k (length plan.switches)
    then switch_claims k
    else if nat_lt (k - length plan.switches) (length plan.terminals)
    then Event.Drain (k - length plan.switches) ∷ []
    else []

-- the events of a node with these wired ports: those of each part of a round at the ports, and then its own
abbrev pub events_of : Plan → ℕ → List Port → List Event
events_of plan k ports =
    flat_map (port_events Credit) ports
    ++ flat_map (port_events Cross) ports
    ++ flat_map (port_events Turn) ports
    ++ own_events plan k
