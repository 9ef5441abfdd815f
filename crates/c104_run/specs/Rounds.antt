-- Rounds: the events in which every part of a network takes its turn.
use Rattle.{c104_event.specs.declared.events.Event.Event, c104_plan.specs.{Plans.Plan, Wiring.peer, declared.ports.Port.Port}}
use Rattle.c104_regs.specs.declared.registers.TheConstants.{LINKS}
use Rattle.std.specs.{List.{flat_map, range_with_len}, Prelude.{Bool, List, [], filter, is_some, length, map, suc, zero, ℕ, ◌++◌, ◌∷◌}}

-- the numbers of a switch's links
unfoldable pub link_numbers : List ℕ
link_numbers = range_with_len 0 LINKS

-- whether a port is wired
abbrev pub is_wired : Plan → Port → Bool
is_wired plan p = is_some (peer plan p)

-- the wired ports of a switch, by link
abbrev pub wired_links : Plan → ℕ → List Port
wired_links plan s = filter (is_wired plan) (map (Port.Switch s) link_numbers)

-- the wired ports of the terminals
abbrev pub wired_terminals : Plan → List Port
wired_terminals plan =
    filter (is_wired plan) (map Port.Terminal (range_with_len 0 (length plan.terminals)))

-- the wired ports: those of the switches by switch and link, and then the terminals
abbrev pub wired_ports : Plan → List Port
wired_ports plan =
    flat_map (wired_links plan) (range_with_len 0 (length plan.switches)) ++ wired_terminals plan

-- a turn of the input at a port, with word 0; a terminal has no input
abbrev pub turn_at : Port → List Event
turn_at (Port.Switch s l) = Event.Input s l 0 ∷ []
turn_at (Port.Terminal t) = []

-- the claims of an input: of each output
abbrev pub claims_of : ℕ → ℕ → List Event
claims_of s i = map (Event.Claim s i) link_numbers

-- the claims of a switch, by input and output
abbrev pub switch_claims : ℕ → List Event
switch_claims s = flat_map (claims_of s) link_numbers

-- the claims of a given number of switches
abbrev pub all_claims : ℕ → List Event
all_claims switches = flat_map switch_claims (range_with_len 0 switches)

-- a token's arrival at each of a given number of terminals
abbrev pub all_drains : ℕ → List Event
all_drains terminals = map Event.Drain (range_with_len 0 terminals)

-- a round: credit at every wired port, crossings from every wired port, a turn of every wired input,
-- all claims of every switch, and a token's arrival at every terminal
abbrev pub round : Plan → List Event
round plan =
    map Event.Credit (wired_ports plan)
    ++ map Event.Cross (wired_ports plan)
    ++ flat_map turn_at (wired_ports plan)
    ++ all_claims (length plan.switches)
    ++ all_drains (length plan.terminals)

-- a given number of rounds
abbrev pub rounds : Plan → ℕ → List Event
rounds plan zero = []
rounds plan (suc n) = round plan ++ rounds plan n
