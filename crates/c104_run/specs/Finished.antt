-- What a run leaves: the plan of its network, and the state of its terminals at its end.
use Rattle.{c104_link.specs.Steps.◌>>=◌, c104_node.specs.{Nodes.terminals_of, Terminals.Terminal}, c104_plan.specs.Plans.Plan}
use Rattle.c104_run.specs.Network.{Network}
use Rattle.std.specs.Prelude.{List, Option, Some, slice_get, ℕ}

-- a run that is finished: the plan of its network, and the terminals at its end, in order
pub record FinishedRun (A : Type 0) : Type 0 where
  pub plan : Plan
  pub terminals : List (Terminal A)

-- a network that is finished as it stands
abbrev pub network_finish : {A : Type 0} → Network A → FinishedRun A
network_finish net = record { plan = net.plan; terminals = terminals_of net.nodes }

-- what had arrived at a terminal
abbrev pub run_arrived : {A : Type 0} → FinishedRun A → ℕ → Option (List A)
run_arrived run t = slice_get run.terminals t >>= (λ terminal. Some terminal.arrived)
