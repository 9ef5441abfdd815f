-- What crosses a wire by the name of its steps: a token one way, and credit the other way. Both ends act, or neither does.
use Rattle.{c104_link.specs.Steps.{step_at, yield_step_at, ◌>>=◌}, c104_node.specs.Nodes.{Node, node_credit_in, node_credit_out}}
use Rattle.{c104_node.specs.{Nodes.{node_enter, node_leave}, declared.ends.End.End}, std.specs.Prelude.{List, Option, Some}}

-- a token goes out at one end and comes in at the other
abbrev pub nodes_cross : {A : Type 0} → List (Node A) → End → End → Option (A × List (Node A))
nodes_cross nodes from to = do
  r ← yield_step_at nodes from.node (node_leave from.link)
  entered ← step_at r.1 to.node (node_enter r.0 to.link)
  Some (r.0, entered)

-- one end grants eight more tokens, and the other may send them
abbrev pub nodes_credit : {A : Type 0} → List (Node A) → End → End → Option (List (Node A))
nodes_credit nodes from to = do
  granted ← step_at nodes from.node (node_credit_out from.link)
  step_at granted to.node (node_credit_in to.link)
