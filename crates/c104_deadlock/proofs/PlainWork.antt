-- The work of a network is that of its nodes over their own tokens, since work reads no token.
use Rattle.{c104_check.specs.declared.ports.SwitchPort.SwitchPort, c104_deadlock.{proofs.RoundsEnd.full_map, specs.HeaderWork.none_ahead}}
use Rattle.{c104_deadlock.specs.HeaderWork.work, c104_node.specs.{MappedNodes.map_node, Nodes.Node, Places.states}}
use Rattle.{c104_plan.specs.Plans.Plan, c104_run.{proofs.RecordedNets.states_plain, specs.RecordedNets.{IsReading, Reading}}}
use Rattle.std.proofs.Common.{List, ap, map, sym, ℕ, ◌∙◌, ◌≡◌}

module _ (plan : Plan) (rank : SwitchPort → ℕ) where
  plain_nodes : {A B : Type 0} (f : A → B) (nodes : List (Node A)) → work plan rank (map (map_node f) nodes) ≡ work plan rank nodes
  plain_nodes f nodes = full_map f plan rank none_ahead nodes

  pub places_work : {A P : Type 0} (v : Reading A P) → IsReading v → (places : List P) → work plan rank (states (map v.shown places)) ≡ work plan rank (map v.plain places)
  places_work v reads places = sym (plain_nodes v.kind.plain (states (map v.shown places))) ∙ ap (work plan rank) (states_plain v reads places)
