use Rattle.{c104_node.specs.{Nodes.Node, Starts.start_node}, c104_run.proofs.{BalancePlaced.steady_new, TracedFirsts.new_nodes}}
use Rattle.{c104_run.specs.{NetRecords.fresh_record, Network.network_of}, c104_token.specs.declared.tokens.Token.Token}
use Rattle.std.proofs.Common.{IfOk, List, map, subst, ◌∙◌, ◌≡◌}
use Rattle.c104_run.proofs.traced_net.TracedNet.new.Goals as goal

pub from_starts-requires : goal.from_starts-requires
from_starts-requires c =
    steady_new {A = Token} c.args.plan.now (map start_node c.as_slice.result.now) (new_nodes c.args.plan.now c.as_slice.result.now (c.as_slice.ensures.value ∙ c.in_ok-starts.ensures))
    c.switches-switches.ensures.kept

pub returns : goal.returns
returns c =
    subst (λ (nodes : List (Node Token)). IfOk c.from_starts.result (λ net. net ≡ fresh_record (network_of c.args.plan.now nodes)))
    (new_nodes c.args.plan.now c.as_slice.result.now (c.as_slice.ensures.value ∙ c.in_ok-starts.ensures)) c.from_starts.ensures
