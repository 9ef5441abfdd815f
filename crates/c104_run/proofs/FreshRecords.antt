-- A network with its record where a run starts keeps what such a network keeps.
use Rattle.{c104_node.specs.{Nodes.Node, Starts.{start_node, start_of}, declared.acts.Entry.Entry}, c104_run.specs.Balance.IsSteady}
use Rattle.c104_run.specs.{NetRecords.{IsNetRecord, IsWithinLimit, fresh_record}, Network.{Network, network_of}}
use Rattle.{c104_token.specs.declared.tokens.Token.Token, std.proofs.Common.{List, [], ap, arith, map, refl, slice_get, subst, sym, ◌∙◌}}
use Rattle.std.{proofs.{Common.◌≡◌, lemmas.{List.Elements.All-map, Option.slice_get-map}}, specs.Option.option_map}

abbrev no_entries : Node Token → List Entry
no_entries n = []

-- a network whose nodes stand at their starts keeps what such a network keeps, where a run starts
pub fresh_kept : (net : Network Token) → IsSteady net → map start_node (map start_of net.nodes) ≡ net.nodes → IsNetRecord (fresh_record net)
fresh_kept net steady stand = record {
  steady = steady;
  started = subst (λ ns. IsSteady {A = Token} (network_of net.plan ns)) (sym stand) steady;
  told = (
    [],
    record {
      run = ap (network_of net.plan) (sym stand);
      told = λ k. slice_get-map no_entries net.nodes k ∙ ap (λ ns. option_map no_entries (slice_get ns k)) (sym stand);
      counted = refl;
      ordered = tt;
    },
  );
  within = All-map IsWithinLimit no_entries net.nodes (λ i d inside. omega arith);
  counted = omega arith;
}
