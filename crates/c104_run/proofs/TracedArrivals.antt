-- What arrived in a network of tagged tokens is what arrived over plain tokens.
use Rattle.{c104_link.specs.Steps.◌>>=◌, c104_node.specs.{MappedNodes.map_node, Nodes.{Node, node_arrived}, TracedRecords.TracedRecord}}
use Rattle.{c104_node.specs.{TracedRecords.counted_shown, declared.tagged.TaggedToken.TaggedToken}, c104_run.proofs.RecordedNets.seen_plain}
use Rattle.c104_run.{proofs.TaggedRuns.{plain_network, token_of}, specs.Engines.{EngineView, engine_network, engine_record}}
use Rattle.c104_run.specs.{NetRecords.NetRecord, Network.{Network, network_arrived}, RecordedPlaces.{counted_keeps, counted_reading}}
use Rattle.{c104_token.specs.declared.tokens.Token.Token, std.proofs.Common.{List, Option, ap, arith, map, option_map, ℕ, ◌∙◌, ◌≡◌}}
use Rattle.std.proofs.lemmas.Option.{slice_get-map}

arrived_plain : (n : Node TaggedToken) → node_arrived (map_node token_of n) ≡ option_map (map token_of) (node_arrived n)
arrived_plain n = search arith

map_there : (o : Option (Node TaggedToken)) → (option_map (map_node token_of) o >>= node_arrived) ≡ option_map (map token_of) (o >>= node_arrived)
map_there o = search (arith, arrived_plain)

pub network_arrived_plain : (net : Network TaggedToken) (t : ℕ) → network_arrived (plain_network net) t ≡ option_map (map token_of) (network_arrived net t)
network_arrived_plain net t = search (arith, token_of, slice_get-map, map_there)

pub arrived_there : (e : EngineView TracedRecord) (t : ℕ) (r : NetRecord) (o : Option (List TaggedToken)) → engine_record counted_reading e ≡ r → ◌≡◌ {A = Option (List TaggedToken)} o (network_arrived (engine_network counted_shown e) t) → option_map (map token_of) o ≡ network_arrived r.network t
arrived_there e t r o shown is =
    ap (option_map (map token_of)) is
    ∙ seen_plain counted_reading counted_keeps.reads (λ (net : Network TaggedToken). option_map (map token_of) (network_arrived net t)) (λ (net : Network Token). network_arrived net t) (λ net. network_arrived_plain net t) e r shown
