-- What is set at the switch at a place of a network whose nodes are read with tagged tokens.
use Rattle.c104_node.specs.{MappedNodes.map_node, Nodes.Node, Places.states, TracedRecords.{TracedRecord, counted_shown}}
use Rattle.{c104_node.specs.declared.{node.NodeOf.NodeOf, tagged.TaggedToken.TaggedToken}, c104_plan.specs.Plans.Plan}
use Rattle.c104_run.{proofs.RecordedNets.states_plain, specs.{NetRecords.NetRecord, RecordedNets.places_record}}
use Rattle.{c104_run.specs.RecordedPlaces.{counted_keeps, counted_reading}, c104_switch.specs.Switch.Switch}
use Rattle.{c104_token.specs.declared.tokens.Token.Token, std.proofs.Common.{List, None, Option, Some, ap, map, slice_get, sym, ℕ, ◌∙◌}}
use Rattle.std.{proofs.{Common.◌≡◌, lemmas.Option.slice_get-map}, specs.Option.option_map}

-- a node that is found is a switch where these settings are set
abbrev pub HasSettings : Option (Node TaggedToken) → Switch Token → Type 0
HasSettings None s = ⊥
HasSettings (Some (NodeOf.Switch found)) s = found.settings ≡ s.settings
HasSettings (Some (NodeOf.Terminal t)) s = ⊥

by_node : (found : Option (Node TaggedToken)) (s : Switch Token) → option_map (map_node counted_reading.kind.plain) found ≡ Some (NodeOf.Switch s)
    → HasSettings found s
by_node None s is = cc
by_node (Some (NodeOf.Switch found)) s is = cc
by_node (Some (NodeOf.Terminal t)) s is = cc

pub settings_read : (plan : Plan) (places : List TracedRecord) (count : ℕ) (net : NetRecord) (k : ℕ) (found : Option (Node TaggedToken))
    → places_record counted_reading plan places count ≡ net → found ≡ slice_get (states (map counted_shown places)) k
    → (s : Switch Token) → slice_get net.network.nodes k ≡ Some (NodeOf.Switch s) → HasSettings found s
settings_read plan places count net k found is at s here =
    by_node found s (
    ap (option_map (map_node counted_reading.kind.plain)) at
    ∙ sym (slice_get-map (map_node counted_reading.kind.plain) (states (map counted_shown places)) k)
    ∙ ap (λ (ns : List (Node Token)). slice_get ns k) (states_plain counted_reading counted_keeps.reads places)
    ∙ ap (λ (r : NetRecord). slice_get r.network.nodes k) is
    ∙ here
    )
