-- The tokens that wait in a network of tagged tokens are what is kept of those at the end of its run.
use Rattle.{c104_net.{proofs.TracedOrigins.tagged_end, specs.TracedEnds.traced_end}, c104_node.specs.MappedNodes.{map_input, map_node}}
use Rattle.c104_node.specs.{MappedNodes.map_outgoing, Nodes.Node, Places.Shown, Tagged.tag, TracedRecords.{TracedRecord, counted_shown}}
use Rattle.c104_node.specs.{Views.{node_input_token, node_output_token, nodes_input_token, nodes_output_token}, declared.node.NodeOf.NodeOf}
use Rattle.{c104_node.specs.declared.tagged.TaggedToken.TaggedToken, c104_plan.specs.{Plans.IsPlan, declared.ports.Port.Port}}
use Rattle.c104_run.{proofs.{FirstRecords.map_twice, TokenMaps.{bind_both, if_map}}, specs.Engines.{EngineView, engine_network}}
use Rattle.c104_run.specs.{Engines.engine_record, FinishedRecords.record_finish, NetRecords.NetRecord, NetViews.network_input_token}
use Rattle.c104_run.specs.{NetViews.network_output_token, Network.{Network, network_of, terminal_place}, RecordedNets.IsRecordedNet}
use Rattle.{c104_run.specs.{RecordedPlaces.counted_reading, TracedRuns.map_network}, std.proofs.Common.{List, None, Option, ap, length}}
use Rattle.std.proofs.{Common.{map, nat_lt, option_map, refl, slice_get, sym, ℕ, ◌∙◌, ◌≡◌}, lemmas.Option.slice_get-map}

-- where each token is mapped, each that waits is
module _ {A B : Type 0} (f : A → B) where
  input_map : (l k : ℕ) (n : Node A) → node_input_token l k (map_node f n) ≡ option_map f (node_input_token l k n)
  input_map l k (NodeOf.Switch s) = bind_both (map_input f) f (slice_get s.inputs l) _ _ _ (slice_get-map (map_input f) s.inputs l) (λ p. slice_get-map f p.buffer.items k)
  input_map l k (NodeOf.Terminal t) = slice_get-map f t.input.items k

  inputs_map : (nodes : List (Node A)) (place l k : ℕ) → nodes_input_token (map (map_node f) nodes) place l k ≡ option_map f (nodes_input_token nodes place l k)
  inputs_map nodes place l k = bind_both (map_node f) f (slice_get nodes place) _ _ _ (slice_get-map (map_node f) nodes place) (input_map l k)

  network_input_map : (net : Network A) (p : Port) (k : ℕ) → network_input_token (map_network f net) p k ≡ option_map f (network_input_token net p k)
  network_input_map net (Port.Switch s l) k = if_map (option_map f) (nat_lt s (length net.plan.switches)) _ (nodes_input_token net.nodes s l k) None _ _ refl (inputs_map net.nodes s l k) refl
  network_input_map net (Port.Terminal t) k = if_map (option_map f) (nat_lt t (length net.plan.terminals)) _ (nodes_input_token net.nodes (terminal_place net.plan t) 0 k) None _ _ refl (inputs_map net.nodes (terminal_place net.plan t) 0 k) refl

  output_map : (l k : ℕ) (n : Node A) → node_output_token l k (map_node f n) ≡ option_map f (node_output_token l k n)
  output_map l k (NodeOf.Switch s) = bind_both (map_outgoing f) f (slice_get s.outputs l) _ _ _ (slice_get-map (map_outgoing f) s.outputs l) (λ q. slice_get-map f q.items k)
  output_map l k (NodeOf.Terminal t) = refl

  network_output_map : (net : Network A) (s l k : ℕ) → network_output_token (map_network f net) s l k ≡ option_map f (network_output_token net s l k)
  network_output_map net s l k = if_map (option_map f) (nat_lt s (length net.plan.switches)) _ (nodes_output_token net.nodes s l k) None _ _ refl
      (bind_both (map_node f) f (slice_get net.nodes s) _ _ _ (slice_get-map (map_node f) net.nodes s) (output_map l k)) refl

-- an engine that shows a record
module _ (e : EngineView TracedRecord) (is_plan : IsPlan e.plan) (is : IsRecordedNet counted_reading e.plan e.places e.count) (r : NetRecord) (shown : engine_record counted_reading e ≡ r) where
  end_is : engine_network counted_shown e ≡ map_network tag (traced_end (record_finish r))
  end_is =
      ap (network_of e.plan) (map_twice (λ (s : Shown TaggedToken). s.state) counted_shown e.places)
      ∙ sym (tagged_end e.plan is_plan e.places e.count is)
      ∙ ap (λ (r : NetRecord). map_network tag (traced_end (record_finish r))) shown

  pub input_there : (p : Port) (k : ℕ) (o : Option TaggedToken) → o ≡ network_input_token (engine_network counted_shown e) p k → o ≡ option_map tag (network_input_token (traced_end (record_finish r)) p k)
  input_there p k o told = told ∙ ap (λ (n : Network TaggedToken). network_input_token n p k) end_is ∙ network_input_map tag (traced_end (record_finish r)) p k

  pub output_there : (s l k : ℕ) (o : Option TaggedToken) → o ≡ network_output_token (engine_network counted_shown e) s l k → o ≡ option_map tag (network_output_token (traced_end (record_finish r)) s l k)
  output_there s l k o told = told ∙ ap (λ (n : Network TaggedToken). network_output_token n s l k) end_is ∙ network_output_map tag (traced_end (record_finish r)) s l k
