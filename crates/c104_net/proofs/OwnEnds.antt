-- The nodes of tagged tokens that a network with its record stands for, which its traces determine.
use Rattle.{c104_event.specs.declared.{events.Event.Event, faults.EventFault.EventFault}, c104_net.proofs.ToldEvents.events_told}
use Rattle.c104_net.{proofs.TracedRuns.{run_after, traced_from}, specs.{MeteredRecords.tagged_net, TracedEnds.traced_end}}
use Rattle.c104_node.specs.{MappedNodes.map_node, Nodes.Node, Starts.start_node, Tagged.{tag, tagged_kind}, Traced.traced_kind}
use Rattle.c104_node.specs.{Traces.seatless, declared.{starts.NodeStart.NodeStart, tagged.TaggedToken.TaggedToken, traced.Traced.Traced}}
use Rattle.{c104_plan.specs.Plans.{IsPlan, Plan}, c104_run.proofs.{NodeMaps.starts_same, StepMaps.apply_map, TaggedRuns.plain_network}}
use Rattle.c104_run.{proofs.TaggedRuns.{tagged_apply, tagged_plain, token_of}, specs.{Balance.AreInPlace, EventRuns.run_events}}
use Rattle.c104_run.specs.{FinishedRecords.record_finish, MeteredRuns.AreOwnNodes, NetRecords.NetRecord, Network.{Network, network_apply}}
use Rattle.c104_run.specs.{Network.network_of, Runs.{IsDoneRun, IsRunRecord, at_node, run_deeds}, TracedRuns.{IsTracedRun, map_network}}
use Rattle.{c104_switch.specs.Actions.Reply, c104_token.specs.{Kinds.plain_kind, declared.tokens.Token.Token}, std.proofs.Common.List}
use Rattle.std.proofs.Common.{None, Option, Result, Some, [], ap, map, refl, slice_get, subst, sym, ℕ, ◌∙◌, ◌∷◌, ◌≡◌}
use Rattle.std.{proofs.lemmas.Option.slice_get-map, specs.Option.option_map}

-- what is told of each of a list, whatever it is
option_same : {X Y Z : Type 0} (f : X → Y) (z : Z) (o : Option X) → option_map (λ (y : Y). z) (option_map f o) ≡ option_map (λ (x : X). z) o
option_same f z None = refl
option_same f z (Some x) = refl

pub one_part : {X Y Z : Type 0} (f : X → Y) (z : Z) (xs : List X) (k : ℕ) → option_map (λ (y : Y). z) (slice_get (map f xs) k) ≡ option_map (λ (x : X). z) (slice_get xs k)
one_part {Y = Y} f z xs k = ap (option_map (λ (y : Y). z)) (slice_get-map f xs k) ∙ option_same f z (slice_get xs k)

-- a run over tagged tokens is one over plain tokens
run_plain : (net ended : Network TaggedToken) (events : List (Event × Reply)) → IsDoneRun tagged_kind net events ended → IsDoneRun plain_kind (plain_network net) events (plain_network ended)
run_plain net ended [] is = ap plain_network is
run_plain net ended (e ∷ events) is = (
  plain_network is.0,
  ap (λ (d : Result Reply EventFault × Network TaggedToken). (d.0, plain_network d.1)) is.1 ∙ sym (apply_map token_of tagged_kind plain_kind (λ x. refl) (λ j b. refl) tagged_plain net e.0),
  is.2,
  run_plain is.0 ended events is.3,
)

-- a run over tokens that all tell where they came from is one over what is kept of them
run_tagged : (net ended : Network Traced) (events : List (Event × Reply)) → IsDoneRun traced_kind net events ended → IsDoneRun tagged_kind (map_network tag net) events (map_network tag ended)
run_tagged net ended [] is = ap (map_network tag) is
run_tagged net ended (e ∷ events) is = (
  map_network tag is.0,
  ap (λ (d : Result Reply EventFault × Network Traced). (d.0, map_network tag d.1)) is.1 ∙ sym (tagged_apply net e.0),
  is.2,
  run_tagged is.0 ended events is.3,
)

module _ (r : NetRecord) (is_plan : IsPlan r.network.plan) (placed : AreInPlace {A = Token} r.network.plan (map start_node r.starts)) (nodes : List (Node TaggedToken)) (own : AreOwnNodes tagged_kind r nodes) where
  abbrev plan : Plan
  plan = r.network.plan

  abbrev starts : List NodeStart
  starts = r.starts

  abbrev here : Network TaggedToken
  here = network_of plan nodes

  -- the events of the run lead there over plain tokens too
  told_plain : IsRunRecord plain_kind plan seatless (map start_node starts) r.network.nodes r.traces r.count own.events
  told_plain =
      let from : plain_network (network_of plan (map start_node starts)) ≡ network_of plan (map start_node starts) = ap (network_of plan) (starts_same token_of starts) in
      let to : plain_network here ≡ network_of plan r.network.nodes = ap (network_of plan) own.plain in
      record {
        run = subst (λ n. IsDoneRun plain_kind n own.events (network_of plan r.network.nodes)) from (subst (λ n. IsDoneRun plain_kind (plain_network (network_of plan (map start_node starts))) own.events n) to (run_plain (network_of plan (map start_node starts)) here own.events own.told.run));
        told = λ k.
            own.told.told k
            ∙ one_part (start_node {A = TaggedToken}) (at_node k (run_deeds plan seatless 0 own.events)) starts k ∙ sym (one_part (start_node {A = Token}) (at_node k (run_deeds plan seatless 0 own.events)) starts k);
        counted = own.told.counted;
        ordered = own.told.ordered;
      }

  -- the same run over tokens that all tell where they came from
  pub run_again : (nodes : List (Node Traced)) × IsTracedRun plan starts own.events r.network.nodes nodes
  run_again = traced_from plan starts r.network.nodes own.events told_plain.run

  abbrev there : Network Traced
  there = network_of plan run_again.0

  -- it ends where the events that the traces tell lead
  pub ends_again : traced_end (record_finish r) ≡ there
  unfolding traced_end
  ends_again =
      ap (λ (events : List Event). (run_events (network_apply traced_kind) (network_of plan (map start_node starts)) events).1)
      (events_told plan is_plan seatless (map start_node starts) r.network.nodes r.traces r.count own.events told_plain placed)
      ∙ run_after traced_kind (network_of plan (map start_node starts)) there own.events run_again.1.run

  -- and what is kept of its tokens are the tokens of the nodes
  pub tagged_again : map (map_node tag) run_again.0 ≡ nodes
  tagged_again =
      let from : map_network tag (network_of plan (map start_node starts)) ≡ network_of plan (map start_node starts) = ap (network_of plan) (starts_same tag starts) in
      let run : IsDoneRun tagged_kind (network_of plan (map start_node starts)) own.events (map_network tag there) = subst (λ (n : Network TaggedToken). IsDoneRun tagged_kind n own.events (map_network tag there)) from (run_tagged (network_of plan (map start_node starts)) there own.events run_again.1.run) in
      ap (λ (n : Network TaggedToken). n.nodes) (sym (run_after tagged_kind (network_of plan (map start_node starts)) (map_network tag there) own.events run) ∙ run_after tagged_kind (network_of plan (map start_node starts)) here own.events own.told.run)

  -- so what is kept of the tokens at that end is what stands here
  pub own_end : tagged_net r ≡ here
  own_end = ap (map_network tag) ends_again ∙ ap (network_of plan) tagged_again
