-- The origins that the tagged tokens of a network tell are those of its run.
use Rattle.c104_net.proofs.{KnownTokens.{lists_same, tagged_lists}, OwnEnds.{ends_again, one_part, own_end, run_again, tagged_again}}
use Rattle.c104_net.proofs.{RunOrigins.{IsKeptRun, ends_traced, origins_lent, terminal_origins}, SentBytes.{IsFitEntry, run_bytes}}
use Rattle.c104_net.{proofs.SentCounts.bounded_first, specs.{RunOrigins.AreOrigins, TracedEnds.traced_end}}
use Rattle.c104_node.specs.{MappedNodes.map_node, Nodes.{Node, node_arrived, terminals_of}, Starts.start_node, Tagged.{tag, tagged_kind}}
use Rattle.c104_node.specs.{Tagged.tagged_origins, TracedRecords.{IsFit, TracedRecord, traced_start, traced_state, traced_trace}}
use Rattle.c104_node.specs.{Traces.seatless, declared.{acts.Entry.Entry, origins.Origin.Origin, starts.NodeStart.NodeStart}}
use Rattle.{c104_node.specs.declared.{tagged.TaggedToken.TaggedToken, traced.Traced.Traced}, c104_plan.specs.Plans.{IsPlan, Plan}}
use Rattle.c104_run.{proofs.{Finishing.terminals_append, RecordedNets.states_shown}, specs.FinishedRecords.{FinishedRecord, record_finish}}
use Rattle.c104_run.specs.{MeteredRuns.AreOwnNodes, NetRecords.{IsWithinLimit, NetRecord}, Network.{Network, network_of}}
use Rattle.c104_run.specs.{RecordedNets.{IsRecordedNet, places_record}, RecordedPlaces.{counted_keeps, counted_reading}, Runs.at_node}
use Rattle.{c104_run.specs.{Runs.run_deeds, TracedRuns.{IsTracedRun, map_network}}, std.proofs.Common.{All, List, None, Some, [], ap}}
use Rattle.std.proofs.Common.{append-nil, arith, get_or, length, map, refl, slice_get, subst, suc, sym, take, zero, ℕ, ◌++◌, ◌+◌, ◌<◌, ◌∙◌}
use Rattle.std.proofs.{Common.{◌∷◌, ◌≡◌, ◌≤◌}, lemmas.{Bool.cases_eq, List.{map-append, map_more}}}

-- the origins of what arrived at the terminals among nodes
abbrev pub arrived_origins : List TracedRecord → List (List Origin)
arrived_origins nodes = map tagged_lists (terminals_of (map traced_state nodes))

origins_one : (n : Node TaggedToken) (tokens : List TaggedToken) → Some tokens ≡ node_arrived n → map tagged_lists (terminals_of (n ∷ [])) ≡ tagged_origins tokens ∷ []
origins_one n tokens is = search arith

origins_none : (n : Node TaggedToken) → None ≡ node_arrived n → map tagged_lists (terminals_of (n ∷ [])) ≡ []
origins_none n is = search arith

-- those of one node more
next_origins : (nodes : List TracedRecord) (i : ℕ) (n : TracedRecord) → i < length nodes → n ≡ get_or nodes i n → arrived_origins (take (i + 1) nodes) ≡ arrived_origins (take i nodes) ++ map tagged_lists (terminals_of (n.state ∷ []))
next_origins nodes i n inside is =
    ap (λ ns. map tagged_lists (terminals_of ns)) (map_more traced_state nodes i n inside ∙ ap (λ (m : TracedRecord). map traced_state (take i nodes) ++ m.state ∷ []) (sym is))
    ∙ ap (map tagged_lists) (terminals_append (map traced_state (take i nodes)) (n.state ∷ []))
    ∙ map-append tagged_lists (terminals_of (map traced_state (take i nodes))) (terminals_of (n.state ∷ []))

pub origins_on : (nodes : List TracedRecord) (i : ℕ) (n : TracedRecord) (lists more : List (List Origin)) (tokens : List TaggedToken) (list : List Origin) → i < length nodes → n ≡ get_or nodes i n → Some tokens ≡ node_arrived n.state → list ≡ tagged_origins tokens → more ≡ lists ++ list ∷ [] → lists ≡ arrived_origins (take i nodes) → more ≡ arrived_origins (take (i + 1) nodes)
origins_on nodes i n lists more tokens list inside is arrived list_is joined before =
    joined ∙ ap (λ l. lists ++ l ∷ []) list_is ∙ ap (λ ls. ls ++ tagged_origins tokens ∷ []) before
    ∙ ap (λ ls. arrived_origins (take i nodes) ++ ls) (sym (origins_one n.state tokens arrived)) ∙ sym (next_origins nodes i n inside is)

pub origins_past : (nodes : List TracedRecord) (i : ℕ) (n : TracedRecord) (lists : List (List Origin)) → i < length nodes → n ≡ get_or nodes i n → None ≡ node_arrived n.state → lists ≡ arrived_origins (take i nodes) → lists ≡ arrived_origins (take (i + 1) nodes)
origins_past nodes i n lists inside is none before =
    before ∙ sym (append-nil (arrived_origins (take i nodes))) ∙ ap (λ ls. arrived_origins (take i nodes) ++ ls) (sym (origins_none n.state none)) ∙ sym (next_origins nodes i n inside is)

-- the same of what nodes keep
pub fit_on : (nodes : List TracedRecord) (i : ℕ) (n : TracedRecord) → slice_get nodes i ≡ Some n → All IsFit n.trace → ((k : ℕ) (m : TracedRecord) → k < i → slice_get nodes k ≡ Some m → All IsFit m.trace) → (k : ℕ) (m : TracedRecord) → k < i + 1 → slice_get nodes k ≡ Some m → All IsFit m.trace
fit_on nodes i n there fit before = search (arith, cases_eq)

pub fit_there : (nodes : List TracedRecord) → ((k : ℕ) (m : TracedRecord) → slice_get nodes k ≡ Some m → All IsFit m.trace) → (k : ℕ) (trace : List Entry) → slice_get (map traced_trace nodes) k ≡ Some trace → All IsFitEntry trace
fit_there [] fit k trace at = cc
fit_there (n ∷ nodes) fit zero trace at = let same : n.trace ≡ trace = cc in subst (λ (t : List Entry). All IsFitEntry t) same (fit 0 n refl)
fit_there (n ∷ nodes) fit (suc k) trace at = fit_there nodes (λ j m here. fit (suc j) m here) k trace at

module _ (plan : Plan) (is_plan : IsPlan plan) (nodes : List TracedRecord) (count : ℕ) (is : IsRecordedNet counted_reading plan nodes count) where
  abbrev net : NetRecord
  net = places_record counted_reading plan nodes count

  abbrev run : FinishedRecord
  run = record_finish net

  abbrev here : Network TaggedToken
  here = network_of plan (map traced_state nodes)

  abbrev starts : List NodeStart
  starts = map traced_start nodes

  abbrev own : AreOwnNodes tagged_kind net (map traced_state nodes)
  own = record { plain = states_shown counted_reading counted_keeps.reads nodes; events = is.events; told = is.told }

  -- the same run over tokens that all tell where they came from
  abbrev again : (nodes : List (Node Traced)) × IsTracedRun plan starts is.events net.network.nodes nodes
  again = run_again net is_plan is.kept.started.in_place (map traced_state nodes) own

  abbrev there : Network Traced
  there = network_of plan again.0

  ends_there : traced_end run ≡ there
  ends_there = ends_again net is_plan is.kept.started.in_place (map traced_state nodes) own

  tagged_there : map (map_node tag) again.0 ≡ map traced_state nodes
  tagged_there = tagged_again net is_plan is.kept.started.in_place (map traced_state nodes) own

  -- what is kept of the tokens at that end is what stands here
  pub tagged_end : map_network tag (traced_end run) ≡ here
  tagged_end = own_end net is_plan is.kept.started.in_place (map traced_state nodes) own

  -- so they tell the same packets
  lists_are : arrived_origins nodes ≡ map terminal_origins (terminals_of again.0)
  lists_are =
      let within : All IsWithinLimit (map traced_trace nodes) = is.kept.within in
      let bound = bounded_first Traced starts (map traced_trace nodes) (run_deeds plan seatless 0 is.events)
      (λ k. is.told.told k ∙ one_part (start_node {A = TaggedToken}) (at_node k (run_deeds plan seatless 0 is.events)) starts k ∙ sym (one_part (start_node {A = Traced}) (at_node k (run_deeds plan seatless 0 is.events)) starts k)) within in
      let few : length plan.terminals ≤ 65536 = omega (arith, is_plan.terminals.few) in
      ap (λ ns. map tagged_lists (terminals_of ns)) (sym tagged_there) ∙ lists_same plan starts seatless is.events there few bound again.1.run

  module _ (fit : (k : ℕ) (m : TracedRecord) → slice_get nodes k ≡ Some m → All IsFit m.trace) where
    kept : IsKeptRun run
    kept = record {
      stamps = seatless;
      events = is.kept.told.0;
      nodes = net.network.nodes;
      told = is.kept.told.1;
      ended = refl;
      placed = is.kept.steady.in_place;
      started = is.kept.started;
      sent = run_bytes plan seatless (map start_node net.starts) net.network.nodes net.traces net.count is.kept.told.0 is.kept.started.in_place is.kept.told.1 (fit_there nodes fit);
    }

    pub traced_origins : (lists : List (List Origin)) → lists ≡ arrived_origins nodes → AreOrigins run lists
    traced_origins lists are = origins_lent run is_plan kept lists (are ∙ lists_are ∙ ap (λ (n : Network Traced). map terminal_origins (terminals_of n.nodes)) (sym ends_there ∙ ends_traced run is_plan kept))
