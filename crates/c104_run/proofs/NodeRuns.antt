-- What is left of nodes that were taken out of a network is a run that can be kept: all that is proved of such runs holds
-- of it.
use Rattle.c104_node.{proofs.BegunRecords.run_kind, specs.{Nodes.{is_switch, terminals_of}, Records.{NodeRecord, NodeRoom, node_state}}}
use Rattle.{c104_node.specs.{Records.node_trace, Starts.start_node, Terminals.Terminal, Traces.seatless}, c104_plan.specs.Plans.IsPlan}
use Rattle.{c104_plan.specs.Plans.Plan, c104_run.proofs.{Finishing.terminals_append, WiredTraces.{all_recorded, told_wired}}}
use Rattle.c104_run.specs.{FinishedRecords.IsFinishedRecord, NetParts.{AreParts, Parts}, NetRecords.IsWithinLimit, NodeRuns.IsKeptNode}
use Rattle.{c104_run.specs.NodeRuns.{TellRun, nodes_run, starting_nodes}, c104_token.specs.declared.tokens.Token.Token}
use Rattle.std.proofs.Common.{All, List, [], ap, get_or, length, map, refl, sym, take, ℕ, ◌++◌, ◌+◌, ◌<◌, ◌∙◌, ◌∷◌, ◌≡◌}
use Rattle.std.proofs.lemmas.List.{Elements.{All-head, All-map, All-tail, All-weaker}, map_more}

-- the parts of a network tell its run
pub parts_tell : (p : Parts) → AreParts p → TellRun p.plan p.nodes p.count
parts_tell p are = record { stamps = seatless; events = are.told.told.0; told = are.told.told.1; started = are.told.started }

-- each node stands where it started
kinds_kept : (nodes : List (NodeRecord × NodeRoom)) → All IsKeptNode nodes → map is_switch (map node_state nodes) ≡ map is_switch (starting_nodes nodes)
kinds_kept [] kept = refl
kinds_kept (n ∷ nodes) kept =
    ap (λ b. b ∷ map is_switch (map node_state nodes)) (run_kind n.0.wired (start_node n.0.start) n.0.state n.0.trace (All-head IsKeptNode n nodes kept).run)
    ∙ ap (λ bs. is_switch (start_node {A = Token} n.0.start) ∷ bs) (kinds_kept nodes (All-tail IsKeptNode n nodes kept))

-- what is left of a node more
pub terminals_next : (nodes : List (NodeRecord × NodeRoom)) (i : ℕ) (n : NodeRecord × NodeRoom) (made next : List (Terminal Token)) → i < length nodes → n ≡ get_or nodes i n → made ≡ terminals_of (map node_state (take i nodes)) → next ≡ made ++ terminals_of (node_state n ∷ []) → next ≡ terminals_of (map node_state (take (i + 1) nodes))
terminals_next nodes i n made next inside is so grown =
    grown
    ∙ ap (λ (ts : List (Terminal Token)). ts ++ terminals_of (node_state n ∷ [])) so
    ∙ sym (terminals_append (map node_state (take i nodes)) (node_state n ∷ []))
    ∙ ap terminals_of (ap (λ (m : NodeRecord × NodeRoom). map node_state (take i nodes) ++ node_state m ∷ []) is ∙ sym (map_more node_state nodes i n inside))

module _ (plan : Plan) (is_plan : IsPlan plan) (nodes : List (NodeRecord × NodeRoom)) (count : ℕ) (tell : TellRun plan nodes count) (kept : All IsKeptNode nodes) where
  pub run_is_kept : IsFinishedRecord (nodes_run plan nodes count)
  run_is_kept = record {
    stamps = tell.stamps;
    events = tell.events;
    nodes = map node_state nodes;
    told = tell.told;
    ended = refl;
    placed = kinds_kept nodes kept ∙ tell.started.in_place;
    started = tell.started;
    recorded = all_recorded plan nodes count (told_wired plan is_plan tell.stamps tell.events (starting_nodes nodes) (map node_trace nodes) tell.told.told) kept;
    within = All-map IsWithinLimit node_trace nodes (All-weaker IsKeptNode (λ n. IsWithinLimit n.0.trace) (λ n own. own.within) nodes kept);
  }
