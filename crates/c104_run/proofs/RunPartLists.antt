-- What nodes leave that are retired one after the other, the last first.
use Rattle.c104_node.specs.{Nodes.terminals_of, Records.{NodeRecord, NodeRoom, node_start, node_state, node_trace}, Terminals.Terminal}
use Rattle.{c104_node.specs.declared.{acts.Entry.Entry, starts.NodeStart.NodeStart}, c104_plan.specs.Plans.Plan}
use Rattle.c104_run.specs.{FinishedRecords.{FinishedRecord, record_finish}, NetRecords.net_record}
use Rattle.{c104_token.specs.declared.tokens.Token.Token, std.proofs.Common.{List, Option, [], append-nil, append_assoc, arith, map}}
use Rattle.std.{proofs.{Common.{reverse, ℕ, ◌++◌, ◌∷◌, ◌≡◌}, lemmas.List.{map-append, reverse-append}}, specs.Option.option_to_list}

-- the last of a list leaves what comes before what was left of those behind it
pub left_on : {X Y : Type 0} (f : X → Y) (all : List Y) (list rest : List X) (x : X) (left more : List Y) → list ≡ rest ++ x ∷ [] → more ≡ left ++ f x ∷ [] → map f list ++ reverse left ≡ all → map f rest ++ reverse more ≡ all
left_on f all list rest x left more is joined before = search (arith, reverse-append, map-append, append_assoc)

-- the same of one that leaves something or nothing
pub left_maybe : {Y : Type 0} (all all_rest whole left more : List Y) (o : Option Y) → whole ≡ all_rest ++ option_to_list o → more ≡ left ++ option_to_list o → whole ++ reverse left ≡ all → all_rest ++ reverse more ≡ all
left_maybe all all_rest whole left more o is joined before = search (arith, append-nil, reverse-append, append_assoc)

-- what is left of a run, by its parts
pub finish_is : (plan is_plan : Plan) (nodes : List (NodeRecord × NodeRoom)) (count : ℕ) (terminals : List (Terminal Token)) (starts : List NodeStart) (traces : List (List Entry)) →
    is_plan ≡ plan → terminals ≡ terminals_of (map node_state nodes) → starts ≡ map node_start nodes → traces ≡ map node_trace nodes →
    ◌≡◌ {A = FinishedRecord} (record { finished = record { plan = is_plan; terminals = terminals }; starts = starts; traces = traces; count = count }) (record_finish (net_record plan nodes count))
finish_is plan is_plan nodes count terminals starts traces same ends begun told = search arith
