-- A network of tagged tokens where a run starts.
use Rattle.c104_node.specs.{Nodes.Node, Starts.start_node, TerminalStarts.new_terminal_start, TracedRecords.{TracedRecord, first_traced}}
use Rattle.c104_node.specs.{TracedRecords.{plain_node, traced_start, traced_state, traced_trace}, declared.acts.Entry.Entry}
use Rattle.{c104_node.specs.declared.{starts.NodeStart.NodeStart, tagged.TaggedToken.TaggedToken}, c104_plan.specs.Plans.Plan}
use Rattle.{c104_plan.specs.declared.plans.Terminal.Terminal, c104_regs.specs.Settings.reset_settings}
use Rattle.{c104_regs.specs.declared.registers.TheConstants.LINKS, c104_run.proofs.FirstRecords.{first_is, map_twice, record_first}}
use Rattle.c104_run.{proofs.{NodeMaps.node_same, RecordedBegins.{no_entries, told_first}, StartsBack.start_back}, specs.Balance.IsSteady}
use Rattle.c104_run.specs.{NetRecords.{first_record, fresh_record}, Network.{network_of, new_network}, RecordedNets.IsRecordedNet}
use Rattle.{c104_run.specs.{RecordedNets.places_record, RecordedPlaces.counted_reading}, c104_switch.specs.Starts.new_start}
use Rattle.{c104_token.specs.declared.tokens.Token.Token, std.proofs.Common.{List, [], ap, arith, false, map, refl, replicate, sym, ℕ}}
use Rattle.std.proofs.{Common.{◌++◌, ◌∙◌, ◌∷◌, ◌≡◌}, lemmas.List.map-append}

map_const : {X Y Z : Type 0} (g : Y → Z) (f : X → Y) (h : X → Z) → ((x : X) → g (f x) ≡ h x) → (xs : List X) → map g (map f xs) ≡ map h xs
map_const g f h same [] = refl
map_const g f h same (x ∷ xs) = ap (λ z. z ∷ map g (map f xs)) (same x) ∙ ap (λ zs. h x ∷ zs) (map_const g f h same xs)

-- a node that was made at a start
abbrev made : NodeStart → TracedRecord
made s = first_traced (start_node s)

-- what it shows over plain tokens
abbrev shown : TracedRecord → Node Token × Node Token × List Entry
shown n = (plain_node n.state, start_node n.start, n.trace)

shown_one : (s : NodeStart) → shown (made s) ≡ first_record (start_node s)
shown_one s = rw (node_same (λ (x : TaggedToken). x.token) s, sym (start_back TaggedToken s)) refl

-- a network of such nodes keeps what such a network keeps, and over plain tokens it is that of nodes at these starts
module _ (plan wires : Plan) (starts : List NodeStart) (list : List TracedRecord) (same : wires ≡ plan) (is : list ≡ map made starts) where
  abbrev nodes : List (Node Token)
  nodes = map start_node starts

  each : {Z : Type 0} (g : TracedRecord → Z) (h : NodeStart → Z) → ((s : NodeStart) → g (made s) ≡ h s) → map g list ≡ map h starts
  each g h alike = ap (map g) is ∙ map_const g made h alike starts

  shown_all : map shown list ≡ map first_record nodes
  shown_all = each shown (λ s. first_record (start_node s)) shown_one ∙ sym (map_twice first_record start_node starts)

  pub started_kept : IsSteady (network_of plan nodes) → IsRecordedNet counted_reading wires list 0
  started_kept steady = record {
    kept = record_first counted_reading plan wires nodes list same shown_all steady;
    events = [];
    told = told_first counted_reading wires list
        (map_twice start_node traced_start list ∙ each (λ n. start_node n.start) start_node (λ s. ap start_node (sym (start_back TaggedToken s))) ∙ sym (each traced_state start_node (λ s. refl)))
        (each traced_trace (λ s. []) (λ s. refl) ∙ sym (map_twice no_entries traced_state list ∙ each (λ n. no_entries n.state) (λ s. []) (λ s. refl)));
  }

  pub started_is : places_record counted_reading wires list 0 ≡ fresh_record (network_of plan nodes)
  started_is = first_is counted_reading plan wires nodes list same shown_all

-- the nodes of a new network stand at these starts
module _ (plan : Plan) where
  abbrev switch_first : List ℕ → NodeStart
  switch_first name = NodeStart.Switch (new_start plan.cap (replicate LINKS reset_settings) false)

  abbrev terminal_first : Terminal → NodeStart
  terminal_first t = NodeStart.Terminal (new_terminal_start plan.cap)

  pub new_nodes : (starts : List NodeStart) → starts ≡ map switch_first plan.switches ++ map terminal_first plan.terminals → map start_node starts ≡ (new_network {A = Token} plan).nodes
  new_nodes starts are = search (arith, map-append, map_twice)
