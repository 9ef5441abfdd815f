-- A network with its record, where nothing was done yet.
use Rattle.c104_node.specs.{Nodes.Node, Records.{HasCap, NodeRecord, NodeRoom, has_link}, Starts.{start_node, start_of}}
use Rattle.c104_node.specs.{Terminals.new_terminal, declared.{acts.Entry.Entry, node.NodeOf.NodeOf, starts.NodeStart.NodeStart}}
use Rattle.c104_plan.specs.{PlanImage.Image, Plans.Plan, declared.plans.Terminal.Terminal}
use Rattle.{c104_regs.specs.declared.settings.Settings.Settings, c104_run.proofs.{BalancePlaced.steady_copy, LinkedNodes.linked_more}}
use Rattle.c104_run.{proofs.{RecordSteps.same_record, RoundLists.map_one_more, StartsBack.starts_back}, specs.Balance.IsSteady}
use Rattle.c104_run.specs.{KnownWires.{AreLinkedNodes, is_linked_end}, NetRecords.{IsNetRecord, IsWithinLimit, first_record, fresh_record}}
use Rattle.c104_run.specs.{NetRecords.shown_record, Network.{network_of, new_network, placed_network}, RecordedNets.IsRecordedNet}
use Rattle.c104_run.specs.{RecordedNets.{Reading, places_record, read_trace}, RecordedPlaces.node_reading}
use Rattle.c104_switch.specs.{Starts.{SwitchStart, new_link, new_start}, Switch.{new_switch, new_switch_with}}
use Rattle.{c104_switch.specs.declared.link_start.LinkStart.LinkStart, c104_token.specs.declared.tokens.Token.Token, std.proofs.Common.All}
use Rattle.std.proofs.Common.{Bool, List, OnOk, Result, [], ap, append_assoc, arith, get_or, length, map, refl, slice_get, subst, sym, take}
use Rattle.std.proofs.{Common.{true, ℕ, ◌++◌, ◌+◌, ◌<◌, ◌∙◌, ◌∷◌, ◌≡◌, ◌≤◌}, lemmas.List.{Elements.{All-map, All-replicate}, length-append}}
use Rattle.std.{proofs.lemmas.{List.{length-map, length-take-le, map-append}, Option.slice_get-map}, specs.Option.option_map}

abbrev Shown : Type 0
Shown = Node Token × Node Token × List Entry

abbrev no_entries : Node Token → List Entry
no_entries n = []

pub map_twice : {X Y Z : Type 0} (g : Y → Z) (f : X → Y) (xs : List X) → map g (map f xs) ≡ map (λ x. g (f x)) xs
map_twice g f [] = refl
map_twice g f (x ∷ xs) = ap (λ zs. g (f x) ∷ zs) (map_twice g f xs)

abbrev made_switch : ℕ → List Settings → Node Token
made_switch cap settings = NodeOf.Switch (new_switch_with cap settings true)

abbrev made_terminal : ℕ → Terminal → Node Token
made_terminal cap t = NodeOf.Terminal (new_terminal cap)

-- a new switch, for each of a plan
abbrev made_new : ℕ → List ℕ → Node Token
made_new cap name = NodeOf.Switch (new_switch cap)

-- switches and then terminals, as they are made
all_made : {E X : Type 0} (r : Result (Unit {0}) E) (made : X → Node Token) (xs : List X) (cap : ℕ) (terminals : List Terminal) (mid new : List Shown) → mid ≡ map (λ x. first_record (made x)) xs →
    OnOk r (new ≡ mid ++ map (λ t. first_record (made_terminal cap t)) terminals) → OnOk r (new ≡ map first_record (map made xs ++ map (made_terminal cap) terminals))
all_made r made xs cap terminals mid new first grown = search (arith, map_twice, map-append)

-- as they are placed
pub placed_all : {E : Type 0} (r : Result (Unit {0}) E) (plan : Plan) (image : Image) (mid new : List Shown) → mid ≡ map (λ settings. first_record (made_switch plan.cap settings)) image.settings →
    OnOk r (new ≡ mid ++ map (λ t. first_record (made_terminal plan.cap t)) plan.terminals) → OnOk r (new ≡ map first_record (placed_network plan image).nodes)
placed_all r plan image mid new first grown = all_made r (made_switch plan.cap) image.settings plan.cap plan.terminals mid new first grown

-- and as they are new
pub new_all : {E : Type 0} (r : Result (Unit {0}) E) (plan : Plan) (mid new : List Shown) → mid ≡ map (λ name. first_record (made_new plan.cap name)) plan.switches →
    OnOk r (new ≡ mid ++ map (λ t. first_record (made_terminal plan.cap t)) plan.terminals) → OnOk r (new ≡ map first_record (new_network plan).nodes)
new_all r plan mid new first grown = all_made r (made_new plan.cap) plan.switches plan.cap plan.terminals mid new first grown

-- what a switch with its start shows
pub shown_switch : (v : NodeRecord × NodeRoom) (r : NodeRecord) (n : Node Token) → v.0 ≡ r → r.state ≡ n → start_node r.start ≡ n → r.trace ≡ [] → shown_record v ≡ first_record n
shown_switch v r n is state begun trace = search arith

-- what places show at their start, over plain tokens
abbrev shown_by : {A P : Type 0} → Reading A P → P → Shown
shown_by v p = (v.plain p, start_node (v.start p), read_trace v p)

module _ {A P : Type 0} (v : Reading A P) where
  shown_first : (list : List P) (nodes : List (Node Token)) → map (shown_by v) list ≡ map first_record nodes →
      (map v.plain list ≡ nodes) × (map start_node (map v.start list) ≡ nodes) × (map (read_trace v) list ≡ map no_entries nodes)
  shown_first [] [] is = (refl, refl, refl)
  shown_first (n ∷ list) (m ∷ nodes) is =
      let first : shown_by v n ≡ first_record m = cc in
      let rest : map (shown_by v) list ≡ map first_record nodes = cc in
      let others = shown_first list nodes rest in (
        ap (λ x. x ∷ map v.plain list) (ap (λ (s : Shown). s.0) first) ∙ ap (λ xs. m ∷ xs) others.0,
        ap (λ x. x ∷ map start_node (map v.start list)) (ap (λ (s : Shown). s.1) first) ∙ ap (λ xs. m ∷ xs) others.1,
        ap (λ x. x ∷ map (read_trace v) list) (ap (λ (s : Shown). s.2) first) ∙ ap (λ xs. [] ∷ xs) others.2,
      )
  shown_first list nodes is = cc

  module _ (plan wires : Plan) (nodes : List (Node Token)) (list : List P) (same : wires ≡ plan) (shown : map (shown_by v) list ≡ map first_record nodes) where
    -- a network of them keeps what such a network keeps
    pub record_first : IsSteady (network_of plan nodes) → IsNetRecord (places_record v wires list 0)
    record_first steady =
        let are = shown_first list nodes shown in
        let there : IsSteady (network_of wires nodes) = steady_copy plan wires nodes same steady in
        record {
          steady = subst (λ ns. IsSteady (network_of wires ns)) (sym are.0) there;
          started = subst (λ ns. IsSteady (network_of wires ns)) (sym are.1) there;
          told = (
            [],
            record {
              run = ap (network_of wires) (are.0 ∙ sym are.1);
              told = λ k. ap (λ ts. slice_get ts k) are.2 ∙ slice_get-map no_entries nodes k ∙ ap (λ ns. option_map no_entries (slice_get ns k)) (sym are.1);
              counted = refl;
              ordered = tt;
            },
          );
          within = subst (All IsWithinLimit) (sym are.2) (All-map IsWithinLimit no_entries nodes (λ i d inside. omega arith));
          counted = omega arith;
        }

    -- and it is the one that was made, where a run starts
    pub first_is : places_record v wires list 0 ≡ fresh_record (network_of plan nodes)
    first_is =
        let are = shown_first list nodes shown in
        same_record (places_record v wires list 0) (fresh_record (network_of plan nodes))
        (ap (λ p. network_of p (map v.plain list)) same ∙ ap (network_of plan) are.0)
        (starts_back (map v.start list) ∙ ap (map start_of) are.1) are.2 refl

-- so do nodes that keep their entries
pub net_first : (plan wires : Plan) (nodes : List (Node Token)) (list : List (NodeRecord × NodeRoom)) → wires ≡ plan → map shown_record list ≡ map first_record nodes → IsSteady (network_of plan nodes) → IsRecordedNet node_reading wires list 0
net_first plan wires nodes list same shown steady =
    let kept = record_first node_reading plan wires nodes list same shown steady in
    record { kept = kept; events = kept.told.0; told = kept.told.1 }

-- how many nodes there are, by what they show
pub made_count : {X : Type 0} (made : X → Shown) (before : List Shown) (xs : List X) (i : ℕ) (list : List (NodeRecord × NodeRoom)) → map shown_record list ≡ before ++ map made (take i xs) → i ≤ length xs → length list ≡ length before + i
made_count made before xs i list is inside = search (arith, length-map, length-append, length-take-le)

-- one node more, as it is made, with the wired links of its place
pub node_more : {X : Type 0} (wires : Plan) (made : X → Node Token) (before : List Shown) (xs : List X) (i : ℕ) (x : X) (list mid next : List (NodeRecord × NodeRoom)) (v : NodeRecord × NodeRoom) (r : NodeRecord) (place : ℕ) →
    i < length xs → x ≡ get_or xs i x → v.0 ≡ r → r.state ≡ made x → start_node r.start ≡ made x → r.trace ≡ [] → ((l : ℕ) → has_link r.wired l ≡ is_linked_end wires place l) → place ≡ length list → mid ≡ list → next ≡ mid ++ v ∷ [] →
    map shown_record list ≡ before ++ map (λ x. first_record (made x)) (take i xs) → AreLinkedNodes wires list → (map shown_record next ≡ before ++ map (λ x. first_record (made x)) (take (i + 1) xs)) × AreLinkedNodes wires next
node_more {X} wires made before xs i x list mid next v r place inside here is state begun trace links at same pushed so linked =
    grind (arith, map-append, append_assoc, map_one_more, shown_switch, linked_more)

-- the buffers of a new switch are of its size
pub new_sized : (cap : ℕ) (settings : List Settings) (started : Bool) (s : SwitchStart) → s ≡ new_start cap settings started → HasCap cap (NodeStart.Switch s)
new_sized cap settings started s is = subst (λ (r : SwitchStart). HasCap cap (NodeStart.Switch r)) (sym is) (All-replicate (λ (l : LinkStart). l.cap ≡ cap) 32 (new_link cap) refl)
