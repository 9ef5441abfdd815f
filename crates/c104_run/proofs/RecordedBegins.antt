-- A network whose nodes are seen with their records, where it is quiet, and where it begins a run.
use Rattle.{c104_link.{proofs.MadeSteps.All-place, specs.Buffers.Outgoing}, c104_node.proofs.{PlaceSteps.shown_at, WireEnds.get_set_other}}
use Rattle.c104_node.specs.{MappedNodes.{map_input, map_node, map_outgoing}, Nodes.Node, Places.{Shown, base_wired, bases, states}}
use Rattle.c104_node.specs.{Quiet.{IsQuietNode, node_begin}, Starts.{start_node, start_of}, Traces.seatless, declared.acts.Entry.Entry}
use Rattle.{c104_node.specs.declared.starts.NodeStart.NodeStart, c104_plan.specs.Plans.Plan, c104_run.proofs.FirstRecords.map_twice}
use Rattle.c104_run.proofs.{FreshRecords.fresh_kept, NodeMaps.{all_back, node_back, quiet_map, starts_same}, QuietBegins.begun_steady}
use Rattle.c104_run.{proofs.{RecordSteps.same_record, RecordedNets.{map_same, states_plain, states_shown}}, specs.Balance.IsSteady}
use Rattle.c104_run.specs.{NetRecords.{IsNetRecord, fresh_record}, Network.{Network, network_of}, QuietNets.network_begin}
use Rattle.c104_run.specs.RecordedNets.{IsReading, IsRecordedNet, Reading, Told, begun_told, place_told, places_record, read_state}
use Rattle.{c104_run.specs.{RecordedNets.read_trace, Runs.IsRunRecord}, c104_switch.specs.{Starts.link_starts, Switch.Input}}
use Rattle.{c104_token.specs.declared.tokens.Token.Token, std.proofs.Common.{All, List, Some, [], ap, arith, map, refl, slice_get}}
use Rattle.std.proofs.{Common.{slice_set, subst, suc, sym, zero, ℕ, ◌+◌, ◌<◌, ◌∙◌, ◌∷◌, ◌≡◌, ◌≤◌}, lemmas.Bool.cases_eq}
use Rattle.std.proofs.lemmas.{List.Elements.{All-cons, All-head, All-nil, All-tail}, Option.slice_get-map}

-- what holds of each of a list holds of each that it is mapped to
all_on : {X Y : Type 0} (f : X → Y) (P : X → Type 0) (Q : Y → Type 0) → ((x : X) → P x → Q (f x)) → (xs : List X) → All P xs → All Q (map f xs)
all_on f P Q on [] all = All-nil Q
all_on f P Q on (x ∷ xs) all = All-cons Q (f x) (map f xs) (on x (All-head P x xs all)) (all_on f P Q on xs (All-tail P x xs all))

module _ {A : Type 0} (f : A → Token) where
  -- a start reads no token
  links_plain : (ps : List (Input A)) (qs : List (Outgoing A)) → link_starts (map (map_input f) ps) (map (map_outgoing f) qs) ≡ link_starts ps qs
  links_plain (p ∷ ps) (q ∷ qs) = ap (λ ls. record { cap = p.buffer.cap; granted = p.buffer.granted; credit = q.credit; sunk = p.sunk; short = p.short } ∷ ls) (links_plain ps qs)
  links_plain ps qs = refl

  -- nor does what a run forgets
  start_begun : (n : Node A) → start_of n ≡ start_of (node_begin (map_node f n))
  start_begun n = search (arith, links_plain)

  begin_plain : (n : Node A) → map_node f (node_begin n) ≡ node_begin (map_node f n)
  begin_plain n = search arith

abbrev pub no_entries : {A : Type 0} → Node A → List Entry
no_entries n = []

module _ {A P : Type 0} (v : Reading A P) where
  abbrev plain : Node A → Node Token
  plain n = map_node v.kind.plain n

  -- nodes at their starts, of which nothing is kept
  pub told_first : (plan : Plan) (places : List P) → map start_node (map v.start places) ≡ map (read_state v) places → map (read_trace v) places ≡ map no_entries (map (read_state v) places) → IsRunRecord v.kind plan seatless (map start_node (map v.start places)) (map (read_state v) places) (map (read_trace v) places) 0 []
  told_first plan places stand none = search (arith, slice_get-map)

  wires_shown : (places : List P) → map (λ p. (v.shown p).base.wired) places ≡ map base_wired (bases (map v.shown places))
  wires_shown places = sym (ap (map base_wired) (map_twice (λ (s : Shown A). s.base) v.shown places) ∙ map_twice base_wired (λ p. (v.shown p).base) places)

  -- nodes that have begun
  module _ (new old : List P) (begun : map (place_told v.shown v.start) new ≡ map begun_told (map (place_told v.shown v.start) old)) where
    part_begun : {X : Type 0} (part : Told A → X) → map (λ p. part (place_told v.shown v.start p)) new ≡ map (λ p. part (begun_told (place_told v.shown v.start p))) old
    part_begun part =
        sym (map_twice part (place_told v.shown v.start) new) ∙ ap (map part) begun ∙ map_twice part begun_told (map (place_told v.shown v.start) old)
        ∙ map_twice (λ t. part (begun_told t)) (place_told v.shown v.start) old

    states_begun : map (read_state v) new ≡ map node_begin (map (read_state v) old)
    states_begun = part_begun (λ (t : Told A). t.0) ∙ sym (map_twice node_begin (read_state v) old)

    starts_begun : map v.start new ≡ map start_of (map (read_state v) old)
    starts_begun = part_begun (λ (t : Told A). t.1) ∙ sym (map_twice start_of (read_state v) old)

    traces_begun : map (read_trace v) new ≡ map no_entries (map (read_state v) old)
    traces_begun = part_begun (λ (t : Told A). t.2) ∙ sym (map_twice (no_entries {A = A}) (read_state v) old)

    -- what is known of wires stays
    pub wires_begun : map base_wired (bases (map v.shown new)) ≡ map base_wired (bases (map v.shown old))
    wires_begun = sym (wires_shown new) ∙ part_begun (λ (t : Told A). t.3) ∙ wires_shown old

    none_kept : map (read_trace v) new ≡ map no_entries (map (read_state v) new)
    none_kept = traces_begun ∙ sym (map_twice (no_entries {A = A}) node_begin (map (read_state v) old)) ∙ ap (map (no_entries {A = A})) (sym states_begun)

module _ {A P : Type 0} (v : Reading A P) (reads : IsReading v) (plan : Plan) (new old : List P) (begun : map (place_told v.shown v.start) new ≡ map begun_told (map (place_told v.shown v.start) old)) where
  abbrev net : Network Token
  net = (places_record v plan old 0).network

  shown_begun : map v.plain new ≡ map node_begin (map v.plain old)
  shown_begun =
      sym (states_shown v reads new) ∙ ap (map (plain v)) (states_begun v new old begun)
      ∙ map_twice (plain v) node_begin (map (read_state v) old)
      ∙ map_same (λ (n : Node A). plain v (node_begin n)) (λ (n : Node A). node_begin (plain v n)) (begin_plain v.kind.plain) (map (read_state v) old)
      ∙ sym (map_twice node_begin (plain v) (map (read_state v) old))
      ∙ ap (map node_begin) (states_shown v reads old)

  starts_shown : map v.start new ≡ map start_of (map node_begin (map v.plain old))
  starts_shown =
      starts_begun v new old begun
      ∙ map_same start_of (λ (n : Node A). start_of (node_begin (plain v n))) (start_begun v.kind.plain) (map (read_state v) old)
      ∙ sym (map_twice (λ (m : Node Token). start_of (node_begin m)) (plain v) (map (read_state v) old))
      ∙ sym (map_twice start_of node_begin (map (plain v) (map (read_state v) old)))
      ∙ ap (λ ns. map start_of (map node_begin ns)) (states_shown v reads old)

  traces_shown : map (read_trace v) new ≡ map no_entries (map node_begin (map v.plain old))
  traces_shown =
      traces_begun v new old begun
      ∙ sym (map_twice (λ (m : Node Token). no_entries (node_begin m)) (plain v) (map (read_state v) old))
      ∙ sym (map_twice (no_entries {A = Token}) node_begin (map (plain v) (map (read_state v) old)))
      ∙ ap (λ ns. map (no_entries {A = Token}) (map node_begin ns)) (states_shown v reads old)

  pub net_begun : places_record v plan new 0 ≡ fresh_record (network_begin net)
  net_begun = same_record (places_record v plan new 0) (fresh_record (network_begin net)) (ap (network_of plan) shown_begun) starts_shown traces_shown refl

  pub net_begun_kept : map start_node (map v.start new) ≡ states (map v.shown new) → IsSteady net → IsRecordedNet v plan new 0
  net_begun_kept stands steady =
      let stand : map start_node (map v.start new) ≡ map (read_state v) new = stands ∙ map_twice (λ (s : Shown A). s.state) v.shown new in
      let shown : map start_node (map v.start new) ≡ map v.plain new =
      sym (starts_same v.kind.plain (map v.start new)) ∙ ap (map (plain v)) stand ∙ states_shown v reads new in
      record {
        kept = subst IsNetRecord (sym net_begun) (fresh_kept (network_begin net) (begun_steady net steady) (ap (map start_node) (sym starts_shown) ∙ shown ∙ shown_begun));
        events = [];
        told = told_first v plan new stand (none_kept v new old begun);
      }

-- a network is quiet where it is so over plain tokens
module _ {A P : Type 0} (v : Reading A P) (reads : IsReading v) (places : List P) where
  pub quiet_shown : All IsQuietNode (states (map v.shown places)) → All IsQuietNode (map v.plain places)
  quiet_shown all = subst (λ ns. All (λ (n : Node Token). IsQuietNode n) ns) (states_plain v reads places) (all_on (plain v) (λ (n : Node A). IsQuietNode n) (λ (n : Node Token). IsQuietNode n) (quiet_map v.kind.plain) (states (map v.shown places)) all)

  pub quiet_back : All IsQuietNode (map v.plain places) → All IsQuietNode (states (map v.shown places))
  quiet_back all = all_back (plain v) (λ (n : Node A). IsQuietNode n) (λ (n : Node Token). IsQuietNode n) (node_back v.kind.plain) (states (map v.shown places)) (subst (λ ns. All (λ (n : Node Token). IsQuietNode n) ns) (sym (states_plain v reads places)) all)

-- places that begin in turn
module _ {A P : Type 0} (shown : P → Shown A) (start : P → NodeStart) where
  -- the nodes that have yet to begin are quiet
  abbrev pub Waits : List P → ℕ → Type 0
  Waits places i = (k : ℕ) (p : P) → i ≤ k → slice_get places k ≡ Some p → IsQuietNode (shown p).state

  pub waits_on : (places : List P) (i : ℕ) (y : P) → Waits places i → Waits (slice_set places i y) (i + 1)
  waits_on places i y waits = λ k p after here. waits k p (omega (arith, after)) (sym (get_set_other places i k y (λ same. absurd (let no : ⊥ = omega (arith, same, after) in no))) ∙ here)

  pub waits_first : (places : List P) → All IsQuietNode (states (map shown places)) → Waits places 0
  waits_first places all = λ k p after here. All-place IsQuietNode (states (map shown places)) k (shown p).state (shown_at (λ (s : Shown A). s.state) shown places k (Some p) here) all

  -- those that have begun stand at their starts
  abbrev pub Stand : List P → ℕ → Type 0
  Stand places i = (k : ℕ) (p : P) → k < i → slice_get places k ≡ Some p → (shown p).state ≡ start_node (start p)

  set_there : (places : List P) (i k : ℕ) (y p : P) → i ≡ k → slice_get (slice_set places i y) k ≡ Some p → y ≡ p
  set_there [] i k y p same at = cc
  set_there (x ∷ places) zero zero y p same at = cc
  set_there (x ∷ places) zero (suc k) y p same at = absurd (let no : ⊥ = omega (arith, same) in no)
  set_there (x ∷ places) (suc i) zero y p same at = absurd (let no : ⊥ = omega (arith, same) in no)
  set_there (x ∷ places) (suc i) (suc k) y p same at = set_there places i k y p (omega (arith, same)) at

  pub stand_on : (places : List P) (i : ℕ) (y : P) → (shown y).state ≡ start_node (start y) → Stand places i → Stand (slice_set places i y) (i + 1)
  stand_on places i y here before = search (arith, cases_eq, set_there, get_set_other)

  pub all_stand : (places : List P) → ((k : ℕ) (p : P) → slice_get places k ≡ Some p → (shown p).state ≡ start_node (start p)) → map start_node (map start places) ≡ states (map shown places)
  all_stand [] stand = refl
  all_stand (p ∷ places) stand = ap (λ x. x ∷ map start_node (map start places)) (sym (stand 0 p refl)) ∙ ap (λ xs. (shown p).state ∷ xs) (all_stand places (λ k q here. stand (suc k) q here))
