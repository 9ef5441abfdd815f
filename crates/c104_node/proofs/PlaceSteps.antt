-- From one place to all places: what is read there, and what an act changes.
use Rattle.{c104_link.specs.Steps.◌>>=◌, c104_node.proofs.{ReadyActs.{act_ready, made_ready}, WireEnds.{get_set_other, get_set_same}}}
use Rattle.c104_node.specs.{Acts.{node_act, nodes_act}, Nodes.Node, PlaceActs.{HasActed, HasActedAt}, Places.{HasRoomAt, Shown, bases}}
use Rattle.c104_node.specs.{Places.{fulls, states}, PortActs.act_limit, Traces.full_at, WiredPlaces.{is_linked, is_linked_at}}
use Rattle.{c104_node.specs.declared.{acts.ActOf.ActOf, stamps.Stamp.Stamp}, c104_switch.specs.declared.actions.ReplyOf.ReplyOf}
use Rattle.{c104_token.specs.Kinds.Kind, std.proofs.Common.{Bool, Err, IsErr, IsErrAnd, List, None, Ok, OnOk, Option, Result, Some, ap}}
use Rattle.std.proofs.Common.{arith, false, get_or, is_some, length, map, nat_lt, option_map, slice_get, slice_set, subst, sym, true}
use Rattle.std.proofs.{Common.{unwrap_or, ℕ, ◌<◌, ◌∙◌, ◌≡◌, ◌≢◌}, Math.Seq.map-set_same, lemmas.Bool.{Decides.nat_tests, both_ways}}
use Rattle.std.proofs.lemmas.{List.{length-map, map-set}, Option.{get_or_from_slice_get, slice_get-get_or, slice_get-map, slice_get_past}}

-- what a place shows, read from the list of all
module _ {A P S : Type 0} (f : Shown A → S) (shown : P → Shown A) (xs : List P) (k : ℕ) where
  pub shown_at : (o : Option P) → slice_get xs k ≡ o → slice_get (map f (map shown xs)) k ≡ option_map f (option_map shown o)
  shown_at o is = slice_get-map f (map shown xs) k ∙ ap (option_map f) (slice_get-map shown xs k ∙ ap (option_map shown) is)

  pub read_some : (x : P) → true ≡ nat_lt k (length xs) → x ≡ get_or xs k x → slice_get (map f (map shown xs)) k ≡ Some (f (shown x))
  read_some x inside is = shown_at (Some x) (slice_get-get_or xs k x (grind (arith, nat_tests)) ∙ ap Some (sym is))

  read_inside : (d : P) → k < length xs → slice_get (map f (map shown xs)) k ≡ Some (f (shown (get_or xs k d)))
  read_inside d inside = shown_at (Some (get_or xs k d)) (slice_get-get_or xs k d inside)

  pub read_item : (x : P) → k < length xs → x ≡ get_or xs k x → f (shown x) ≡ get_or (map f (map shown xs)) k (f (shown x))
  read_item x inside is = sym (get_or_from_slice_get (map f (map shown xs)) k (f (shown x)) (f (shown x)) (read_inside x inside ∙ ap (λ y. Some (f (shown y))) (sym is)))

  pub read_none : false ≡ nat_lt k (length xs) → slice_get (map f (map shown xs)) k ≡ None
  read_none past = shown_at None (slice_get_past xs k (grind (arith, nat_tests)))

-- as much is shown as there are places
pub as_many : {A P S : Type 0} (f : Shown A → S) (shown : P → Shown A) (xs : List P) → length (map f (map shown xs)) ≡ length xs
as_many f shown xs = length-map (map shown xs) f ∙ length-map xs shown

-- what is so among all places is so of one
module _ {A P : Type 0} (shown : P → Shown A) (xs : List P) (k : ℕ) (d : P) (inside : k < length xs) where
  pub free_there : full_at (fulls (map shown xs)) k ≡ false → (shown (get_or xs k d)).full ≡ false
  free_there free = sym (ap (λ (o : Option Bool). unwrap_or o false) (read_inside (λ (s : Shown A). s.full) shown xs k d inside)) ∙ free

  pub ready_there : (kind : Kind A) (number : ℕ) (a : ActOf A) → is_some (nodes_act kind (states (map shown xs)) k number a) ≡ true → is_some (node_act kind number a (shown (get_or xs k d)).state) ≡ true
  ready_there kind number a ready = search (arith, read_inside)

-- what a place shows after an act, among what all show
module _ {A : Type 0} (olds : List (Shown A)) (k : ℕ) (old new : Shown A) (there : slice_get olds k ≡ Some old) where
  -- what stays at the place stays at all
  pub kept_same : {S : Type 0} (f : Shown A → S) → f new ≡ f old → map f (slice_set olds k new) ≡ map f olds
  kept_same f same = map-set_same f olds k new new (same ∙ ap f (sym (get_or_from_slice_get olds k old new there)))

  pub seen_there : {S : Type 0} (f : Shown A → S) → slice_get (map f olds) k ≡ Some (f old)
  seen_there f = slice_get-map f olds k ∙ ap (option_map f) there

  module _ (kind : Kind A) (number : ℕ) (a : ActOf A) where
    abbrev pub put : ReplyOf A × Node A → Option (ReplyOf A × List (Node A))
    put y = Some (y.0, slice_set (states olds) k y.1)

    -- what the node there does
    pub all_is : nodes_act kind (states olds) k number a ≡ node_act kind number a old.state >>= put
    all_is = ap (λ (o : Option (Node A)). o >>= (λ n. node_act kind number a n >>= put)) (seen_there (λ (s : Shown A). s.state))

    -- an act that it was ready for is made, and an entry is kept of it
    acted_there : (keeps : Bool) (stamp : Stamp) (reply : ReplyOf A) → is_some (node_act kind number a old.state) ≡ true → HasActed kind keeps number stamp a old reply new → HasActedAt kind keeps k number stamp a olds reply (slice_set olds k new)
    acted_there keeps stamp reply ready is = search (arith, all_is, map-set, kept_same, act_ready, seen_there, made_ready)

-- where it was ready it isn't answered that it isn't
pub never_unready : {A : Type 0} (kind : Kind A) (keeps : Bool) (stamp : Stamp) (a : ActOf A) (old new : Shown A) (reply : ReplyOf A) → is_some (node_act kind 0 a old.state) ≡ true → HasActed kind keeps 0 stamp a old reply new → reply ≡ ReplyOf.NotReady → ⊥
never_unready kind keeps stamp a old new reply ready is unready = search (arith, both_ways, act_ready, made_ready)

-- an act at one place of a list, as it ends at all
pub acts_at : {A P : Type 0} (shown : P → Shown A) (xs : List P) (k : ℕ) (d new : P) → k < length xs → (kind : Kind A) (keeps : Bool) (stamp : Stamp) (a : ActOf A) (reply : ReplyOf A) →
    is_some (nodes_act kind (states (map shown xs)) k 0 a) ≡ true → HasActed kind keeps 0 stamp a (shown (get_or xs k d)) reply (shown new) → HasActedAt kind keeps k 0 stamp a (map shown xs) reply (map shown (slice_set xs k new))
acts_at shown xs k d new inside kind keeps stamp a reply ready is =
    subst (HasActedAt kind keeps k 0 stamp a (map shown xs) reply) (sym (map-set shown xs k new))
    (acted_there (map shown xs) k (shown (get_or xs k d)) (shown new) (slice_get-map shown xs k ∙ ap (option_map shown) (slice_get-get_or xs k d inside)) kind 0 a keeps stamp reply (ready_there shown xs k d inside kind 0 a ready) is)

-- a change at one place keeps the room at the others
pub room_others : {P : Type 0} (has_room : P → Type 0) (xs : List P) (k : ℕ) (new : P) (j : ℕ) → j ≢ k → HasRoomAt has_room xs j → HasRoomAt has_room (slice_set xs k new) j
room_others has_room xs k new j differs room = λ p at. room p (sym (get_set_other xs k j new (λ same. differs (sym same))) ∙ at)

-- where room was made, it is there
pub room_made : {P E : Type 0} (has_room : P → Type 0) (xs : List P) (k : ℕ) (d new : P) → k < length xs → (r : Result (Unit {0}) E) → OnOk r (has_room new) → OnOk r (HasRoomAt has_room (slice_set xs k new) k)
room_made has_room xs k d new inside (Ok u) room = λ p at.
    let one : Some new ≡ Some p = sym (get_set_same xs k (get_or xs k d) new (slice_get-get_or xs k d inside)) ∙ at in
    let same : new ≡ p = cc in subst has_room same room
room_made has_room xs k d new inside (Err e) room = tt

pub err_is : {X E : Type 0} (result : Result X E) (e : E) → IsErr result × IsErrAnd result (λ d. d ≡ e) → result ≡ Err e
err_is result e is = search arith

module _ {A : Type 0} where
  -- what is so at a place of a list is so of the place
  pub linked_there : {P : Type 0} (shown : P → Shown A) (xs : List P) (k : ℕ) (d : P) → k < length xs → (a : ActOf A) → is_linked_at (bases (map shown xs)) k a ≡ true → is_linked (shown (get_or xs k d)).base a ≡ true
  linked_there shown xs k d inside a linked = search (arith, shown_at, slice_get-get_or)

  pub below_there : {P : Type 0} (shown : P → Shown A) (xs : List P) (k : ℕ) (d : P) → k < length xs → (a : ActOf A) → act_limit (slice_get (states (map shown xs)) k) a ≡ None → act_limit (Some (shown (get_or xs k d)).state) a ≡ None
  below_there shown xs k d inside a below = sym (ap (λ (o : Option (Node A)). act_limit o a) (shown_at (λ (s : Shown A). s.state) shown xs k (Some (get_or xs k d)) (slice_get-get_or xs k d inside))) ∙ below
