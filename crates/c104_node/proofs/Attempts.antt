-- An act that was tried at its place, as it ends at all places.
use Rattle.{c104_event.specs.declared.faults.EventFault.EventFault, c104_link.specs.Steps.◌>>=◌, c104_node.proofs.PlaceSteps.all_is}
use Rattle.c104_node.{proofs.PlaceSteps.{kept_same, put, seen_there}, specs.Acts.{node_act, nodes_act, plain_reply, reply_outcome}}
use Rattle.c104_node.specs.{Nodes.Node, PlaceActs.{AloneDone, HasActed}, Places.{Shown, fulls, room_fault, states, traces}}
use Rattle.c104_node.specs.{PortActs.act_limit, Traces.{full_at, kept_entry, lone_deed, noted, noted_all, noted_at, noted_in, plain_act}}
use Rattle.{c104_node.specs.declared.{acts.ActOf.ActOf, stamps.Stamp.Stamp}, c104_switch.specs.Actions.is_ready}
use Rattle.{c104_switch.specs.declared.actions.ReplyOf.ReplyOf, c104_token.specs.Kinds.Kind, std.proofs.Common.{Bool, Err, List, None, Ok}}
use Rattle.std.proofs.Common.{Option, Result, Some, ap, false, get_or, if◌then◌else◌, is_some, length, map, option_map, refl, slice_get}
use Rattle.std.proofs.{Common.{slice_set, subst, sym, true, unwrap_or, ℕ, ◌<◌, ◌∙◌, ◌≡◌}, lemmas.{List.map-set, Option.slice_get-get_or}}
use Rattle.std.proofs.lemmas.Option.{slice_get-map}

-- an act that was tried at a place, among what all places show
module _ {A : Type 0} (kind : Kind A) (keeps : Bool) (number : ℕ) (stamp : Stamp) (a : ActOf A) (olds : List (Shown A)) (k : ℕ) (old new : Shown A) (there : slice_get olds k ≡ Some old) where
  abbrev all : Option (ReplyOf A × List (Node A))
  all = nodes_act kind (states olds) k number a

  ready_all : is_some (node_act kind number a old.state) ≡ true → is_some all ≡ true
  ready_all ready = ap is_some (all_is olds k old new there kind number a) ∙ by_made (node_act kind number a old.state) ready
    where
      by_made : (m : Option (ReplyOf A × Node A)) → is_some m ≡ true → is_some (m >>= put olds k old new there kind number a) ≡ true
      by_made None ready = ready
      by_made (Some y) ready = refl

  states_set : states (slice_set olds k new) ≡ slice_set (states olds) k new.state
  states_set = map-set (λ (s : Shown A). s.state) olds k new

  answered : (told : ReplyOf A) → ◌≡◌ {A = ReplyOf A × Node A} (told, new.state) (reply_outcome (node_act kind number a old.state) old.state) → ◌≡◌ {A = ReplyOf A × List (Node A)} (told, states (slice_set olds k new)) (reply_outcome all (states olds))
  answered told is = by_made (node_act kind number a old.state) is ∙ ap (λ m. reply_outcome m (states olds)) (sym (all_is olds k old new there kind number a))
    where
      by_made : (m : Option (ReplyOf A × Node A)) → ◌≡◌ {A = ReplyOf A × Node A} (told, new.state) (reply_outcome m old.state) → ◌≡◌ {A = ReplyOf A × List (Node A)} (told, states (slice_set olds k new)) (reply_outcome (m >>= put olds k old new there kind number a) (states olds))
      by_made None is =
          ap (λ (r : ReplyOf A). (r, states (slice_set olds k new))) (ap (λ (z : ReplyOf A × Node A). z.0) is)
          ∙ ap (λ (ns : List (Node A)). (ReplyOf.NotReady, ns)) (kept_same olds k old new there (λ (s : Shown A). s.state) (ap (λ (z : ReplyOf A × Node A). z.1) is))
      by_made (Some y) is = ap (λ (ns : List (Node A)). (told, ns)) states_set ∙ ap (λ (z : ReplyOf A × Node A). (z.0, slice_set (states olds) k z.1)) is

  -- the entry that is kept, if one is
  entry_in : (told : ReplyOf A) → new.trace ≡ (if is_ready told then noted keeps old.trace (kept_entry kind stamp a told) else old.trace) → traces (slice_set olds k new) ≡ noted_all keeps (traces olds) (lone_deed stamp k (plain_act kind a) (plain_reply kind told))
  entry_in told is = by_told told is
    where
      added : (told : ReplyOf A) → new.trace ≡ noted keeps old.trace (kept_entry kind stamp a told) → traces (slice_set olds k new) ≡ noted_at keeps (traces olds) k (kept_entry kind stamp a told)
      added told is =
          map-set (λ (s : Shown A). s.trace) olds k new ∙ ap (slice_set (traces olds) k) is
          ∙ sym (ap (noted_in keeps (traces olds) k (kept_entry kind stamp a told)) (seen_there olds k old new there (λ (s : Shown A). s.trace)))

      by_told : (told : ReplyOf A) → new.trace ≡ (if is_ready told then noted keeps old.trace (kept_entry kind stamp a told) else old.trace) → traces (slice_set olds k new) ≡ noted_all keeps (traces olds) (lone_deed stamp k (plain_act kind a) (plain_reply kind told))
      by_told ReplyOf.Done is = added ReplyOf.Done is
      by_told ReplyOf.NotReady is = kept_same olds k old new there (λ (s : Shown A). s.trace) is
      by_told (ReplyOf.Token x) is = added (ReplyOf.Token x) is
      by_told (ReplyOf.Control bytes) is = added (ReplyOf.Control bytes) is

  module _ (below : act_limit (slice_get (states olds) k) a ≡ None) (free : full_at (fulls olds) k ≡ false) where
    pub tried_done : (told : ReplyOf A) → HasActed kind keeps number stamp a old told new → AloneDone kind keeps k number stamp a olds (Ok told) (slice_set olds k new)
    tried_done told is = record {
      ends = (answered told is.acted, λ ready. (below, free));
      base = kept_same olds k old new there (λ (s : Shown A). s.base) is.base;
      trace = entry_in told is.trace;
    }

    pub tried_refused : is_some (node_act kind number a old.state) ≡ true → new ≡ old → AloneDone kind keeps k number stamp a olds (Err EventFault.NoMemory) (slice_set olds k new)
    tried_refused ready same = record {
      ends = (sym (ap (λ (o : Option EventFault). unwrap_or o (room_fault (full_at (fulls olds) k))) below ∙ ap room_fault free), ready_all ready, kept_same olds k old new there (λ (s : Shown A). s.state) (ap (λ (s : Shown A). s.state) same));
      base = kept_same olds k old new there (λ (s : Shown A). s.base) (ap (λ (s : Shown A). s.base) same);
      trace = kept_same olds k old new there (λ (s : Shown A). s.trace) (ap (λ (s : Shown A). s.trace) same);
    }

-- and of what the places show
module _ {A P : Type 0} (shown : P → Shown A) (xs : List P) (k : ℕ) (d new : P) (inside : k < length xs) (kind : Kind A) (keeps : Bool) (number : ℕ) (stamp : Stamp) (a : ActOf A)
    (below : act_limit (slice_get (states (map shown xs)) k) a ≡ None) (free : full_at (fulls (map shown xs)) k ≡ false) where
  here : slice_get (map shown xs) k ≡ Some (shown (get_or xs k d))
  here = slice_get-map shown xs k ∙ ap (option_map shown) (slice_get-get_or xs k d inside)

  abbrev IsDone : Result (ReplyOf A) EventFault → List (Shown A) → Type 0
  IsDone answer news = AloneDone kind keeps k number stamp a (map shown xs) answer news

  -- room was made before, or not, which changes nothing that is shown
  module _ (mid : Shown A) (same : mid ≡ shown (get_or xs k d)) where
    pub attempt_done : (told : ReplyOf A) → HasActed kind keeps number stamp a mid told (shown new) → IsDone (Ok told) (map shown (slice_set xs k new))
    attempt_done told is = subst (IsDone (Ok told)) (sym (map-set shown xs k new))
        (tried_done kind keeps number stamp a (map shown xs) k (shown (get_or xs k d)) (shown new) here below free told (subst (λ (s : Shown A). HasActed kind keeps number stamp a s told (shown new)) same is))

    pub attempt_refused : is_some (node_act kind number a mid.state) ≡ true → shown new ≡ mid → IsDone (Err EventFault.NoMemory) (map shown (slice_set xs k new))
    attempt_refused ready kept = subst (IsDone (Err EventFault.NoMemory)) (sym (map-set shown xs k new))
        (tried_refused kind keeps number stamp a (map shown xs) k (shown (get_or xs k d)) (shown new) here below free (sym (ap (λ (s : Shown A). is_some (node_act kind number a s.state)) same) ∙ ready) (kept ∙ same))

  -- where none could be made, the act is refused if it was ready
  pub attempt_without : (answer : Result (ReplyOf A) EventFault) → answer ≡ (if is_some (node_act kind number a (shown new).state) then Err EventFault.NoMemory else Ok ReplyOf.NotReady) → shown new ≡ shown (get_or xs k d) → IsDone answer (map shown (slice_set xs k new))
  attempt_without answer is same = subst (λ r. IsDone r (map shown (slice_set xs k new))) (sym is) (by_made (node_act kind number a (shown new).state) refl)
    where
      by_made : (m : Option (ReplyOf A × Node A)) → node_act kind number a (shown new).state ≡ m → IsDone (if is_some m then Err EventFault.NoMemory else Ok ReplyOf.NotReady) (map shown (slice_set xs k new))
      by_made None none = attempt_done (shown new) same ReplyOf.NotReady (record { acted = sym (ap (λ m. reply_outcome m (shown new).state) none); base = refl; trace = refl })
      by_made (Some y) some = attempt_refused (shown new) same (ap is_some some) refl
