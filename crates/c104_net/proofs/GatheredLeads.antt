-- The entries that lead, as they are gathered.
use Rattle.{c104_event.specs.declared.events.Event.Event, c104_net.specs.{Leading.{leads, led_events}, Replays.{entry_event, lead_event}}}
use Rattle.{c104_net.specs.{ToldEvents.told_by, declared.leading.Lead.Lead}, c104_node.proofs.Waiting.drop_there}
use Rattle.{c104_node.specs.declared.acts.Entry.Entry, std.proofs.Common.{List, Some, [], append_assoc, arith, drop, false, map, slice_get}}
use Rattle.std.proofs.{Common.{true, ℕ, ◌++◌, ◌+◌, ◌∷◌, ◌≡◌}, lemmas.List.map-append}

module _ (switches k : ℕ) where
  -- an entry that leads tells its event first
  led_true : (e : Entry) (es : List Entry) → leads e.act ≡ true → led_events switches k (e ∷ es) ≡ (e.ticket, entry_event switches k (Some e)) ∷ led_events switches k es
  led_true e es is = grind arith

  -- and one that doesn't lead tells none
  led_false : (e : Entry) (es : List Entry) → leads e.act ≡ false → led_events switches k (e ∷ es) ≡ led_events switches k es
  led_false e es is = grind arith

module _ (switches : ℕ) (traces : List (List Entry)) (place : ℕ) where
  -- what is so far, and what the rest tells
  abbrev pub SoFar : List Lead → List (ℕ × Event) → List (ℕ × Event)
  SoFar items rest = map (lead_event switches traces) items ++ rest

  lead_at : (at : ℕ) (trace : List Entry) (e : Entry) → slice_get traces place ≡ Some trace → slice_get trace at ≡ Some e → lead_event switches traces (record { ticket = e.ticket; place = place; at = at }) ≡ (e.ticket, entry_event switches place (Some e))
  lead_at at trace e there here = cc

  -- one more that leads was added
  pub add_on : (at : ℕ) (trace : List Entry) (e : Entry) (items new : List Lead) (all : List (ℕ × Event)) → slice_get traces place ≡ Some trace → slice_get trace at ≡ Some e → leads e.act ≡ true → new ≡ items ++ record { ticket = e.ticket; place = place; at = at } ∷ [] →
      SoFar items (led_events switches place (drop at trace)) ≡ all → SoFar new (led_events switches place (drop (at + 1) trace)) ≡ all
  add_on at trace e items new all there here is added before = search (arith, drop_there, led_true, map-append, lead_at, append_assoc)

  -- one that doesn't was passed over
  pub pass_on : (at : ℕ) (trace : List Entry) (e : Entry) (items new : List Lead) (all : List (ℕ × Event)) → slice_get trace at ≡ Some e → leads e.act ≡ false → new ≡ items →
      SoFar items (led_events switches place (drop at trace)) ≡ all → SoFar new (led_events switches place (drop (at + 1) trace)) ≡ all
  pass_on at trace e items new all here is same before = search (arith, drop_there, led_false)

  -- those of one more trace were added
  pub trace_on : (trace : List Entry) (items new : List Lead) (all : List (ℕ × Event)) → slice_get traces place ≡ Some trace →
      map (lead_event switches traces) new ≡ SoFar items (led_events switches place trace) →
      SoFar items (told_by switches place (drop place traces)) ≡ all → SoFar new (told_by switches (place + 1) (drop (place + 1) traces)) ≡ all
  trace_on trace items new all there added before = search (arith, drop_there, append_assoc)
