-- A run that stops at the first fault, by a prefix of its events, and what it keeps; and what leaves a
-- network as it was.
use Rattle.{c104_event.specs.declared.{events.Event.Event, faults.EventFault.EventFault}, c104_link.proofs.MadeSteps.given}
use Rattle.{c104_node.specs.Acts.plain_reply, c104_run.{proofs.ActSteps.step_ready, specs.EventRuns.{Answers, EventsEnd, Outcome}}}
use Rattle.c104_run.specs.{EventRuns.{run_events, unless_fault}, NetRecords.is_done, Network.{AnswersEvent, AnswersWith, Network}}
use Rattle.c104_run.specs.Network.{event_fault, network_apply, network_step, outcome_if_possible, outcome_if_ready, outcome_within_limit}
use Rattle.{c104_switch.specs.{Actions.{Reply, is_ready}, declared.actions.ReplyOf.ReplyOf}, c104_token.specs.Kinds.Kind}
use Rattle.std.proofs.Common.{Bool, Err, List, Ok, Option, Result, Some, [], ap, arith, false, inl, inr, refl, subst, sym, true, ◌++◌, ◌∙◌}
use Rattle.std.proofs.Common.{◌∷◌, ◌≡◌}

-- what isn't NotReady is done
pub is_told : (r : Reply) → (r ≡ ReplyOf.NotReady → ⊥) → is_ready r ≡ true
is_told r other = search arith

-- what one event comes to
abbrev pub Applied : Type 0 → Type 0
Applied S = Result Reply EventFault × S

module _ {S : Type 0} (apply : S → Event → Applied S) where
  -- the rest of a run goes on from where its prefix came to
  unless_later : (events more : List Event) → ((s : S) → run_events apply s (events ++ more) ≡ unless_fault (run_events apply s events).0 (run_events apply s events).1 (λ next. run_events apply next more)) →
      (answer : Result Reply EventFault) (s : S) →
      unless_fault answer s (λ next. run_events apply next (events ++ more)) ≡ unless_fault (unless_fault answer s (λ next. run_events apply next events)).0 (unless_fault answer s (λ next. run_events apply next events)).1 (λ next. run_events apply next more)
  unless_later events more later answer s = search arith

  pub run_append : (events more : List Event) (s : S) → run_events apply s (events ++ more) ≡ unless_fault (run_events apply s events).0 (run_events apply s events).1 (λ next. run_events apply next more)
  run_append [] more s = refl
  run_append (e ∷ events) more s = unless_later events more (run_append events more) (apply s e).0 (apply s e).1

  -- after a prefix without a fault
  pub run_from : (s mid : S) (events more : List Event) → run_events apply s events ≡ (Ok tt, mid) → run_events apply s (events ++ more) ≡ run_events apply mid more
  run_from s mid events more front = run_append events more s ∙ ap (λ (r : Outcome S). unless_fault r.0 r.1 (λ next. run_events apply next more)) front

  -- one event
  run_one : (s after : S) (e : Event) (answer : Result Reply EventFault) → ◌≡◌ {A = Applied S} (answer, after) (apply s e) →
      run_events apply s (e ∷ []) ≡ unless_fault answer after (λ next. (Ok tt, next))
  run_one s after e answer due = ap (λ (r : Applied S). unless_fault r.0 r.1 (λ next. (Ok tt, next))) (sym due)

  pub run_reply : (s after : S) (e : Event) (r : Reply) → ◌≡◌ {A = Applied S} (Ok r, after) (apply s e) → run_events apply s (e ∷ []) ≡ (Ok tt, after)
  run_reply s after e r due = run_one s after e (Ok r) due

  same_fault : (f g : EventFault) → ◌≡◌ {A = Result Reply EventFault} (Err f) (Err g) → ◌≡◌ {A = Result (Unit {0}) EventFault} (Err f) (Err g)
  same_fault f g same = let faults : f ≡ g = cc in ap Err faults

  -- a run ends with the fault of an event, or out of memory
  pub fault_ends : (s after : S) (e : Event) (f : EventFault) → Answers apply s e (Err f) after → EventsEnd apply s (e ∷ []) (Err f) after
  fault_ends s after e f answer =
      elim answer [
        | inl due ↦ inl (sym (run_one s after e (Err f) due))
        | inr refused ↦ inr (record {
          refused = same_fault f EventFault.NoMemory refused.0;
          front = [];
          event = e;
          rest = [];
          parts = refl;
          stands = ap (λ n. (Ok tt, n)) (sym refused.2);
          wanted = subst (λ n. is_done (apply n e).0 ≡ true) (sym refused.2) refused.1;
        })
      ]

  -- what every event keeps a run keeps
  module _ (Kept : S → Type 0) (keeps : (s : S) (e : Event) → Kept s → Kept (apply s e).1) where
    run_keeps : (events : List Event) (s : S) → Kept s → Kept (run_events apply s events).1
    run_keeps [] s holds = holds
    run_keeps (e ∷ events) s holds = by_answer (λ next kept. run_keeps events next kept) (apply s e).0 (apply s e).1 (keeps s e holds)
      where
        by_answer : ((next : S) → Kept next → Kept (run_events apply next events).1) → (answer : Result Reply EventFault) (next : S) → Kept next → Kept (unless_fault answer next (λ n. run_events apply n events)).1
        by_answer more (Ok r) next holds = more next holds
        by_answer more (Err f) next holds = holds

    pub ends_keep : (s after : S) (events : List Event) (result : Result (Unit {0}) EventFault) → Kept s → EventsEnd apply s events result after → Kept after
    ends_keep s after events result holds ends =
        elim ends [
          | inl due ↦ subst Kept (sym (ap (λ (r : Outcome S). r.1) due)) (run_keeps events s holds)
          | inr short ↦ subst Kept (ap (λ (r : Outcome S). r.1) short.stands) (run_keeps short.front s holds)
        ]

-- a run as it is seen, where each event is seen so
module _ {S R : Type 0} (apply : S → Event → Applied S) (apply_seen : R → Event → Applied R) (seen : S → R)
    (follows : (s : S) (e : Event) → ◌≡◌ {A = Applied R} ((apply s e).0, seen (apply s e).1) (apply_seen (seen s) e)) where
  pub run_seen : (events : List Event) (s : S) → ◌≡◌ {A = Outcome R} ((run_events apply s events).0, seen (run_events apply s events).1) (run_events apply_seen (seen s) events)
  run_seen [] s = refl
  run_seen (e ∷ events) s =
      by_answer (λ next. run_seen events next) (apply s e).0 (apply s e).1
      ∙ ap (λ (r : Applied R). unless_fault r.0 r.1 (λ next. run_events apply_seen next events)) (follows s e)
    where
      by_answer : ((next : S) → ◌≡◌ {A = Outcome R} ((run_events apply next events).0, seen (run_events apply next events).1) (run_events apply_seen (seen next) events)) → (answer : Result Reply EventFault) (next : S) →
          ◌≡◌ {A = Outcome R} ((unless_fault answer next (λ n. run_events apply n events)).0, seen (unless_fault answer next (λ n. run_events apply n events)).1) (unless_fault answer (seen next) (λ n. run_events apply_seen n events))
      by_answer more (Ok r) next = more next
      by_answer more (Err f) next = refl

  pub ends_seen : (s after : S) (events : List Event) (result : Result (Unit {0}) EventFault) → EventsEnd apply s events result after → EventsEnd apply_seen (seen s) events result (seen after)
  ends_seen s after events result ends = search (arith, run_seen)

module _ {A : Type 0} (kind : Kind A) where
  -- a step that is ready replies something else than that it isn't
  abbrev Replies : Option (Reply × Network A) → Type 0
  Replies made = (r : Reply × Network A) → made ≡ Some r → r.0 ≡ ReplyOf.NotReady → ⊥

  -- what is told of a reply that is one
  plain_replies : (r : ReplyOf A) → is_ready r ≡ true → plain_reply kind r ≡ ReplyOf.NotReady → ⊥
  plain_replies r ready unready = search arith

  pub step_replies : (net : Network A) (e : Event) → Replies (network_step kind net e)
  step_replies net e r is unready = search (arith, given, plain_replies, step_ready)

  -- an event that isn't done leaves the network as it was
  module _ (net : Network A) (e : Event) where
    limit_leaves : (limit : Option EventFault) (r : Reply × Network A) → network_step kind net e ≡ Some r → is_done (outcome_within_limit kind net limit r).0 ≡ false → (outcome_within_limit kind net limit r).1 ≡ net
    limit_leaves limit r made undone = search (arith, is_told, step_replies)

    ready_leaves : (made : Option (Reply × Network A)) → network_step kind net e ≡ made → is_done (outcome_if_ready kind net e made).0 ≡ false → (outcome_if_ready kind net e made).1 ≡ net
    ready_leaves made at undone = search (arith, limit_leaves)

    there_leaves : (fault : Option EventFault) → is_done (outcome_if_possible kind net e fault).0 ≡ false → (outcome_if_possible kind net e fault).1 ≡ net
    there_leaves fault undone = search (arith, ready_leaves)

    pub undone_left : is_done (network_apply kind net e).0 ≡ false → (network_apply kind net e).1 ≡ net
    undone_left undone = there_leaves (event_fault net.plan e) undone

    pub undone_stays : (after : Network A) (full : Bool) (answer : Result Reply EventFault) → is_done answer ≡ false → AnswersWith kind full net e answer after → after ≡ net
    undone_stays after full answer undone answers = search (arith, undone_left)

  pub undone_leaves : (mid after : Network A) (e : Event) (r : Reply) → is_ready r ≡ false → AnswersEvent kind mid e (Ok r) after → after ≡ mid
  undone_leaves mid after e r undone answer = undone_stays mid e after false (Ok r) undone answer
