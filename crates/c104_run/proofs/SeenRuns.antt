-- A run as it is seen, where each event is seen so in every state of which something is kept.
use Rattle.{c104_event.specs.declared.{events.Event.Event, faults.EventFault.EventFault}, c104_run.proofs.RoundRuns.{Applied, ends_keep}}
use Rattle.c104_run.{proofs.RoundRuns.run_seen, specs.{EventRuns.{Answers, EventsEnd, Outcome, run_events}, NetRecords.is_done}}
use Rattle.{c104_run.specs.RoundParts.PartEnds, c104_switch.specs.Actions.Reply, std.proofs.Common.{Bool, List, Result, ap, arith, inl}}
use Rattle.std.proofs.Common.{inr, refl, sym, ◌∙◌, ◌≡◌}

module _ {S R : Type 0} (apply : S → Event → Applied S) (apply_seen : R → Event → Applied R) (seen : S → R) (Kept : S → Type 0) (keeps : (s : S) (e : Event) → Kept s → Kept (apply s e).1)
    (follows : (s : S) (e : Event) → Kept s → ◌≡◌ {A = Applied R} ((apply s e).0, seen (apply s e).1) (apply_seen (seen s) e)) where
  -- a state of which that is kept
  abbrev Known : Type 0
  Known = (s : S) × Kept s

  abbrev known_apply : Known → Event → Applied Known
  known_apply k e = ((apply k.0 e).0, ((apply k.0 e).1, keeps k.0 e k.1))

  run_while : (events : List Event) (s : S) → Kept s → ◌≡◌ {A = Outcome R} ((run_events apply s events).0, seen (run_events apply s events).1) (run_events apply_seen (seen s) events)
  run_while events s holds =
      ap (λ (r : Outcome S). (r.0, seen r.1)) (sym (run_seen known_apply apply (λ (k : Known). k.0) (λ k e. refl) events (s, holds)))
      ∙ run_seen known_apply apply_seen (λ (k : Known). seen k.0) (λ k e. follows k.0 e k.1) events (s, holds)

  module _ (s after : S) (holds : Kept s) where
    pub answers_while : (e : Event) (answer : Result Reply EventFault) → Answers apply s e answer after → Answers apply_seen (seen s) e answer (seen after)
    answers_while e answer answers = search arith

    module _ (events : List Event) where
      ends_while : (result : Result (Unit {0}) EventFault) → EventsEnd apply s events result after → EventsEnd apply_seen (seen s) events result (seen after)
      ends_while result (inl due) = inl (ap (λ (r : Outcome S). (r.0, seen r.1)) due ∙ run_while events s holds)
      ends_while result (inr short) = inr (record {
        refused = short.refused;
        front = short.front;
        event = short.event;
        rest = short.rest;
        parts = short.parts;
        stands = sym (run_while short.front s holds) ∙ ap (λ (r : Outcome S). (r.0, seen r.1)) short.stands;
        wanted = ap (λ (d : Applied R). is_done d.0) (sym (follows after short.event (ends_keep apply Kept keeps s after events result holds (inr short)))) ∙ short.wanted;
      })

      pub part_while : (result : Result Bool EventFault) → PartEnds apply s events result after → PartEnds apply_seen (seen s) events result (seen after)
      part_while result part = search (arith, run_while, ends_while)
