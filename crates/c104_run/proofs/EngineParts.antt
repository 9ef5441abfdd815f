-- What an engine does of a round, part after part and step after step, by whatever plan it has: the plan stays.
use Rattle.{c104_event.specs.declared.{events.Event.Event, faults.EventFault.EventFault}, c104_node.proofs.PlaceSteps.err_is}
use Rattle.{c104_node.specs.Places.Shown, c104_plan.specs.Plans.Plan, c104_run.proofs.{MeteredSteps.idle_part, PartRuns.number_next}}
use Rattle.c104_run.proofs.PartRuns.{number_passes, number_stops, part_after, part_empty, stops_after, stops_before}
use Rattle.c104_run.{proofs.WordedRounds.walked_words, specs.{Engines.{DoesPart, EngineView, engine_at, engine_network}, HandedWords.Words}}
use Rattle.c104_run.specs.{HandedWords.{round_with, walked_with}, Meters.{Sees, metered_apply}, RoundParts.{IsNext, PartEnds}}
use Rattle.{c104_token.specs.Kinds.Kind, std.proofs.Common.{Bool, Err, IsErr, IsErrAnd, List, None, Ok, Option, Result, Some, ap, arith}}
use Rattle.std.{proofs.Common.{false, length, refl, subst, sym, unwrap_or, ℕ, ◌++◌, ◌+◌, ◌<◌, ◌||◌, ◌∙◌, ◌≡◌, ◌≤◌}, specs.List.flat_map}
use Rattle.std.specs.List.{range_with_len}

module _ {A M P : Type 0} {kind : Kind A} {keeps : Bool} {sees : Sees M A} {shown : P → Shown A} where
  -- a part of which the events are named otherwise
  pub does_so : {old new : EngineView P} {m n : M} {es fs : Plan → List Event} {result : Result Bool EventFault} → es old.plan ≡ fs old.plan → DoesPart kind keeps sees shown old m es result new n → DoesPart kind keeps sees shown old m fs result new n
  does_so {old} {new} {m} {n} {es} {fs} {result} same does = search arith

  -- a part that a fault stops, and what would have followed
  pub does_before : {old new : EngineView P} {m n : M} {es : Plan → List Event} {f : EventFault} → DoesPart kind keeps sees shown old m es (Err f) new n → (fs : Plan → List Event) → DoesPart kind keeps sees shown old m (λ p. es p ++ fs p) (Err f) new n
  does_before {old} {new} {m} {n} {es} {f} does fs = search (arith, stops_before)

  -- one part after another
  pub does_after : {old mid new : EngineView P} {m k n : M} {es fs : Plan → List Event} {a b : Bool} → DoesPart kind keeps sees shown old m es (Ok a) mid k → DoesPart kind keeps sees shown mid k fs (Ok b) new n → DoesPart kind keeps sees shown old m (λ p. es p ++ fs p) (Ok (a || b)) new n
  does_after {old} {mid} {new} {m} {k} {n} {es} {fs} {a} {b} first next = record {
    plan = next.plan ∙ first.plan;
    ends =
        part_after (metered_apply kind keeps sees) (engine_at shown old m) (engine_at shown mid k) (engine_at shown new n) (es old.plan) (fs old.plan) a b first.ends
        (subst (λ p. PartEnds (metered_apply kind keeps sees) (engine_at shown mid k) (fs p) (Ok b) (engine_at shown new n)) first.plan next.ends);
  }

  -- the second of which a fault stops
  pub does_stop : {old mid new : EngineView P} {m k n : M} {es fs : Plan → List Event} {a : Bool} {f : EventFault} → DoesPart kind keeps sees shown old m es (Ok a) mid k → DoesPart kind keeps sees shown mid k fs (Err f) new n → DoesPart kind keeps sees shown old m (λ p. es p ++ fs p) (Err f) new n
  does_stop {old} {mid} {new} {m} {k} {n} {es} {fs} {a} {f} first next = record {
    plan = next.plan ∙ first.plan;
    ends =
        stops_after (metered_apply kind keeps sees) (engine_at shown old m) (engine_at shown mid k) (engine_at shown new n) (es old.plan) (fs old.plan) a f first.ends
        (subst (λ p. PartEnds (metered_apply kind keeps sees) (engine_at shown mid k) (fs p) (Err f) (engine_at shown new n)) first.plan next.ends);
  }

  -- a round, by what is walked
  pub does_round : (words : Words) {old new : EngineView P} {m n : M} {result : Result Bool EventFault} → DoesPart kind keeps sees shown old m (walked_with words) result new n → DoesPart kind keeps sees shown old m (round_with words) result new n
  does_round words {old} does = does_so (sym (walked_words words old.plan)) does

-- what a walk has done of the numbers below i, of these, which are those below n
pub record SoFar {A M P : Type 0} (kind : Kind A) (keeps : Bool) (sees : Sees M A) (shown : P → Shown A) (part : Plan → ℕ → List Event) (numbers : Plan → List ℕ) (n : Plan → ℕ)
    (old : EngineView P) (m : M) (i : ℕ) (a : Bool) (mid : EngineView P) (k : M) : Type 0 where
  pub done : DoesPart kind keeps sees shown old m (λ p. flat_map (part p) (range_with_len 0 i)) (Ok a) mid k
  pub within : i ≤ n old.plan
  pub count : n mid.plan ≡ n old.plan

module _ {A M P : Type 0} {kind : Kind A} {keeps : Bool} {sees : Sees M A} {shown : P → Shown A} {part : Plan → ℕ → List Event} {numbers : Plan → List ℕ} {n : Plan → ℕ} where
  pub none_yet : {old : EngineView P} {m : M} → SoFar kind keeps sees shown part numbers n old m 0 false old m
  none_yet {old} {m} = record { done = record { plan = refl; ends = part_empty (metered_apply kind keeps sees) (engine_at shown old m) }; within = omega arith; count = refl }

  -- what is passed over, up to where a walk goes on
  passed : {old mid : EngineView P} {m k : M} {i : ℕ} {a : Bool} {found : Option ℕ} → SoFar kind keeps sees shown part numbers n old m i a mid k → IsNext kind (engine_network shown mid) (part mid.plan) (numbers mid.plan) (n mid.plan) i found → i ≤ unwrap_or found (n mid.plan) →
      PartEnds (metered_apply kind keeps sees) (engine_at shown old m) (flat_map (part old.plan) (range_with_len 0 (unwrap_or found (n mid.plan)))) (Ok a) (engine_at shown mid k)
  passed {old} {mid} {m} {k} {i} {a} {found} so_far next from =
      number_passes (metered_apply kind keeps sees) (part old.plan) i (unwrap_or found (n mid.plan)) (engine_at shown old m) (engine_at shown mid k) a from
      (λ x above below. subst (λ p. PartEnds (metered_apply kind keeps sees) (engine_at shown mid k) (part p x) (Ok false) (engine_at shown mid k)) so_far.done.plan (idle_part kind keeps sees (engine_at shown mid k) (part mid.plan x) (next.passed x above below)))
      so_far.done.ends

  -- the next one, which is done
  pub step_done : {old mid new : EngineView P} {m k l : M} {i j : ℕ} {a b : Bool} → SoFar kind keeps sees shown part numbers n old m i a mid k → IsNext kind (engine_network shown mid) (part mid.plan) (numbers mid.plan) (n mid.plan) i (Some j) → DoesPart kind keeps sees shown mid k (λ p. part p j) (Ok b) new l →
      SoFar kind keeps sees shown part numbers n old m (j + 1) (a || b) new l
  step_done {old} {mid} {new} {m} {k} {l} {i} {j} {a} {b} so_far next does = record {
    done = record {
      plan = does.plan ∙ so_far.done.plan;
      ends =
          number_next (metered_apply kind keeps sees) (part old.plan) j (engine_at shown old m) (engine_at shown mid k) (engine_at shown new l) a b (passed so_far next next.found.0)
          (subst (λ p. PartEnds (metered_apply kind keeps sees) (engine_at shown mid k) (part p j) (Ok b) (engine_at shown new l)) so_far.done.plan does.ends);
    };
    within = omega (arith, next.found.1, so_far.count);
    count = ap n does.plan ∙ so_far.count;
  }

  -- or which a fault stops
  pub step_stops : {old mid new : EngineView P} {m k l : M} {i j : ℕ} {a : Bool} {f : EventFault} {result : Result Bool EventFault} → SoFar kind keeps sees shown part numbers n old m i a mid k → IsNext kind (engine_network shown mid) (part mid.plan) (numbers mid.plan) (n mid.plan) i (Some j) → DoesPart kind keeps sees shown mid k (λ p. part p j) (Err f) new l → IsErr result × IsErrAnd result (λ d. d ≡ f) →
      DoesPart kind keeps sees shown old m (λ p. flat_map (part p) (numbers p)) result new l
  step_stops {old} {mid} {new} {m} {k} {l} {i} {j} {a} {f} {result} so_far next does told = record {
    plan = does.plan ∙ so_far.done.plan;
    ends =
        rw (err_is result f told, sym (ap numbers so_far.done.plan), next.turn, so_far.count)
        (number_stops (metered_apply kind keeps sees) (part old.plan) j (n old.plan) (engine_at shown old m) (engine_at shown mid k) (engine_at shown new l) a f (omega (arith, next.found.1, so_far.count)) (passed so_far next next.found.0)
        (subst (λ p. PartEnds (metered_apply kind keeps sees) (engine_at shown mid k) (part p j) (Err f) (engine_at shown new l)) so_far.done.plan does.ends));
  }

  -- all are done
  pub steps_done : {old mid : EngineView P} {m k : M} {i : ℕ} {a : Bool} → SoFar kind keeps sees shown part numbers n old m i a mid k → IsNext kind (engine_network shown mid) (part mid.plan) (numbers mid.plan) (n mid.plan) i None → DoesPart kind keeps sees shown old m (λ p. flat_map (part p) (numbers p)) (Ok a) mid k
  steps_done {old} {mid} {m} {k} {i} {a} so_far next = record {
    plan = so_far.done.plan;
    ends = rw (sym (ap numbers so_far.done.plan), next.turn) (passed so_far next (omega (arith, so_far.within, so_far.count)));
  }

  -- what is a switch stays one
  pub still_switch : {old mid : EngineView P} {m k : M} {i : ℕ} {a : Bool} {s : ℕ} → SoFar kind keeps sees shown part numbers n old m i a mid k → s < length old.plan.switches → s < length mid.plan.switches
  still_switch {old} {mid} {m} {k} {i} {a} {s} so_far inside = subst (λ (p : Plan). s < length p.switches) (sym so_far.done.plan) inside

-- what the walks of a round cite
pub ruleset engine_parts = (none_yet, step_done, step_stops, steps_done, still_switch)
