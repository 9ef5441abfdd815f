-- Fair rounds in turn: each goes on by the turns that those before it left, and one that does nothing ends them.
use Rattle.{c104_event.specs.declared.{events.Event.Event, faults.EventFault.EventFault}, c104_plan.specs.Plans.Plan}
use Rattle.c104_run.proofs.{HandedWords.worded_again, IdleRounds.{CountsEvents, Passes, none_done, passes_run, passes_worded}}
use Rattle.c104_run.proofs.{LaterWords.words_after, RoundRuns.{Applied, run_append, run_from}, WordedRounds.{flat_kept, joined}}
use Rattle.c104_run.specs.{EventRuns.{EventsEnd, Outcome, run_events, unless_fault}, FairRounds.{InTurn, SwitchTurns, fair_claims}}
use Rattle.c104_run.specs.FairRounds.{fair_events, fair_round, fairly, in_turn, output_turns, switch_turns, turned_if, turns_of}
use Rattle.c104_run.specs.{HandedWords.{Words, all_worded, worded, words_behind}, NetRecords.{is_done, largest_ticket}}
use Rattle.{c104_switch.specs.declared.actions.ReplyOf.ReplyOf, std.proofs.Common.{Err, List, Ok, [], ap, append-nil, append_assoc, arith}}
use Rattle.std.proofs.Common.{false, inl, inr, length, map, refl, subst, suc, sym, zero, ℕ, ◌++◌, ◌+◌, ◌-◌, ◌<◌, ◌∙◌, ◌∷◌, ◌≡◌, ◌≤◌}
use Rattle.std.specs.List.{range_with_len}

-- claims and arrivals have no word
claims_worded : (words : Words) (t : List SwitchTurns) (n : ℕ) → all_worded words (fair_claims t n) ≡ fair_claims t n
claims_worded words t n =
    flat_kept words (λ s. switch_turns s (turns_of t s)) (λ s. flat_kept words (λ i. output_turns s i (turns_of t s).outputs) (λ i. flat_kept words (λ o. Event.Claim s i o ∷ []) (λ o. refl) (turns_of t s).outputs) (turns_of t s).inputs) (range_with_len 0 n)

map_worded : (words : Words) (xs : List ℕ) → all_worded words (map Event.Drain xs) ≡ map Event.Drain xs
map_worded words [] = refl
map_worded words (x ∷ xs) = ap (λ es. Event.Drain x ∷ es) (map_worded words xs)

again : (words other : Words) (events : List Event) → all_worded words (all_worded other events) ≡ all_worded words events
again words other [] = refl
again words other (e ∷ events) = search (arith, worded_again, again words other events)

pub fair_again : (words other : Words) (t : List SwitchTurns) (plan : Plan) → all_worded words (fair_round other t plan) ≡ fair_round words t plan
fair_again words other t plan =
    joined words _ _ (joined words _ _ (again words other _) (claims_worded words t (length plan.switches))) (map_worded words (range_with_len 0 (length plan.terminals)))

-- states with turns count their events as those without
module _ {S : Type 0} (apply : S → Event → Applied S) (count : S → ℕ) (law : CountsEvents S apply count) where
  turns_stay : (x : InTurn S) (e : Event) → is_done (fairly apply x e).0 ≡ false → (fairly apply x e).1 ≡ x
  turns_stay x e undone = ap (λ n. in_turn n (turned_if (is_done (apply x.state e).0) x.turns e)) (law.stays x.state e undone) ∙ ap (λ b. in_turn x.state (turned_if b x.turns e)) undone

  turns_reword : (x : InTurn S) (w : Words) (e : Event) → fairly apply x e ≡ (Ok ReplyOf.NotReady, x) → fairly apply x (worded w e) ≡ (Ok ReplyOf.NotReady, x)
  turns_reword x w e is =
      let plain : apply x.state e ≡ (Ok ReplyOf.NotReady, x.state) = ap (λ (r : Applied (InTurn S)). (r.0, r.1.state)) is in
      ap (λ (r : Applied S). (r.0, in_turn r.1 (turned_if (is_done r.0) x.turns (worded w e)))) (law.rewords x.state w e plain)

  pub turns_count : CountsEvents (InTurn S) (fairly apply) (λ x. count x.state)
  turns_count = record { counts = λ x e. law.counts x.state e; stays = turns_stay; rewords = turns_reword }

module _ {S : Type 0} (apply : S → Event → Applied S) (plan : Plan) where
  abbrev pub FairStep : InTurn S → Event → Applied (InTurn S)
  FairStep = fairly apply

  abbrev After : Words → ℕ → InTurn S → InTurn S
  After words m x = (run_events FairStep x (fair_events apply words plan m x)).1

  abbrev pub HandedOn : Words → ℕ → Words
  HandedOn words i = words_after words (length plan.switches) i

  -- the state that a run without a fault goes on from
  after_both : (x mid : InTurn S) (es fs : List Event) → run_events FairStep x es ≡ (Ok tt, mid) → (run_events FairStep x (es ++ fs)).1 ≡ (run_events FairStep mid fs).1
  after_both x mid es fs front = ap (λ (r : Outcome (InTurn S)). r.1) (run_from FairStep x mid es fs front)

  -- rounds in two parts
  pub fair_two : (words : Words) (m n : ℕ) (x mid : InTurn S) → run_events FairStep x (fair_events apply words plan m x) ≡ (Ok tt, mid) → fair_events apply words plan (m + n) x ≡ fair_events apply words plan m x ++ fair_events apply (HandedOn words m) plan n mid
  fair_two words zero n x mid front =
      let same : zero + n ≡ n = omega arith in
      let here : x ≡ mid = ap (λ (r : Outcome (InTurn S)). r.1) front in
      ap (λ k. fair_events apply words plan k x) same ∙ ap (fair_events apply words plan n) here
  fair_two words (suc m) n x mid front =
      let same : suc m + n ≡ suc (m + n) = omega arith in
      let now : List Event = fair_round words x.turns plan in
      let handed : Words = words_behind words (length plan.switches) in
      let next : InTurn S = (run_events FairStep x now).1 in
      let first = first_ends x mid now (fair_events apply handed plan m next) front in
      let rest : run_events FairStep next (fair_events apply handed plan m next) ≡ (Ok tt, mid) = sym (run_from FairStep x next now (fair_events apply handed plan m next) first) ∙ front in
      ap (λ k. fair_events apply words plan k x) same ∙ ap (λ es. now ++ es) (fair_two handed m n next mid rest)
      ∙ sym (append_assoc now (fair_events apply handed plan m next) (fair_events apply (HandedOn handed m) plan n mid))
    where
      by_outcome : (r : Outcome (InTurn S)) (more : List Event) (mid : InTurn S) → unless_fault r.0 r.1 (λ n. run_events FairStep n more) ≡ (Ok tt, mid) → r ≡ (Ok tt, r.1)
      by_outcome (Ok u, s) more mid is = refl
      by_outcome (Err f, s) more mid is = absurd (cc (ap (λ (o : Outcome (InTurn S)). o.0) is))

      first_ends : (x mid : InTurn S) (es fs : List Event) → run_events FairStep x (es ++ fs) ≡ (Ok tt, mid) → run_events FairStep x es ≡ (Ok tt, (run_events FairStep x es).1)
      first_ends x mid es fs is = by_outcome (run_events FairStep x es) fs mid (sym (run_append FairStep es fs x) ∙ is)

  -- some rounds, the next one, and those after it
  pub fair_from : (words : Words) (i n : ℕ) (x mid : InTurn S) → i < n → run_events FairStep x (fair_events apply words plan i x) ≡ (Ok tt, mid) →
      fair_events apply words plan n x ≡ fair_events apply words plan i x ++ (fair_round (HandedOn words i) mid.turns plan ++ fair_events apply (words_behind (HandedOn words i) (length plan.switches)) plan (n - suc i) (run_events FairStep mid (fair_round (HandedOn words i) mid.turns plan)).1)
  fair_from words i n x mid further front = let count : n ≡ i + suc (n - suc i) = omega (arith, further) in ap (λ k. fair_events apply words plan k x) count ∙ fair_two words i (suc (n - suc i)) x mid front

  module _ (words : Words) (start mid after : InTurn S) (i : ℕ) (front : run_events FairStep start (fair_events apply words plan i start) ≡ (Ok tt, mid)) where
    abbrev now : List Event
    now = fair_round (HandedOn words i) mid.turns plan

    -- one more round
    pub fair_taken : run_events FairStep mid now ≡ (Ok tt, after) → run_events FairStep start (fair_events apply words plan (i + 1) start) ≡ (Ok tt, after)
    fair_taken next =
        ap (run_events FairStep start) (fair_two words i 1 start mid front ∙ ap (λ es. fair_events apply words plan i start ++ es) (append-nil now))
        ∙ run_from FairStep start mid (fair_events apply words plan i start) now front ∙ next

    module _ (n : ℕ) (further : i < n) where
      abbrev more : List Event
      more = fair_events apply (words_behind (HandedOn words i) (length plan.switches)) plan (n - suc i) (run_events FairStep mid now).1

      -- a round that ends with a fault, or short
      pub fair_refused : (f : EventFault) → EventsEnd FairStep mid now (Err f) after → EventsEnd FairStep start (fair_events apply words plan n start) (Err f) after
      fair_refused f ends =
          elim ends [
            | inl due ↦ inl (sym (ap (run_events FairStep start) (fair_from words i n start mid further front) ∙ run_from FairStep start mid (fair_events apply words plan i start) (now ++ more) front
                ∙ run_append FairStep now more mid ∙ ap (λ (r : Outcome (InTurn S)). unless_fault r.0 r.1 (λ next. run_events FairStep next more)) (sym due)))
            | inr short ↦ inr (record {
              refused = short.refused;
              front = fair_events apply words plan i start ++ short.front;
              event = short.event;
              rest = short.rest ++ more;
              parts = fair_from words i n start mid further front ∙ ap (λ es. fair_events apply words plan i start ++ (es ++ more)) short.parts ∙ ap (λ es. fair_events apply words plan i start ++ es) (append_assoc short.front (short.event ∷ short.rest) more) ∙ sym (append_assoc (fair_events apply words plan i start) short.front (short.event ∷ (short.rest ++ more)));
              stands = run_from FairStep start mid (fair_events apply words plan i start) short.front front ∙ short.stands;
              wanted = short.wanted;
            })
          ]

      -- a round that did nothing, as the count tells: nor do those behind it
      module _ (count : S → ℕ) (law : CountsEvents S apply count) where
        abbrev Law : CountsEvents (InTurn S) FairStep (λ x. count x.state)
        Law = turns_count apply count law

        rounds_pass : (v : Words) (x : InTurn S) (w : Words) (k : ℕ) → Passes FairStep (λ y. count y.state) Law x (fair_round v x.turns plan) → run_events FairStep x (fair_events apply w plan k x) ≡ (Ok tt, x)
        rounds_pass v x w zero each = refl
        rounds_pass v x w (suc k) each =
            let round : List Event = fair_round w x.turns plan in
            let passes : Passes FairStep (λ y. count y.state) Law x round =
            subst (Passes FairStep (λ y. count y.state) Law x) (fair_again w v x.turns plan)
            (passes_worded FairStep (λ y. count y.state) Law x v w (fair_round v x.turns plan) (subst (Passes FairStep (λ y. count y.state) Law x) (sym (fair_again v v x.turns plan)) each)) in
            let still : run_events FairStep x round ≡ (Ok tt, x) = passes_run FairStep (λ y. count y.state) Law x round passes in
            let next : List Event = fair_events apply (words_behind w (length plan.switches)) plan k (run_events FairStep x round).1 in
            run_from FairStep x x round next still ∙ ap (λ (r : Outcome (InTurn S)). run_events FairStep x (fair_events apply (words_behind w (length plan.switches)) plan k r.1)) still
            ∙ rounds_pass v x (words_behind w (length plan.switches)) k each

        pub fair_idle : EventsEnd FairStep mid now (Ok tt) after → count mid.state < largest_ticket → count after.state ≤ count mid.state → EventsEnd FairStep start (fair_events apply words plan n start) (Ok tt) after
        fair_idle ends few none =
            elim ends [
              | inl due ↦
                  let idle = none_done FairStep (λ y. count y.state) Law now after mid few (sym due) none in
                  let later : Words = words_behind (HandedOn words i) (length plan.switches) in
                  inl (sym (ap (run_events FairStep start) (fair_from words i n start mid further front) ∙ run_from FairStep start mid (fair_events apply words plan i start) (now ++ more) front
                  ∙ run_from FairStep mid after now more (sym due)
                  ∙ ap (λ (r : Outcome (InTurn S)). run_events FairStep after (fair_events apply later plan (n - suc i) r.1)) (sym due)
                  ∙ ap (λ x. run_events FairStep x (fair_events apply later plan (n - suc i) x)) idle.1
                  ∙ rounds_pass (HandedOn words i) mid later (n - suc i) idle.0 ∙ ap (λ x. (Ok tt, x)) (sym idle.1)))
              | inr short ↦ absurd (cc short.refused)
            ]
