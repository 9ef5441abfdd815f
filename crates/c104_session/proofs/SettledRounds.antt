-- Rounds that go on until a network stands still: how many are done so far, and how they end.
use Rattle.c104_deadlock.{proofs.RecordedRounds.starts_stay, specs.{HeaderWork.work_bound, Work.{largest_work, told_work}}}
use Rattle.{c104_event.specs.declared.{events.Event.Event, faults.EventFault.EventFault}, c104_plan.specs.Plans.Plan}
use Rattle.{c104_rows.specs.Standing.is_still, c104_run.proofs.{LaterWords.words_after, RoundRuns.{run_append, run_from}}}
use Rattle.c104_run.{proofs.WordedRounds.{words_from, words_taken}, specs.EventRuns.{Outcome, run_events, unless_fault}}
use Rattle.c104_run.specs.{HandedWords.{round_with, rounds_with, words_behind}, NetRecords.NetRecord, RecordedRuns.record_apply}
use Rattle.{c104_run.specs.declared.words.Words.Words, c104_script.specs.{Script.most_rounds, declared.answers.Answer.Answer}}
use Rattle.{c104_script.specs.declared.answers.Settled.Settled, c104_session.proofs.{Leavings.rounds_left, RoundLeavings.later_left}}
use Rattle.c104_session.specs.{Driven.Driving, FurtherRounds.{DoesFurther, DrivesFurther, Settles}, Leavings.LeavesRounds}
use Rattle.c104_session.specs.Settling.{after_round, after_rounds, largest_count, rest_within, rounds_at_most, rounds_to_rest}
use Rattle.{c104_session.specs.Settling.{settle_answer, settle_outcome, settled_at}, std.proofs.Common.{Err, List, Ok, Result, ap, arith}}
use Rattle.std.proofs.Common.{false, if◌then◌else◌, inl, inr, length, max, min, refl, subst, suc, sym, true, zero, ℕ, ◌++◌, ◌+◌, ◌-◌, ◌<◌}
use Rattle.std.proofs.Common.{◌∙◌, ◌≡◌, ◌≤◌, ◌⊎◌}

-- there are some rounds at most
some_left : (work : ℕ) → 0 < min largest_count (max most_rounds (work + 1))
some_left work = omega arith

some_rounds : (net : NetRecord) → 0 < rounds_at_most net
unfolding rounds_at_most
some_rounds net = some_left (work_bound net.network.plan net.network.nodes)

-- they follow from the work that is told
most_of : (work told enough : ℕ) → told ≡ told_work work → enough ≡ min (told + 1) largest_work
    → min (max enough most_rounds) largest_count ≡ min largest_count (max most_rounds (work + 1))
most_of work told enough is more = omega (arith, is, more)

pub most_told : (net : NetRecord) (told enough : ℕ) → told ≡ told_work (work_bound net.network.plan net.network.nodes)
    → enough ≡ min (told + 1) largest_work → min (max enough most_rounds) largest_count ≡ rounds_at_most net
unfolding rounds_at_most
most_told net told enough is more = most_of (work_bound net.network.plan net.network.nodes) told enough is more

-- word 0 is behind word 0
pub zero_words : (switches i : ℕ) → words_after Words.Zero switches i ≡ Words.Zero
zero_words switches zero = refl
zero_words switches (suc i) = zero_words switches i

-- how many rounds are left where the network stands still, and where it doesn't
still_left : (n : ℕ) (net : NetRecord) → is_still net.network ≡ true → rest_within n net ≡ 0
still_left zero net is = refl
still_left (suc n) net is = ap (λ b. if◌then◌else◌ {A = ℕ} b 0 (suc (rest_within n (after_round net).1))) is

pub moving_left : (n : ℕ) (net : NetRecord) → is_still net.network ≡ false
    → rest_within (suc n) net ≡ suc (rest_within n (after_round net).1)
moving_left n net is = ap (λ b. if◌then◌else◌ {A = ℕ} b 0 (suc (rest_within n (after_round net).1))) is

module _ {D : Type 0} (drives : Driving D) where
  -- i rounds are done, by a driver too
  pub record Settling (start : NetRecord) (begun : D) (i : ℕ) (net : NetRecord) (d : D) : Type 0 where
    pub most : i ≤ rounds_at_most start
    pub run : after_rounds start i ≡ (Ok tt, net)
    pub same : net.network.plan ≡ start.network.plan
    pub rest : (n : ℕ) → rest_within (i + n) start ≡ i + rest_within n net
    pub drove : (n : ℕ) → drives.rounds begun start Words.Zero (i + n) ≡ drives.rounds d net Words.Zero n
    pub driven : (i ≡ 0) ⊎ (drives.rounds begun start Words.Zero i ≡ d)

  none_first : (n : ℕ) → 0 + n ≡ n
  none_first n = omega arith

  pub settling_first : (start : NetRecord) (begun : D) → Settling start begun 0 start begun
  settling_first start begun = record {
    most = omega arith;
    run = refl;
    same = refl;
    rest = λ n. ap (λ m. rest_within m start) (none_first n) ∙ sym (none_first (rest_within n start));
    drove = λ n. ap (drives.rounds begun start Words.Zero) (none_first n);
    driven = inl refl;
  }

  module _ (start : NetRecord) (begun : D) (i : ℕ) (net after : NetRecord) (d e : D) (so : Settling start begun i net d)
      (further : i < rounds_at_most start) where
    abbrev plan : Plan
    plan = start.network.plan

    abbrev Handed : Words
    Handed = words_after Words.Zero (length plan.switches) i

    -- the next round, as one of the start
    started : (o : Outcome NetRecord) → after_round net ≡ o → run_events record_apply net (round_with Handed plan) ≡ o
    started o is =
        ap (λ (w : Words). run_events record_apply net (round_with w plan)) (zero_words (length plan.switches) i)
        ∙ ap (λ (p : Plan). run_events record_apply net (round_with Words.Zero p)) (sym so.same) ∙ is

    abbrev left : ℕ
    left = rounds_at_most start - suc i

    left_is : rounds_at_most start ≡ i + suc left
    left_is = omega (arith, further)

    left_after : rounds_to_rest start ≡ i + rest_within (suc left) net
    left_after = ap (λ m. rest_within m start) left_is ∙ so.rest (suc left)

    -- it was done
    module _ (does : DoesFurther net (Ok true) after) (drove : DrivesFurther drives d net (Ok true) e after) where
      rest_next : (n : ℕ) → rest_within ((i + 1) + n) start ≡ (i + 1) + rest_within n after
      rest_next n =
          let one : (i + 1) + n ≡ i + suc n = omega arith in
          let back : i + suc (rest_within n after) ≡ (i + 1) + rest_within n after = omega arith in
          ap (λ m. rest_within m start) one ∙ so.rest (suc n) ∙ ap (λ m. i + m) (moving_left n net does.0)
          ∙ ap (λ (o : Outcome NetRecord). i + suc (rest_within n o.1)) does.1 ∙ back

      drove_next : (n : ℕ) → drives.rounds begun start Words.Zero ((i + 1) + n) ≡ drives.rounds e after Words.Zero n
      drove_next n =
          let one : (i + 1) + n ≡ i + suc n = omega arith in
          ap (drives.rounds begun start Words.Zero) one ∙ so.drove (suc n) ∙ drove.1 n

      pub settling_next : Settling start begun (i + 1) after e
      settling_next = record {
        most = omega (arith, further);
        run = words_taken record_apply plan Words.Zero start net after i so.run (started (Ok tt, after) does.1);
        same = (starts_stay net after (round_with Words.Zero net.network.plan) (Ok tt) (inl (sym does.1))).0 ∙ so.same;
        rest = rest_next;
        drove = drove_next;
        driven = inr (so.drove 1 ∙ drove.0);
      }

    -- the network stood still
    module _ (does : DoesFurther net (Ok false) after) where
      still_count : i ≡ rounds_to_rest start
      still_count = let none : i + 0 ≡ i = omega arith in sym (left_after ∙ ap (λ m. i + m) (still_left (suc left) net does.0) ∙ none)

      pub still_settles : Settles start (Ok i) after
      still_settles = (
        still_count,
        so.run ∙ ap (λ (r : NetRecord). (Ok tt, r)) (sym does.1),
        λ less. ap (λ (r : NetRecord). is_still r.network) does.1 ∙ does.0,
      )

      pub still_drives : DrivesFurther drives d net (Ok false) e after → e ≡ drives.rounds begun start Words.Zero (rounds_to_rest start)
      still_drives drove =
          let none : i + 0 ≡ i = omega arith in
          drove.1 ∙ sym drove.0 ∙ sym (so.drove 0) ∙ ap (drives.rounds begun start Words.Zero) (none ∙ still_count)

    -- an event was refused, or there was no memory
    module _ (f : EventFault) (does : DoesFurther net (Err f) after) where
      abbrev more : ℕ
      more = rest_within left (after_round net).1

      more_count : rounds_to_rest start ≡ i + suc more
      more_count = left_after ∙ ap (λ m. i + m) (moving_left left net does.0)

      before : i < rounds_to_rest start
      before = let is = more_count in omega (arith, is)

      refused_run : after_round net ≡ (Err f, after) → after_rounds start (rounds_to_rest start) ≡ (Err f, after)
      refused_run run =
          let n : ℕ = rounds_to_rest start in
          let now : List Event = round_with Handed plan in
          let behind : List Event = rounds_with (words_behind Handed (length plan.switches)) plan (n - suc i) in
          ap (run_events record_apply start) (words_from plan Words.Zero i n before)
          ∙ run_from record_apply start net (rounds_with Words.Zero plan i) (now ++ behind) so.run ∙ run_append record_apply now behind net
          ∙ ap (λ (o : Outcome NetRecord). unless_fault o.0 o.1 (λ next. run_events record_apply next behind)) (started (Err f, after) run)

      pub refused_settles : Settles start (Err f) after
      refused_settles = by_end does.1
        where
          by_end : (after_round net ≡ (Err f, after)) ⊎ ((f ≡ EventFault.NoMemory) × LeavesRounds Words.Zero net 1 after)
              → Settles start (Err f) after
          by_end (inl run) = inl (refused_run run)
          by_end (inr short) = inr (
            short.0,
            later_left Words.Zero Words.Zero start net after i (rounds_to_rest start) before so.run so.same
                (sym (zero_words (length plan.switches) i)) short.1,
          )

      pub refused_drives : DrivesFurther drives d net (Err f) e after
          → (e ≡ drives.rounds begun start Words.Zero (rounds_to_rest start))
          ⊎ (◌≡◌ {A = Result ℕ EventFault} (Err f) (Err EventFault.NoMemory))
      refused_drives (inl each) = inl (sym (ap (drives.rounds begun start Words.Zero) more_count ∙ so.drove (suc more) ∙ each more))
      refused_drives (inr none) = inr (ap Err none)

  -- as many rounds are done as there may be
  module _ (start : NetRecord) (begun : D) (i : ℕ) (net : NetRecord) (d : D) (so : Settling start begun i net d)
      (past : rounds_at_most start ≤ i) where
    all_done : rounds_at_most start ≡ i
    all_done = let most = so.most in omega (arith, most, past)

    all_count : i ≡ rounds_to_rest start
    all_count =
        let none : i + 0 ≡ i = omega arith in
        sym (ap (λ m. rest_within m start) (all_done ∙ sym none) ∙ so.rest 0 ∙ none)

    pub most_settles : Settles start (Ok (rounds_at_most start)) net
    most_settles = (
      all_done ∙ all_count,
      ap (after_rounds start) all_done ∙ so.run,
      λ less. absurd (omega (arith, less)),
    )

    pub most_drives : d ≡ drives.rounds begun start Words.Zero (rounds_to_rest start)
    most_drives = by_some so.driven
      where
        by_some : (i ≡ 0) ⊎ (drives.rounds begun start Words.Zero i ≡ d) → d ≡ drives.rounds begun start Words.Zero (rounds_to_rest start)
        by_some (inl none) = let some = some_rounds start in absurd (omega (arith, none, past, some))
        by_some (inr is) = sym is ∙ ap (drives.rounds begun start Words.Zero) all_count

-- what answers them
pub settled_due : (net after : NetRecord) (n : ℕ) → Settles net (Ok n) after
    → ◌≡◌ {A = Answer × NetRecord} (Answer.Settled (settled_at n after.network), after) (settle_outcome net (rounds_to_rest net))
settled_due net after n came = sym (ap (settle_outcome net) (sym came.0) ∙ ap (λ (o : Outcome NetRecord). (settle_answer n o, o.1)) came.1)

pub refused_due : (net after : NetRecord) (f : EventFault) → Settles net (Err f) after → (f ≡ EventFault.NoMemory → ⊥)
    → ◌≡◌ {A = Answer × NetRecord} (Answer.Refused f, after) (settle_outcome net (rounds_to_rest net))
refused_due net after f (inl run) other = sym (ap (λ (o : Outcome NetRecord). (settle_answer (rounds_to_rest net) o, o.1)) run)
refused_due net after f (inr none) other = absurd (other none.0)

pub unsettled_left : (net after : NetRecord) → Settles net (Err EventFault.NoMemory) after
    → LeavesRounds Words.Zero net (rounds_to_rest net) after
unsettled_left net after (inl run) = rounds_left Words.Zero net (rounds_to_rest net) (Err EventFault.NoMemory) after (inl (sym run))
unsettled_left net after (inr short) = short.1
