-- What an answer to `settle` says is so: the rounds that it counts are done, each of them changed something, and the network is
-- left as the answer tells.
use Rattle.{c104_deadlock.proofs.RecordedRounds.starts_stay, c104_event.specs.declared.{events.Event.Event, faults.EventFault.EventFault}}
use Rattle.{c104_plan.specs.Plans.{IsPlan, Plan}, c104_rows.{proofs.StillNets.still_where, specs.Standing.is_still}}
use Rattle.c104_run.{proofs.{RecordedRuns.{record_kept, record_plan}, RoundRuns.{ends_keep, run_append, run_from}}, specs.EventRuns.Outcome}
use Rattle.c104_run.specs.{EventRuns.{run_events, unless_fault}, HandedWords.{round_with, rounds_with}, NetRecords.{IsNetRecord, NetRecord}}
use Rattle.{c104_run.specs.{RecordedRuns.record_apply, declared.words.Words.Words}, c104_script.specs.Script.read_script_line}
use Rattle.c104_script.specs.declared.{answers.{Answer.Answer, Settled.Settled}, places.Request.Request}
use Rattle.c104_session.proofs.{FurtherRounds.{few_left, still_run, unchanged_still}, QuietNets.quiet_where, SettledRounds.moving_left}
use Rattle.c104_session.specs.Settling.{ChangesNothing, IsAfterRounds, SettlesTo, after_round, after_rounds, is_quiet, rest_within}
use Rattle.c104_session.specs.{Settling.{rounds_at_most, rounds_to_rest, settle_answer, settle_outcome, settled_at}, Shown.answer_of_read}
use Rattle.{c104_session.specs.{Shown.line_answer, declared.session.Session.Session}, std.proofs.Common.{Bool, Err, IfOk, List, Ok, Option}}
use Rattle.std.proofs.Common.{Result, Some, ap, arith, false, if◌then◌else◌, inl, nat_lt, refl, subst, suc, sym, true, zero, ℕ, ◌<◌, ◌∙◌}
use Rattle.std.proofs.{Common.{◌≡◌, ◌≤◌}, lemmas.Bool.Decides.nat_tests}

-- what the type of a network keeps
abbrev pub Kept : NetRecord → Type 0
Kept net = IsPlan net.network.plan × IsNetRecord net

event_keeps : (net : NetRecord) (e : Event) → Kept net → Kept (record_apply net e).1
event_keeps net e is = (subst IsPlan (sym (record_plan net e)) is.0, record_kept net e is.0 is.1)

pub run_keeps : (net after : NetRecord) (events : List Event) → run_events record_apply net events ≡ (Ok tt, after) → Kept net
    → Kept after
run_keeps net after events run is = ends_keep record_apply Kept event_keeps net after events (Ok tt) is (inl (sym run))

changes : (net : NetRecord) → Kept net → is_still net.network ≡ false → ChangesNothing net → ⊥
changes net kept is none = cc (sym (unchanged_still net (few_left net kept.0 kept.1) none) ∙ is)

-- the first of some rounds is done, or refused
pub first_done : (net next : NetRecord) (n : ℕ) → after_round net ≡ (Ok tt, next) → after_rounds net (suc n) ≡ after_rounds next n
first_done net next n run =
    run_from record_apply net next (round_with Words.Zero net.network.plan) (rounds_with Words.Zero net.network.plan n) run
    ∙ ap (λ (p : Plan). run_events record_apply next (rounds_with Words.Zero p n))
    (sym (starts_stay net next (round_with Words.Zero net.network.plan) (Ok tt) (inl (sym run))).0)

pub first_refused : (net after : NetRecord) (n : ℕ) (f : EventFault) → after_round net ≡ (Err f, after)
    → after_rounds net (suc n) ≡ (Err f, after)
first_refused net after n f run =
    run_append record_apply (round_with Words.Zero net.network.plan) (rounds_with Words.Zero net.network.plan n) net
    ∙ ap (λ (o : Outcome NetRecord). unless_fault o.0 o.1 (λ next.
    run_events record_apply next (rounds_with Words.Zero net.network.plan n))) run

-- each of n rounds changes something
abbrev pub Moved : NetRecord → ℕ → Type 0
Moved net n = (i : ℕ) → i < n → ChangesNothing (after_rounds net i).1 → ⊥

none_moved : (net : NetRecord) → Moved net 0
none_moved net i less = absurd (omega (arith, less))

one_moved : (net next : NetRecord) (n : ℕ) → (ChangesNothing net → ⊥) → after_round net ≡ (Ok tt, next) → Moved next n
    → Moved net (suc n)
one_moved net next n moves run later zero less = moves
one_moved net next n moves run later (suc i) less =
    let within : i < n = omega (arith, less) in
    λ none. later i within (subst (λ (o : Outcome NetRecord). ChangesNothing o.1) (first_done net next i run) none)

-- what at most m rounds come to
abbrev Came : ℕ → ℕ → NetRecord → Outcome NetRecord → Type 0
Came m n net (Ok u, after) = Moved net n × (n < m → is_still after.network ≡ true)
Came m n net (Err f, after) =
    (k : ℕ) × (mid : NetRecord) × (k < m) × (after_rounds net k ≡ (Ok tt, mid)) × Moved net k × (after_round mid ≡ (Err f, after))

none_came : (m : ℕ) (net : NetRecord) → (0 < m → is_still net.network ≡ true) → Came m 0 net (after_rounds net 0)
none_came m net still = (none_moved net, still)

on_came : (m n : ℕ) (net next : NetRecord) → (ChangesNothing net → ⊥) → after_round net ≡ (Ok tt, next) → (o : Outcome NetRecord)
    → Came m n next o
    → Came (suc m) (suc n) net o
on_came m n net next moves run (Ok u, after) came =
    (one_moved net next n moves run came.0, λ less. (let within : n < m = omega (arith, less) in came.1 within))
on_came m n net next moves run (Err f, after) came =
    let within = came.2 in (
      suc came.0,
      came.1,
      omega (arith, within),
      first_done net next came.0 run ∙ came.3,
      one_moved net next came.0 moves run came.4,
      came.5,
    )

module _ (m : ℕ) (net : NetRecord) (kept : Kept net)
    (each : (next : NetRecord) → Kept next → Came m (rest_within m next) next (after_rounds next (rest_within m next))) where
  abbrev later : NetRecord
  later = (after_round net).1

  by_round : is_still net.network ≡ false → (o : Outcome NetRecord) → after_round net ≡ o
      → Came (suc m) (suc (rest_within m o.1)) net (after_rounds net (suc (rest_within m o.1)))
  by_round is (Ok u, next) run =
      subst (Came (suc m) (suc (rest_within m next)) net) (sym (first_done net next (rest_within m next) run))
      (on_came m (rest_within m next) net next (changes net kept is) run (after_rounds next (rest_within m next))
      (each next (run_keeps net next (round_with Words.Zero net.network.plan) run kept)))
  by_round is (Err f, after) run =
      let less : 0 < suc m = omega arith in
      subst (Came (suc m) (suc (rest_within m after)) net) (sym (first_refused net after (rest_within m after) f run))
      (0, net, less, refl, none_moved net, run)

  by_test : (b : Bool) → is_still net.network ≡ b
      → Came (suc m) (rest_within (suc m) net) net (after_rounds net (rest_within (suc m) net))
  by_test true is =
      subst (λ n. Came (suc m) n net (after_rounds net n))
      (sym (ap (λ b. if◌then◌else◌ {A = ℕ} b 0 (suc (rest_within m later))) is)) (none_came (suc m) net (λ less. is))
  by_test false is =
      subst (λ n. Came (suc m) n net (after_rounds net n)) (sym (moving_left m net is)) (by_round is (after_round net) refl)

all_came : (m : ℕ) (net : NetRecord) → Kept net → Came m (rest_within m net) net (after_rounds net (rest_within m net))
all_came zero net kept = none_came 0 net (λ less. absurd (omega (arith, less)))
all_came (suc m) net kept = by_test m net kept (λ next is. all_came m next is) (is_still net.network) refl

one_below : (b : Bool) (n m : ℕ) → n ≤ m → if◌then◌else◌ {A = ℕ} b 0 (suc n) ≤ suc m
one_below true n m less = omega arith
one_below false n m less = omega (arith, less)

rest_below : (m : ℕ) (net : NetRecord) → rest_within m net ≤ m
rest_below zero net = omega arith
rest_below (suc m) net = one_below (is_still net.network) (rest_within m (after_round net).1) m (rest_below m (after_round net).1)

is_most : (n m : ℕ) → n ≤ m → (n < m → ⊥) → n ≡ m
is_most n m below least = by_test (nat_lt n m) refl
  where
    by_test : (b : Bool) → nat_lt n m ≡ b → n ≡ m
    by_test true is = absurd (least (grind (arith, nat_tests, is)))
    by_test false is = let past : m ≤ n = grind (arith, nat_tests, is) in omega (arith, below, past)

-- how they ended
module _ (old new : NetRecord) (n : ℕ) (after : IsAfterRounds old n new) (kept : Kept new) where
  abbrev at_rest : Settled
  at_rest = if is_quiet new.network then Settled.Done n else Settled.StandsStill n

  ended : n ≤ rounds_at_most old → (n < rounds_at_most old → is_still new.network ≡ true)
      → SettlesTo old (Some (Answer.Settled (settled_at n new.network))) new
  ended below rests = by_still (is_still new.network) refl
    where
      by_quiet : is_still new.network ≡ true → (b : Bool) → is_quiet new.network ≡ b
          → SettlesTo old (Some (Answer.Settled (if◌then◌else◌ {A = Settled} b (Settled.Done n) (Settled.StandsStill n)))) new
      by_quiet stands true is = (after, still_run new stands, (still_where new.network).0 stands, (quiet_where new.network).0 is)
      by_quiet stands false is =
          (after, still_run new stands, ((still_where new.network).0 stands, λ quiet. cc (sym ((quiet_where new.network).1 quiet) ∙ is)))

      by_still : (b : Bool) → is_still new.network ≡ b
          → SettlesTo old (Some (Answer.Settled (if◌then◌else◌ {A = Settled} b at_rest (Settled.Moving n)))) new
      by_still true is = by_quiet is (is_quiet new.network) refl
      by_still false is = (after, is_most n (rounds_at_most old) below (λ less. cc (sym (rests less) ∙ is)), changes new kept is)

module _ (net : NetRecord) (kept : Kept net) where
  abbrev n : ℕ
  n = rounds_to_rest net

  below : n ≤ rounds_at_most net
  below = rest_below (rounds_at_most net) net

  by_end : (o : Outcome NetRecord) → after_rounds net n ≡ o → Came (rounds_at_most net) n net o
      → SettlesTo net (Some (settle_answer n o)) o.1
  by_end (Ok u, new) run came =
      ended net new n (record { most = below; rounds = run; least = came.0 })
      (run_keeps net new (rounds_with Words.Zero net.network.plan n) run kept) below came.1
  by_end (Err f, new) run came =
      let few : came.0 < rounds_at_most net = came.2 in
      let most : came.0 ≤ rounds_at_most net = omega (arith, few) in
      (came.0, came.1, few, record { most = most; rounds = came.3; least = came.4 }, came.5)

  pub settles_to : SettlesTo net (Some (settle_outcome net n).0) (settle_outcome net n).1
  settles_to = by_end (after_rounds net n) refl (all_came (rounds_at_most net) net kept)

-- so is what an answer of a session says
pub line_settles : (session after : Session) (line : List ℕ) (answer : Option Answer)
    → IsPlan session.net.network.plan → IsNetRecord session.net
    → ◌≡◌ {A = Option Answer × Session} (answer, after) (line_answer session line)
    → read_script_line session.net.network.plan session.image line ≡ Ok (Some Request.Settle) → SettlesTo session.net answer after.net
unfolding line_answer
line_settles session after line answer is_plan kept came asks =
    let both = came ∙ ap (answer_of_read session) asks in
    subst (λ (r : Option Answer × Session). SettlesTo session.net r.0 r.1.net) (sym both) (settles_to session.net (is_plan, kept))

pub answer_settles : {E : Type 0} (session after : Session) (line : List ℕ) (result : Result (Option Answer) E)
    → IsPlan session.net.network.plan → IsNetRecord session.net
    → IfOk result (λ answer. ◌≡◌ {A = Option Answer × Session} (answer, after) (line_answer session line))
    → IfOk result (λ answer. read_script_line session.net.network.plan session.image line ≡ Ok (Some Request.Settle)
    → SettlesTo session.net answer after.net)
answer_settles session after line (Ok answer) is_plan kept came = line_settles session after line answer is_plan kept came
answer_settles session after line (Err e) is_plan kept came = tt
