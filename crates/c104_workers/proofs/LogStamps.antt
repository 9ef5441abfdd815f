-- The stamps and the order of a run's events: first what had been done before, each with its number for a ticket, and then what
-- was done through seats, with the tickets of the log.
use Rattle.{c104_event.specs.declared.events.Event.Event, c104_node.specs.{Traces.{Deed as Kept, seatless}, declared.stamps.Stamp.Stamp}}
use Rattle.{c104_plan.specs.Plans.Plan, c104_run.specs.{EventDeeds.event_deeds, EventPlaces.event_place, Runs.{AreBehind, AreInOrder}}}
use Rattle.{c104_run.specs.Runs.run_deeds, c104_switch.specs.Actions.Reply, c104_tickets.specs.Tickets.AreNumbered}
use Rattle.{c104_tickets.specs.declared.views.Done.Done, c104_turns.{proofs.LogEntries.AreStamped, specs.{Calls.is_own, Logs.done_pair}}}
use Rattle.{c104_turns.specs.Logs.{done_stamp, kept_own, log_stamps, own_of, stamp_or}, std.proofs.Common.{Bool, List, Some, [], ap}}
use Rattle.std.proofs.Common.{append_assoc, arith, false, inl, length, map, nat_lt, refl, slice_get, subst, suc, sym, true, ℕ, ◌++◌, ◌+◌}
use Rattle.std.{proofs.{Common.{◌-◌, ◌<◌, ◌∙◌, ◌∷◌, ◌≡◌, ◌≤◌}, lemmas.Bool.Decides.nat_tests}, specs.Prelude.if◌then◌else◌}

-- tickets rise, from this one on
abbrev pub AreLate : ℕ → List Done → Type 0
AreLate first [] = Unit {0}
AreLate first (d ∷ ds) = (first ≤ d.ticket) × AreLate (suc d.ticket) ds

sooner : (first later : ℕ) (ds : List Done) → first ≤ later → AreLate later ds → AreLate first ds
sooner first later [] before late = tt
sooner first later (d ∷ ds) before late = (omega (arith, before, late.0), late.1)

kept_late : (first : ℕ) (b : Bool) (d : Done) (ds : List Done) → d.ticket ≡ first → AreLate (suc first) ds → AreLate first (kept_own b d ds)
kept_late first true d ds is late = (omega (arith, is), subst (λ t. AreLate (suc t) ds) (sym is) late)
kept_late first false d ds is late = sooner first (suc first) ds (omega arith) late

pub own_late : (first : ℕ) (log : List Done) → AreNumbered first log → AreLate first (own_of log)
own_late first [] numbered = tt
own_late first (d ∷ ds) numbered = kept_late first (is_own d) d (own_of ds) numbered.0 (own_late (suc first) ds numbered.1)

-- the stamps of what had been done before, and of what was done then
pub stamps_before : (count : ℕ) (ds : List Done) (n : ℕ) → n < count → log_stamps count ds n ≡ seatless n
stamps_before count ds n below = let is : nat_lt n count ≡ true = grind (arith, nat_tests, below) in rw is refl

stamps_there : (count : ℕ) (ds : List Done) (i : ℕ) (d : Done) → slice_get ds i ≡ Some d → log_stamps count ds (count + i) ≡ done_stamp d
stamps_there count ds i d at =
    let past : nat_lt (count + i) count ≡ false = grind (arith, nat_tests) in
    let back : (count + i) - count ≡ i = omega arith in
    ap (λ b. if b then seatless (count + i) else stamp_or (count + i) (slice_get ds ((count + i) - count))) past
    ∙ ap (λ j. stamp_or (count + i) (slice_get ds j)) back ∙ ap (stamp_or (count + i)) at

stamped_from : (stamps : ℕ → Stamp) (n : ℕ) (ds : List Done)
    → ((i : ℕ) (d : Done) → slice_get ds i ≡ Some d → stamps (n + i) ≡ done_stamp d) → AreStamped stamps n ds
stamped_from stamps n [] there = tt
stamped_from stamps n (d ∷ ds) there =
    let none : n ≡ n + 0 = omega arith in (
      ap stamps none ∙ there 0 d refl,
      stamped_from stamps (suc n) ds (λ i e at. let next : suc n + i ≡ n + suc i = omega arith in ap stamps next ∙ there (suc i) e at),
    )

pub log_stamped : (count : ℕ) (ds : List Done) → AreStamped (log_stamps count ds) count ds
log_stamped count ds = stamped_from (log_stamps count ds) count ds (stamps_there count ds)

module _ (plan : Plan) where
  -- the entries of a run, and of one behind it
  pub run_append : (stamps : ℕ → Stamp) (n : ℕ) (events more : List (Event × Reply))
      → run_deeds plan stamps n (events ++ more) ≡ run_deeds plan stamps n events ++ run_deeds plan stamps (n + length events) more
  run_append stamps n [] more = let none : n ≡ n + 0 = omega arith in ap (λ m. run_deeds plan stamps m more) none
  run_append stamps n (e ∷ events) more =
      let here : List Kept = event_deeds plan (stamps n) e.0 e.1 in
      let further : suc n + length events ≡ n + suc (length events) = omega arith in
      ap (λ ds. here ++ ds)
      (run_append stamps (suc n) events more ∙ ap (λ m. run_deeds plan stamps (suc n) events ++ run_deeds plan stamps m more) further)
      ∙ sym (append_assoc here (run_deeds plan stamps (suc n) events) (run_deeds plan stamps (n + suc (length events)) more))

  -- where numbers have the same stamps, events have the same entries
  pub same_deeds : (stamps others : ℕ → Stamp) (n count : ℕ) (events : List (Event × Reply)) → n + length events ≡ count
      → ((i : ℕ) → i < count → stamps i ≡ others i) → run_deeds plan stamps n events ≡ run_deeds plan others n events
  same_deeds stamps others n count [] long same = refl
  same_deeds stamps others n count (e ∷ events) long same =
      ap (λ s. event_deeds plan s e.0 e.1 ++ run_deeds plan stamps (suc n) events) (same n (omega (arith, long)))
      ∙ ap (λ ds. event_deeds plan (others n) e.0 e.1 ++ ds) (same_deeds stamps others (suc n) count events (omega (arith, long)) same)

  module _ (stamps : ℕ → Stamp) where
    ticket_is : (n t : ℕ) (s : Stamp) → stamps n ≡ s → t < s.ticket → t < (stamps n).ticket
    ticket_is n t s is before = subst (λ u. t < u.ticket) (sym is) before

    behind_late : (ticket place n : ℕ) (ds : List Done) → AreStamped stamps n ds → AreLate (suc ticket) ds
        → AreBehind plan stamps ticket place n (map done_pair ds)
    behind_late ticket place n [] stamped late = tt
    behind_late ticket place n (d ∷ ds) stamped late = (
      inl (ticket_is n ticket (done_stamp d) stamped.0 (omega (arith, late.0))),
      behind_late ticket place (suc n) ds stamped.1 (sooner (suc ticket) (suc d.ticket) ds (omega (arith, late.0)) late.1),
    )

    order_late : (first n : ℕ) (ds : List Done) → AreStamped stamps n ds → AreLate first ds → AreInOrder plan stamps n (map done_pair ds)
    order_late first n [] stamped late = tt
    order_late first n (d ∷ ds) stamped late = (
      subst (λ s. AreBehind plan stamps s.ticket (event_place plan d.deed.event) (suc n) (map done_pair ds)) (sym stamped.0)
          (behind_late d.ticket (event_place plan d.deed.event) (suc n) ds stamped.1 late.1),
      order_late (suc d.ticket) (suc n) ds stamped.1 late.1,
    )

    module _ (count : ℕ) (ds : List Done) (first : (i : ℕ) → i < count → stamps i ≡ seatless i) (stamped : AreStamped stamps count ds)
        (late : AreLate count ds) where
      behind_all : (ticket place n : ℕ) (events : List (Event × Reply)) → ticket < n → n + length events ≡ count
          → AreBehind plan stamps ticket place n (events ++ map done_pair ds)
      behind_all ticket place n [] before long =
          let there : n ≡ count = omega (arith, long) in
          subst (λ m. AreBehind plan stamps ticket place m (map done_pair ds)) (sym there)
          (behind_late ticket place count ds stamped (sooner (suc ticket) count ds (omega (arith, before, there)) late))
      behind_all ticket place n (e ∷ events) before long = (
        inl (ticket_is n ticket (seatless n) (first n (omega (arith, long))) before),
        behind_all ticket place (suc n) events (omega (arith, before)) (omega (arith, long)),
      )

      -- the events of such a run stand in the order of their tickets
      pub order_all : (n : ℕ) (events : List (Event × Reply)) → n + length events ≡ count
          → AreInOrder plan stamps n (events ++ map done_pair ds)
      order_all n [] long =
          let there : n ≡ count = omega (arith, long) in
          subst (λ m. AreInOrder plan stamps m (map done_pair ds)) (sym there) (order_late count count ds stamped late)
      order_all n (e ∷ events) long = (
        subst (λ s. AreBehind plan stamps s.ticket (event_place plan e.0) (suc n) (events ++ map done_pair ds))
            (sym (first n (omega (arith, long))))
            (behind_all n (event_place plan e.0) (suc n) events (omega arith) (omega (arith, long))),
        order_all (suc n) events (omega (arith, long)),
      )
