-- A network is accepted exactly where no test refuses it.
use Rattle.c104_check.specs.Checks.{DeletesInside, HasLarge, IsCause, IsFirstRefused, IsMixed, IsPlain, IsRandomInside, Meet, NoneLarge}
use Rattle.c104_check.specs.{Checks.{NoneMeet, Shown}, Routes.{IsAccepted, IsRandomIn, IsRandomized, Lands, LandsBehind, Owns, Routes}}
use Rattle.c104_check.specs.{Routes.{SwitchPort, TerminalLands, header_count, most_hops, owner, to_port}, Trails.IsNetwork, Walks.WalkFault}
use Rattle.c104_check.specs.declared.{acceptance.Accepted.Accepted, faults.CheckFault.CheckFault}
use Rattle.{c104_plan.specs.declared.ports.Port.Port, c104_regs.specs.Settings.header_length, std.proofs.Common.{Bool, IfErr, IfOk}}
use Rattle.std.proofs.Common.{MatchResult, None, Option, Result, Some, arith, false, inl, inr, refl, sym, true, ℕ, ◌<◌, ◌∙◌, ◌≡◌, ◌≢◌}
use Rattle.std.proofs.lemmas.Bool.{cases_Bool, cases_eq, cases_lt, cases_order}

module _ (routes : Routes) (net : IsNetwork routes) where
  apart_of : NoneMeet routes → (t u h : ℕ) → Owns routes t h → Owns routes u h → t ≡ u
  apart_of none t u h a b = elim (cases_order t u) [
    | inl same ↦ same
    | inr (inl below) ↦ absurd (none t u below (h, a, b))
    | inr (inr above) ↦ absurd (none u t above (h, b, a))
  ]

  small_of : NoneLarge routes → (t h : ℕ) → Owns routes t h → h < header_count routes
  small_of none t h owns = elim (cases_lt h (header_count routes)) [ inl below ↦ below | inr large ↦ absurd (none t (h, owns, large)) ]

  length_of : (a b : ℕ) → (a ≢ b → ⊥) → a ≡ b
  length_of a b not = elim (cases_eq a b) [ inl same ↦ same | inr differ ↦ absurd (not differ) ]

  false_of : (b : Bool) → (b ≡ true → ⊥) → b ≡ false
  false_of b not = elim (cases_Bool b) [ inl is ↦ absurd (not is) | inr is ↦ is ]

  outside_of : (p : SwitchPort) → IsRandomized routes p → (IsRandomInside routes p → ⊥) → (o : Option Port) → routes.peer (to_port p) ≡ o → (t : ℕ) × (routes.peer (to_port p) ≡ Some (Port.Terminal t))
  outside_of p random none o at = search arith

  pub accepted_of : IsPlain routes → ((t : ℕ) → TerminalLands routes t) → IsAccepted routes
  accepted_of plain land = record {
    apart = apart_of plain.meet;
    small = small_of plain.large;
    one_length = λ p other x wired set. length_of (header_length x) routes.header (λ differ. plain.mixed p (other, x, wired, set, differ));
    none_deleted = λ p q x wired set. false_of x.delete_header (λ deletes. plain.deletes p (q, x, wired, set, deletes));
    random_outside = λ p random. outside_of p random (plain.random p) (routes.peer (to_port p)) refl;
    entries = land;
  }

  no_pair : IsAccepted routes → (t u : ℕ) → t < u → Meet routes t u → ⊥
  no_pair are t u below (h, a, b) = let same = are.apart t u h a b in absurd (omega (arith, below, same))

  no_large : IsAccepted routes → (t : ℕ) → HasLarge routes t → ⊥
  no_large are t (h, owns, large) = let below = are.small t h owns in absurd (omega (arith, below, large))

  no_mixed : IsAccepted routes → (p : SwitchPort) → IsMixed routes p → ⊥
  no_mixed are p (other, x, wired, set, differ) = differ (are.one_length p other x wired set)

  no_deleting : IsAccepted routes → (p : SwitchPort) → DeletesInside routes p → ⊥
  no_deleting are p (q, x, wired, set, deletes) = let not = are.none_deleted p q x wired set in let clash : true ≡ false = sym deletes ∙ not in absurd cc

  no_inside : IsAccepted routes → (p : SwitchPort) → IsRandomInside routes p → ⊥
  no_inside are p inside = let outside = are.random_outside p inside.0 in inside.1 outside.0 outside.1

  -- what lands behind a portal comes where it should, but for random headers
  behind_lands : (q : SwitchPort) (h : ℕ) (o : Option ℕ) → (o ≡ None → IsRandomIn routes h → ⊥) → LandsBehind routes h q o → Lands routes h q o
  behind_lands q h o not lands = search arith

  no_refused : IsAccepted routes → (why : WalkFault) (shown : Shown) → IsFirstRefused routes why shown → ⊥
  no_refused are why shown refused =
      let all = are.entries shown.entry refused.entry refused.wired in
      elim refused.here [
        | inl own ↦ own.refused.fails (all.own own.plain shown.header refused.below)
        | inr other ↦ elim other [
          | inl random ↦ random.fails (most_hops routes) (all.random shown.header random.random)
          | inr behind ↦ behind.refused.fails (behind_lands behind.portal shown.header (owner routes shown.header) behind.not_random (all.portals behind.portal behind.is_portal shown.header refused.below))
        ]
      ]

  -- so of an accepted network no cause is told but `NoMemory`
  pub accepted_cause : IsAccepted routes → (why : CheckFault) → IsCause routes why → why ≡ CheckFault.NoMemory
  accepted_cause are (CheckFault.RangesOverlap t u) pair = absurd (no_pair are t u pair.in_order pair.meet)
  accepted_cause are (CheckFault.LabelTooLarge t) large = absurd (no_large are t large.1.0)
  accepted_cause are (CheckFault.MixedHeaders p) mixed = absurd (no_mixed are p mixed.2.0)
  accepted_cause are (CheckFault.DeleteInside p) deletes = absurd (no_deleting are p deletes.3.0)
  accepted_cause are (CheckFault.RandomInside p) inside = absurd (no_inside are p inside.4.0)
  accepted_cause are (CheckFault.WrongEnd shown) refused = absurd (no_refused are WalkFault.WrongEnd shown refused.1)
  accepted_cause are (CheckFault.DeadEnd shown) refused = absurd (no_refused are WalkFault.DeadEnd shown refused.1)
  accepted_cause are (CheckFault.Loop shown) refused = absurd (no_refused are WalkFault.Loop shown refused.1)
  accepted_cause are (CheckFault.Stray shown) refused = absurd (no_refused are WalkFault.Stray shown refused.1)
  accepted_cause are CheckFault.NoMemory none = refl

-- What is judged of the routes of a plan and an image
module _ (a b : Routes) (same : a ≡ b) where
  pub judged_accepted : (r : Result Accepted CheckFault) → MatchResult r (λ _. IsAccepted a) (IsCause a) → IfOk r (λ _. IsAccepted b)
  judged_accepted r is = search arith

  pub judged_refused : (r : Result Accepted CheckFault) → MatchResult r (λ _. IsAccepted a) (IsCause a) → IfErr r (IsCause b)
  judged_refused r is = search arith

  pub judged_exact : IsNetwork b → (r : Result Accepted CheckFault) → MatchResult r (λ _. IsAccepted a) (IsCause a) → IsAccepted b → IfErr r (λ why. why ≡ CheckFault.NoMemory)
  judged_exact net r is are = search (arith, accepted_cause)
