-- The text of the packets that arrived in a run, by what is shown of each terminal.
use Rattle.{c104_net.specs.{Deliveries.arrived_at, TracedEnds.traced_end}, c104_plan.specs.Plans.Plan}
use Rattle.{c104_run.specs.FinishedRecords.FinishedRecord, c104_storm.{proofs.ShownPackets.IsShownAt, specs.Arrivals.AreArrivals}}
use Rattle.{c104_storm.specs.{Arrivals.{Arrived, JoinArrivals, JoinSorted, arrived_line}, Packets.shown_text}, std.proofs.Common.{List, []}}
use Rattle.std.proofs.Common.{ap, append-nil, append_assoc, arith, false, flat_map, if◌then◌else◌, inl, inr, nat_eq, refl, subst, suc, sym}
use Rattle.std.proofs.{Common.{true, zero, ℕ, ◌++◌, ◌<◌, ◌∙◌, ◌≡◌, ◌≢◌, ◌≤◌, ◌⊎◌}, lemmas.Bool.{Decides.nat_tests, cases_eq}}
use Rattle.std.proofs.lemmas.List.Sorted.{IsPermutation-refl}

-- one more list that is shown
abbrev with_list : (ℕ → List Arrived) → ℕ → List Arrived → ℕ → List Arrived
with_list shown n list t = if nat_eq t n then list else shown t

list_there : (shown : ℕ → List Arrived) (n : ℕ) (list : List Arrived) → with_list shown n list n ≡ list
list_there shown n list = let itself : nat_eq n n ≡ true = grind (arith, nat_tests) in ap (λ b. if b then list else shown n) itself

others_stay : (shown : ℕ → List Arrived) (n : ℕ) (list : List Arrived) (t : ℕ) → t ≢ n → with_list shown n list t ≡ shown t
others_stay shown n list t other = let differs : nat_eq t n
    ≡ false = grind (arith, nat_tests) in ap (λ b. if b then list else shown t) differs

-- the text of what is shown of the first terminals is theirs
same_text : (plan : Plan) (one two : ℕ → List Arrived) (n : ℕ) → ((t : ℕ) → t < n → one t ≡ two t)
    → shown_text plan one n ≡ shown_text plan two n
same_text plan one two zero same = refl
same_text plan one two (suc n) same =
    ap (λ text. text ++ flat_map (arrived_line plan n) (one n)) (same_text plan one two n (λ t inside. same t (omega (arith, inside))))
    ∙ ap (λ list. shown_text plan two n ++ flat_map (arrived_line plan n) list) (same n (omega arith))

module _ (run : FinishedRecord) where
  -- what is shown of the first n terminals, and nothing of others
  pub record Shows (n : ℕ) (old new : List ℕ) : Type 0 where
    pub shown : ℕ → List Arrived
    pub text : new ≡ old ++ shown_text run.finished.plan shown n
    pub inside : (t : ℕ) → t < n → IsShownAt (traced_end run) t (shown t)
    pub past : (t : ℕ) → n ≤ t → shown t ≡ []

  one_more : (n : ℕ) (old text new : List ℕ) → Shows n old text → JoinSorted run.finished.plan n (arrived_at (traced_end run) n) text new
      → Shows (suc n) old new
  one_more n old text new so_far here = record {
    shown = lists;
    text =
        here.is ∙ ap (λ xs. xs ++ flat_map (arrived_line run.finished.plan n) here.sorted) so_far.text
        ∙ append_assoc old (shown_text run.finished.plan so_far.shown n) (flat_map (arrived_line run.finished.plan n) here.sorted)
        ∙ ap (λ xs. old ++ (xs ++ flat_map (arrived_line run.finished.plan n) here.sorted))
        (same_text run.finished.plan so_far.shown lists n
        (λ t inside. sym (others_stay so_far.shown n here.sorted t (omega (arith, inside)))))
        ∙ ap (λ xs. old ++ (shown_text run.finished.plan lists n ++ flat_map (arrived_line run.finished.plan n) xs))
        (sym (list_there so_far.shown n here.sorted));
    inside = λ t inside. by_place t inside (cases_eq t n);
    past = λ t past. others_stay so_far.shown n here.sorted t (omega (arith, past)) ∙ so_far.past t (omega (arith, past));
  }
    where
      lists : ℕ → List Arrived
      lists = with_list so_far.shown n here.sorted

      last : IsShownAt (traced_end run) n here.sorted
      last = record { arrivals = here.arrivals; are = here.are; moved = here.same; rising = here.rising }

      by_place : (t : ℕ) → t < suc n → (t ≡ n) ⊎ (t ≢ n) → IsShownAt (traced_end run) t (lists t)
      by_place t inside (inl is) =
          subst (λ u. IsShownAt (traced_end run) u (lists u)) (sym is)
          (subst (IsShownAt (traced_end run) n) (sym (list_there so_far.shown n here.sorted)) last)
      by_place t inside (inr other) =
          subst (IsShownAt (traced_end run) t) (sym (others_stay so_far.shown n here.sorted t other))
          (so_far.inside t (omega (arith, inside, other)))

  -- of a text that the lines of packets joined
  pub shows : (n : ℕ) (old new : List ℕ) → JoinArrivals run old n new → Shows n old new
  shows zero old new is = record {
    shown = λ t. [];
    text = is ∙ sym (append-nil old);
    inside = λ t inside. absurd (let no : ⊥ = omega (arith, inside) in no);
    past = λ t past. refl;
  }
  shows (suc n) old new (text, before, here) = one_more n old text new (shows n old text before) here

  -- where nothing arrived, nothing is shown
  pub nothing_shown : (t : ℕ) (list : List Arrived) → arrived_at (traced_end run) t ≡ [] → list ≡ [] → IsShownAt (traced_end run) t list
  nothing_shown t list none empty =
      subst (IsShownAt (traced_end run) t) (sym empty) (record {
        arrivals = [];
        are = subst (λ tokens. AreArrivals tokens []) (sym none) (record { packets = refl; origins = refl });
        moved = IsPermutation-refl [];
        rising = tt;
      })
