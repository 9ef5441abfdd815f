-- What is left of a group once a link of it continues none, nor the link after it.
use Rattle.c104_commands.specs.{LeftGroups.{AreTakenOut, IsLeft, IsTakenOut, Parts, continues_in}, WithoutWires.{joins, without}}
use Rattle.{c104_crossbar.specs.Groups.{group_contains, is_joined_run}, c104_plan.{proofs.PortLemmas.is_port-true, specs.Plans.Plan}}
use Rattle.c104_plan.specs.{Plans.is_continued, Ports.{AreApart, is_any_at, is_port}, declared.ports.{Port.Port, Wire.Wire}}
use Rattle.std.proofs.Common.{Bool, Some, ap, arith, false, inl, inr, not, refl, slice_get, subst, suc, sym, true, zero, ℕ, ◌&&◌, ◌+◌, ◌-◌}
use Rattle.std.proofs.{Common.{◌<◌, ◌||◌, ◌∙◌, ◌≡◌, ◌≢◌, ◌≤◌, ◌⊎◌}, lemmas.Bool.{and_parts, cases_lt, false≢true}}
use Rattle.std.proofs.lemmas.Map.Views.{any-filter_same}

-- all links after one, up to another, continue the group
abbrev pub Joined : (ℕ → Bool) → ℕ → ℕ → Type 0
Joined c low high = (i : ℕ) → low < i → i ≤ high → c i ≡ true

run_joined : (c : ℕ → Bool) (low n : ℕ) → is_joined_run c low n ≡ true → Joined c low (low + n)
run_joined c low zero run i after upto = absurd (omega (arith, after, upto))
run_joined c low (suc n) run i after upto = by_case (cases_lt i (low + suc n)) (run_joined c low n (and_parts (c (low + suc n)) (is_joined_run c low n) run).1)
  where
    by_case : (i < low + suc n) ⊎ (low + suc n ≤ i) → Joined c low (low + n) → c i ≡ true
    by_case (inl below) before = before i after (omega (arith, below))
    by_case (inr last) before = subst (λ o. c o ≡ true) (omega (arith, last, upto)) (and_parts (c (low + suc n)) (is_joined_run c low n) run).0

joined_run : (c : ℕ → Bool) (low n : ℕ) → Joined c low (low + n) → is_joined_run c low n ≡ true
joined_run c low zero joined = refl
joined_run c low (suc n) joined = rw (joined (low + suc n) (omega arith) (omega arith)) (joined_run c low n (λ i after upto. joined i after (omega (arith, upto))))

run_up : (c : ℕ → Bool) (g o : ℕ) → g ≤ o → group_contains c g o ≡ true → is_joined_run c g (o - g) ≡ true
run_up c g o le is = search arith

run_down : (c : ℕ → Bool) (g o : ℕ) → o < g → group_contains c g o ≡ true → is_joined_run c o (g - o) ≡ true
run_down c g o lt is = search arith

up_joined : (c : ℕ → Bool) (g o : ℕ) → g ≤ o → group_contains c g o ≡ true → Joined c g o
up_joined c g o le is i after upto = run_joined c g (o - g) (run_up c g o le is) i after (omega (arith, le, upto))

down_joined : (c : ℕ → Bool) (g o : ℕ) → o < g → group_contains c g o ≡ true → Joined c o g
down_joined c g o lt is i after upto = run_joined c o (g - o) (run_down c g o lt is) i after (omega (arith, lt, upto))

joined_up : (c : ℕ → Bool) (g o : ℕ) → g ≤ o → Joined c g o → group_contains c g o ≡ true
joined_up c g o le joined = search (arith, joined_run)

joined_down : (c : ℕ → Bool) (g o : ℕ) → o < g → Joined c o g → group_contains c g o ≡ true
joined_down c g o lt joined = search (arith, joined_run)

module _ (before after : ℕ → Bool) (l : ℕ) (own : after l ≡ false) (next : after (suc l) ≡ false) (same : (o : ℕ) → o ≢ l → o ≢ suc l → after o ≡ before o) where
  no_own : (i : ℕ) → after i ≡ true → i ≢ l
  no_own i is at = false≢true (sym own ∙ subst (λ o. after o ≡ true) at is)

  no_next : (i : ℕ) → after i ≡ true → i ≢ suc l
  no_next i is at = false≢true (sym next ∙ subst (λ o. after o ≡ true) at is)

  was_joined : (low high : ℕ) → Joined after low high → Joined before low high
  was_joined low high joined i above upto =
      let is : after i ≡ true = joined i above upto in
      sym (same i (no_own i is) (no_next i is)) ∙ is

  not_parted : (low high : ℕ) → Joined after low high → low < l → l < high → ⊥
  not_parted low high joined above below = no_own l (joined l above (omega (arith, below))) refl

  stays_joined : (low high : ℕ) → low ≢ l → high ≢ l → Joined before low high → ((low < l) × (l < high) → ⊥) → Joined after low high
  stays_joined low high low_other high_other joined apart i above upto =
      same i (λ at. apart (omega (arith, at, above, upto, high_other), omega (arith, at, above, upto, high_other)))
      (λ at. apart (omega (arith, at, above, upto, low_other), omega (arith, at, above, upto, low_other)))
      ∙ joined i above upto

  alone : (o : ℕ) → group_contains after l o ≡ true → (l < o) ⊎ (o ≤ l) → (o < l) ⊎ (l ≤ o) → o ≡ l
  alone o is (inl above) order = absurd (no_next (suc l) (up_joined after l o (omega (arith, above)) is (suc l) (omega arith) (omega (arith, above))) refl)
  alone o is (inr upto) (inl below) = absurd (no_own l (down_joined after l o below is l below (omega arith)) refl)
  alone o is (inr upto) (inr from) = omega (arith, upto, from)

  stays : (g o : ℕ) → g ≢ l → o ≢ l → (o < g) ⊎ (g ≤ o) → (group_contains before g o ≡ true) × (Parts l g o → ⊥) → group_contains after g o ≡ true
  stays g o g_other o_other (inl down) was = joined_down after g o down (stays_joined o g o_other g_other (down_joined before g o down was.0) (λ parts. was.1 (inr parts)))
  stays g o g_other o_other (inr up) was = joined_up after g o up (stays_joined g o g_other o_other (up_joined before g o up was.0) (λ parts. was.1 (inl parts)))

  parted : (g o : ℕ) → group_contains after g o ≡ true → Parts l g o → ⊥
  parted g o is (inl up) = not_parted g o (up_joined after g o (omega (arith, up.0, up.1)) is) up.0 up.1
  parted g o is (inr down) = not_parted o g (down_joined after g o (omega (arith, down.0, down.1)) is) down.0 down.1

  was : (g o : ℕ) → (o < g) ⊎ (g ≤ o) → group_contains after g o ≡ true → group_contains before g o ≡ true
  was g o (inl down) is = joined_down before g o down (was_joined o g (down_joined after g o down is))
  was g o (inr up) is = joined_up before g o up (was_joined g o (up_joined after g o up is))

  pub is_left : IsLeft before after l
  is_left = record {
    alone = λ o is. alone o is (cases_lt l o) (cases_lt o l);
    others = λ g o g_other o_other. ((λ is. (was g o (cases_lt o g) is, parted g o is)), stays g o g_other o_other (cases_lt o g));
  }

-- which links of a plan without a wire continue groups
left_continues : (plan : Plan) (k : ℕ) (w : Wire) (p : Port) → is_continued (without plan k w) p ≡ (not (joins w.here p || joins w.there p) && is_continued plan p)
unfolding is_any_at
left_continues plan k w p =
    any-filter_same (λ q. is_port q p) (λ q. not (joins w.here q || joins w.there q)) (not (joins w.here p || joins w.there p))
    (λ q is. ap (λ r. not (joins w.here r || joins w.there r)) (is_port-true q p is)) plan.continues

-- an end of a wire is joined to its group by itself and by the link after it, and by no other link of its switch; and the
-- other end, of another switch, by none of this one's
joins_own : (p : Port) (s l : ℕ) → p ≡ Port.Switch s l → joins p (Port.Switch s l) ≡ true
joins_own p s l is = search arith

joins_next : (p : Port) (s l : ℕ) → p ≡ Port.Switch s l → joins p (Port.Switch s (suc l)) ≡ true
joins_next p s l is = search arith

joins_none : (p : Port) (s l o : ℕ) → p ≡ Port.Switch s l → o ≢ l → o ≢ suc l → joins p (Port.Switch s o) ≡ false
joins_none p s l o is other later = search arith

joins_apart : (p q : Port) (s l o : ℕ) → p ≡ Port.Switch s l → AreApart p q → joins q (Port.Switch s o) ≡ false
joins_apart p q s l o is apart = search arith

apart_flips : (p q : Port) → AreApart p q → AreApart q p
apart_flips p q apart = search arith

gone : (a b c : Bool) → (a ≡ true) ⊎ (b ≡ true) → (not (a || b) && c) ≡ false
gone a b c is = search arith

left : (a b c : Bool) → a ≡ false → b ≡ false → (not (a || b) && c) ≡ c
left a b c one other = search arith

module _ (plan : Plan) (k : ℕ) (w : Wire) (apart : AreApart w.here w.there) (s l : ℕ) where
  own_gone : (w.here ≡ Port.Switch s l) ⊎ (w.there ≡ Port.Switch s l) → continues_in (without plan k w) s l ≡ false
  own_gone end = left_continues plan k w (Port.Switch s l) ∙ gone (joins w.here (Port.Switch s l)) (joins w.there (Port.Switch s l)) (continues_in plan s l) (by_end end)
    where
      by_end : (w.here ≡ Port.Switch s l) ⊎ (w.there ≡ Port.Switch s l) → (joins w.here (Port.Switch s l) ≡ true) ⊎ (joins w.there (Port.Switch s l) ≡ true)
      by_end (inl here) = inl (joins_own w.here s l here)
      by_end (inr there) = inr (joins_own w.there s l there)

  next_gone : (w.here ≡ Port.Switch s l) ⊎ (w.there ≡ Port.Switch s l) → continues_in (without plan k w) s (suc l) ≡ false
  next_gone end = left_continues plan k w (Port.Switch s (suc l)) ∙ gone (joins w.here (Port.Switch s (suc l))) (joins w.there (Port.Switch s (suc l))) (continues_in plan s (suc l)) (by_end end)
    where
      by_end : (w.here ≡ Port.Switch s l) ⊎ (w.there ≡ Port.Switch s l) → (joins w.here (Port.Switch s (suc l)) ≡ true) ⊎ (joins w.there (Port.Switch s (suc l)) ≡ true)
      by_end (inl here) = inl (joins_next w.here s l here)
      by_end (inr there) = inr (joins_next w.there s l there)

  others_left : (w.here ≡ Port.Switch s l) ⊎ (w.there ≡ Port.Switch s l) → (o : ℕ) → o ≢ l → o ≢ suc l → continues_in (without plan k w) s o ≡ continues_in plan s o
  others_left (inl here) o other later =
      left_continues plan k w (Port.Switch s o) ∙ left (joins w.here (Port.Switch s o)) (joins w.there (Port.Switch s o)) (continues_in plan s o) (joins_none w.here s l o here other later) (joins_apart w.here w.there s l o here apart)
  others_left (inr there) o other later =
      left_continues plan k w (Port.Switch s o) ∙ left (joins w.here (Port.Switch s o)) (joins w.there (Port.Switch s o)) (continues_in plan s o) (joins_apart w.there w.here s l o there (apart_flips w.here w.there apart)) (joins_none w.there s l o there other later)

  pub taken_out : (w.here ≡ Port.Switch s l) ⊎ (w.there ≡ Port.Switch s l) → IsTakenOut plan (without plan k w) s l
  taken_out end = is_left (continues_in plan s) (continues_in (without plan k w) s) l (own_gone end) (next_gone end) (others_left end)

pub all_taken_out : (plan : Plan) (k : ℕ) (w : Wire) (other : Plan) → slice_get plan.wires k ≡ Some w → AreApart w.here w.there → other ≡ without plan k w → AreTakenOut plan k other
all_taken_out plan k w other at apart is v s l found end =
    let both : Some v ≡ Some w = sym found ∙ at in
    let same : v ≡ w = cc in
    subst (λ (o : Plan). IsTakenOut plan o s l) (sym is)
    (taken_out plan k w apart s l (subst (λ (u : Wire). (u.here ≡ Port.Switch s l) ⊎ (u.there ≡ Port.Switch s l)) same end))
