-- What is seen at a link of a switch, where it has a wire and where it has none.
use Rattle.{c104_plan.specs.{Plans.Plan, declared.ports.Port.Port}, c104_rows.proofs.NumberSteps.{one_more, passed_to}}
use Rattle.{c104_rows.specs.{Counts.Counts, Numbers.each_number, Sights.{link_seen, wired_seen}}, c104_run.specs.NetViews.network_link_view}
use Rattle.{c104_run.specs.{Network.Network, Rounds.is_wired}, c104_token.specs.{Kinds.plain_kind, declared.tokens.Token.Token}}
use Rattle.std.proofs.Common.{Bool, ap, arith, false, if◌then◌else◌, refl, sym, true, ℕ, ◌&&◌, ◌+◌, ◌<◌, ◌∙◌, ◌≡◌, ◌≤◌}

of_both : (b : Bool) → (b && b) ≡ false → b ≡ false
of_both true both = both
of_both false both = refl

of_both_true : (b : Bool) → (b && b) ≡ true → b ≡ true
of_both_true true both = refl
of_both_true false both = both

module _ (net : Network Token) (s l : ℕ) (c : Counts) where
  seen_if : Bool → Counts
  seen_if wired = if wired then link_seen (network_link_view plain_kind net s l) s l c else c

  not_wired : is_wired net.plan (Port.Switch s l) ≡ false → wired_seen net s l c ≡ c
  unfolding seen_if
  not_wired none = ap seen_if none

  wired : is_wired net.plan (Port.Switch s l) ≡ true → link_seen (network_link_view plain_kind net s l) s l c ≡ wired_seen net s l c
  unfolding seen_if
  wired is = sym (ap seen_if is)

-- the links of a switch that have wires are a set, by which its links are walked
module _ (net : Network Token) (s : ℕ) (plan : Plan) (set : ℕ → Bool) (same : plan ≡ net.plan)
    (linked : (l : ℕ) → l < 32 → set l ≡ is_wired plan (Port.Switch s l)) where
  is_in : (l : ℕ) (b : Bool) → l < 32 → set l ≡ b → is_wired net.plan (Port.Switch s l) ≡ b
  is_in l b inside is = sym (ap (λ p. is_wired p (Port.Switch s l)) same) ∙ sym (linked l inside) ∙ is

  past : (from to : ℕ) (c at : Counts) → from ≤ to → to ≤ 32 → at ≡ each_number (wired_seen net s) from c
      → ((l : ℕ) → from ≤ l → l < to → (set l && set l) ≡ false) → at ≡ each_number (wired_seen net s) to c
  past from to c at above below so_far none =
      passed_to (wired_seen net s) from to c at above so_far
      (λ k after before y. not_wired net s k y (is_in k false (omega (arith, before, below)) (of_both (set k) (none k after before))))

  pub seen_next : (from link : ℕ) (c at after : Counts) → from ≤ link → link < 32 → at ≡ each_number (wired_seen net s) from c
      → ((l : ℕ) → from ≤ l → l < link → (set l && set l) ≡ false) → (set link && set link) ≡ true
      → after ≡ link_seen (network_link_view plain_kind net s link) s link at → after ≡ each_number (wired_seen net s) (link + 1) c
  seen_next from link c at after above inside so_far none here next =
      one_more (wired_seen net s) link c at after (past from link c at above (omega (arith, inside)) so_far none)
      (next ∙ wired net s link at (is_in link true inside (of_both_true (set link) here)))

  pub seen_all : (from : ℕ) (c at : Counts) → from ≤ 32 → at ≡ each_number (wired_seen net s) from c
      → ((l : ℕ) → from ≤ l → l < 32 → (set l && set l) ≡ false) → at ≡ each_number (wired_seen net s) 32 c
  seen_all from c at within so_far none = past from 32 c at within (omega arith) so_far none
