-- What a switch tells of each of its links, among what it tells of all.
use Rattle.{c104_regs.specs.{Values.reset_status, declared.status.Status.Status}, c104_switch.specs.Peeks.{link_status, registers}}
use Rattle.{c104_switch.specs.{Peeks.statuses_from, Soundness.IsSound, Switch.Switch}, std.proofs.Common.{ap, arith, get_or, inl, inr}}
use Rattle.std.proofs.{Common.{length, refl, suc, sym, zero, ℕ, ◌+◌, ◌<◌, ◌∙◌, ◌≡◌, ◌≤◌}, lemmas.{Bool.cases_lt, List.get_or_past}}
use Rattle.std.proofs.lemmas.Option.{slice_get_past}

module _ {A : Type 0} (s : Switch A) where
  told_length : (l n : ℕ) → length (statuses_from s l n) ≡ n
  told_length l zero = refl
  told_length l (suc n) = ap suc (told_length (suc l) n)

  told_of : (l n i : ℕ) → i < n → get_or (statuses_from s l n) i reset_status ≡ link_status s (l + i)
  told_of l zero i inside = absurd (omega arith)
  told_of l (suc n) zero inside = ap (link_status s) (omega arith)
  told_of l (suc n) (suc i) inside = told_of (suc l) n i (omega arith) ∙ ap (link_status s) (omega arith)

  -- what a switch tells of a link past the last is as after a reset
  no_status : IsSound s → (l : ℕ) → 32 ≤ l → link_status s l ≡ reset_status
  unfolding link_status
  no_status sound l past = search (arith, slice_get_past)

  -- so among the statuses of all links stands what the switch tells of each number
  pub status_told : IsSound s → (l : ℕ) → get_or (registers s).statuses l reset_status ≡ link_status s l
  status_told sound l = elim (cases_lt l 32) [
    | inl inside ↦ told_of 0 32 l inside ∙ ap (link_status s) (omega arith)
    | inr past ↦ get_or_past (statuses_from s 0 32) l reset_status (omega (arith, told_length 0 32)) ∙ sym (no_status sound l past)
  ]

  -- the same of what was told of the link of an address
  pub status_told_at : IsSound s → (link l : ℕ) (t : Status) → link ≡ l → t ≡ link_status s link → get_or (registers s).statuses l reset_status ≡ t
  status_told_at sound link l t same is = status_told sound l ∙ sym (is ∙ ap (link_status s) same)
