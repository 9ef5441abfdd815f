-- A list of tokens as what is left of one piece, then whole pieces, then the beginning of one that is still due.
use Rattle.std.proofs.Common.{List, [], append-nil, append_assoc, arith, inl, inr, length, refl, subst, sym, ◌++◌, ◌∷◌, ◌≡◌, ◌≤◌, ◌⊎◌}

-- start is left of the piece that is read; due is what comes of the last piece
abbrev pub IsChannel : {A : Type 0} → (List A → Type 0) → List A → List A → List A → Type 0
IsChannel P [] [] due = (due ≡ []) ⊎ P due
IsChannel P (y ∷ ys) [] due = due ≡ y ∷ ys
IsChannel P (y ∷ ys) (x ∷ xs) due = (x ≡ y) × IsChannel P ys xs due
IsChannel P [] (x ∷ xs) due = (ys : List _) × P (x ∷ ys) × IsChannel P ys xs due

module _ {A : Type 0} (P : List A → Type 0) where
  pub channel_end : (s : List A) → IsChannel P s [] s
  channel_end [] = inl refl
  channel_end (y ∷ ys) = refl

  -- a token that is due comes
  pub channel_append_one : (s xs : List A) (x : A) (due : List A) → IsChannel P s xs (x ∷ due) → IsChannel P s (xs ++ x ∷ []) due
  channel_append_one [] [] x due (inl e) = absurd (cc)
  channel_append_one [] [] x due (inr p) = (due, p, channel_end due)
  channel_append_one (y ∷ ys) [] x due e = let d : due ≡ ys = cc in (cc, subst (λ l. IsChannel P ys [] l) (sym d) (channel_end ys))
  channel_append_one (y ∷ ys) (z ∷ zs) x due r = (r.0, channel_append_one ys zs x due r.1)
  channel_append_one [] (z ∷ zs) x due r = (r.0, r.1, channel_append_one r.0 zs x due r.2)

  pub channel_append : (s xs bs due : List A) → IsChannel P s xs (bs ++ due) → IsChannel P s (xs ++ bs) due
  channel_append s xs [] due r = rw append-nil r
  channel_append s xs (b ∷ bs) due r = subst (λ l. IsChannel P s l due) (append_assoc xs (b ∷ []) bs) (channel_append s (xs ++ b ∷ []) bs due (channel_append_one s xs b (bs ++ due) r))

  -- a whole piece is due
  pub channel_begin : (s xs piece : List A) → P piece → IsChannel P s xs [] → IsChannel P s xs piece
  channel_begin [] [] piece p r = inr p
  channel_begin (y ∷ ys) [] piece p e = absurd (cc)
  channel_begin (y ∷ ys) (z ∷ zs) piece p r = (r.0, channel_begin ys zs piece p r.1)
  channel_begin [] (z ∷ zs) piece p r = (r.0, r.1, channel_begin r.0 zs piece p r.2)

  -- where nothing is due all of the piece that is read stands there
  pub channel_whole : (s xs : List A) → IsChannel P s xs [] → length s ≤ length xs
  channel_whole [] xs r = omega arith
  channel_whole (y ∷ ys) [] r = absurd (cc)
  channel_whole (y ∷ ys) (z ∷ zs) r = let rest = channel_whole ys zs r.1 in omega (arith, rest)

  -- pieces of another kind
  pub channel_map : (R : List A → Type 0) → ((l : List A) → P l → R l) → (s xs due : List A) → IsChannel P s xs due → IsChannel R s xs due
  channel_map R f [] [] due (inl e) = inl e
  channel_map R f [] [] due (inr p) = inr (f due p)
  channel_map R f (y ∷ ys) [] due e = e
  channel_map R f (y ∷ ys) (z ∷ zs) due r = (r.0, channel_map R f ys zs due r.1)
  channel_map R f [] (z ∷ zs) due r = (r.0, f _ r.1, channel_map R f r.0 zs due r.2)
