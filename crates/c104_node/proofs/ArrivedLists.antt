-- What arrived, as bytes and the tokens that are more than a byte: one token more, and the token at a place.
use Rattle.c104_node.{proofs.{Waiting.drop_there, WireEnds.{get_set_other, get_set_same}}, specs.Arrivals.{AreInside, IsArrived, OtherOf}}
use Rattle.{c104_node.specs.Arrivals.{arrived_list, counted_other, others_in, overlaid}, c104_token.specs.Kinds.{Kind, byte_token}}
use Rattle.std.proofs.Common.{List, None, Option, Some, [], ap, arith, drop, inl, inr, length, length-append, map, refl, slice_get}
use Rattle.std.proofs.{Common.{slice_set, subst, suc, sym, take, ℕ, ◌++◌, ◌+◌, ◌<◌, ◌∙◌, ◌∷◌, ◌≡◌, ◌≤◌}, Math.Seq.set-append_seam}
use Rattle.std.proofs.{Math.Seq.take-suc, lemmas.{Bool.cases_eq, List.{length-map, length-set, map-append, map-set, set-append_left}}}
use Rattle.std.proofs.lemmas.Option.{get_or_from_slice_get, slice_get-map, slice_get_within}

take_there : {X : Type 0} (xs : List X) (k : ℕ) (x : X) → slice_get xs k ≡ Some x → take (suc k) xs ≡ take k xs ++ x ∷ []
take_there xs k x is = take-suc xs k x (slice_get_within xs k x is) ∙ ap (λ z. take k xs ++ z ∷ []) (get_or_from_slice_get xs k x x is)

module _ {A : Type 0} where
  set_end : (xs : List A) (x y : A) (k : ℕ) → k ≡ length xs → slice_set (xs ++ x ∷ []) k y ≡ xs ++ y ∷ []
  set_end xs x y k is = ap (λ (j : ℕ). slice_set (xs ++ x ∷ []) j y) is ∙ set-append_seam xs x [] y

  pub overlaid_length : (os : List (OtherOf A)) (xs : List A) → length (overlaid os xs) ≡ length xs
  overlaid_length [] xs = refl
  overlaid_length (o ∷ os) xs = overlaid_length os (slice_set xs o.place o.token) ∙ length-set xs o.place o.token

  pub overlaid_more : (os : List (OtherOf A)) (o : OtherOf A) (xs : List A) → overlaid (os ++ o ∷ []) xs ≡ slice_set (overlaid os xs) o.place o.token
  overlaid_more [] o xs = refl
  overlaid_more (p ∷ os) o xs = overlaid_more os o (slice_set xs p.place p.token)

  overlaid_longer : (os : List (OtherOf A)) (xs : List A) (x : A) → AreInside (length xs) os → overlaid os (xs ++ x ∷ []) ≡ overlaid os xs ++ x ∷ []
  overlaid_longer [] xs x inside = refl
  overlaid_longer (o ∷ os) xs x inside =
      ap (overlaid os) (set-append_left xs (x ∷ []) o.place o.token inside.0)
      ∙ overlaid_longer os (slice_set xs o.place o.token) x (subst (λ (n : ℕ). AreInside n os) (sym (length-set xs o.place o.token)) inside.1)

  inside_longer : (os : List (OtherOf A)) (m n : ℕ) → m ≤ n → AreInside m os → AreInside n os
  inside_longer [] m n longer inside = tt
  inside_longer (o ∷ os) m n longer inside = (omega (arith, longer, inside.0), inside_longer os m n longer inside.1)

  inside_more : (os : List (OtherOf A)) (o : OtherOf A) (n : ℕ) → AreInside n os → o.place < n → AreInside n (os ++ o ∷ [])
  inside_more [] o n inside here = (here, tt)
  inside_more (p ∷ os) o n inside here = (inside.0, inside_more os o n inside.1 here)

  -- a token that is laid over another place, or over this one
  pub other_elsewhere : (os : List (OtherOf A)) (o : OtherOf A) (xs : List A) (k : ℕ) (x : A) → (o.place ≡ k → ⊥) → slice_get (overlaid os xs) k ≡ Some x → slice_get (overlaid (os ++ o ∷ []) xs) k ≡ Some x
  other_elsewhere os o xs k x differ is = ap (λ (ys : List A). slice_get ys k) (overlaid_more os o xs) ∙ get_set_other (overlaid os xs) o.place k o.token differ ∙ is

  pub other_there : (os : List (OtherOf A)) (o : OtherOf A) (xs : List A) (k : ℕ) (x : A) → o.place ≡ k → slice_get (overlaid os xs) k ≡ Some x → slice_get (overlaid (os ++ o ∷ []) xs) k ≡ Some o.token
  other_there os o xs k x same is = search (arith, overlaid_more, get_set_same)

  -- one more is laid over a list
  pub next_laid : (os : List (OtherOf A)) (k : ℕ) (o : OtherOf A) (xs now all : List A) → slice_get os k ≡ Some o → now ≡ slice_set xs o.place o.token → overlaid (drop k os) xs ≡ all → overlaid (drop (k + 1) os) now ≡ all
  next_laid os k o xs now all there set before = search (arith, drop_there)

  -- the token at a place where one more is laid over a list
  pub next_among : (os : List (OtherOf A)) (k : ℕ) (o : OtherOf A) (i : ℕ) (x y : A) (xs : List A) → slice_get os k ≡ Some o → (o.place ≡ i → y ≡ o.token) → ((o.place ≡ i → ⊥) → y ≡ x) → slice_get (overlaid (take k os) xs) i ≡ Some x → slice_get (overlaid (take (k + 1) os) xs) i ≡ Some y
  next_among os k o i x y xs there here elsewhere before =
      let one : k + 1 ≡ suc k = omega arith in
      ap (λ (j : ℕ). slice_get (overlaid (take j os) xs) i) one
      ∙ ap (λ (ps : List (OtherOf A)). slice_get (overlaid ps xs) i) (take_there os k o there)
      ∙ elim (cases_eq o.place i) [
        | inl same ↦ other_there (take k os) o xs i x same before ∙ ap Some (sym (here same))
        | inr differ ↦ other_elsewhere (take k os) o xs i x differ before ∙ ap Some (sym (elsewhere differ))
      ]

  -- one more is laid over a list of what each token is
  pub next_plain : {Y : Type 0} (f : A → Y) (os : List (OtherOf A)) (k : ℕ) (o : OtherOf A) (xs : List A) (now next : List Y) → slice_get os k ≡ Some o → next ≡ slice_set now o.place (f o.token) → now ≡ map f (overlaid (take k os) xs) →
      next ≡ map f (overlaid (take (k + 1) os) xs)
  next_plain f os k o xs now next there set before =
      let one : k + 1 ≡ suc k = omega arith in
      let laid : overlaid (take (k + 1) os) xs ≡ slice_set (overlaid (take k os) xs) o.place o.token = ap (λ (j : ℕ). overlaid (take j os) xs) one ∙ ap (λ (ps : List (OtherOf A)). overlaid ps xs) (take_there os k o there) ∙ overlaid_more (take k os) o xs in
      set ∙ ap (λ (zs : List _). slice_set zs o.place (f o.token)) before ∙ sym (ap (map f) laid ∙ map-set f (overlaid (take k os) xs) o.place o.token)

module _ {A : Type 0} (kind : Kind A) where
  -- the token of a byte at its place, before others are laid over it
  pub byte_there : (bytes lent : List ℕ) (k b : ℕ) → lent ≡ bytes → slice_get lent k ≡ Some b → slice_get (map (byte_token kind) bytes) k ≡ Some (byte_token kind b)
  byte_there bytes lent k b same there = search (arith, slice_get-map)

  counted_sum : (b : Option ℕ) (m n : ℕ) → counted_other kind b m + n ≡ counted_other kind b (m + n)
  counted_sum b m n = search arith

  others_sum : (xs : List A) (x : A) → others_in kind (xs ++ x ∷ []) ≡ others_in kind xs + others_in kind (x ∷ [])
  others_sum [] x = omega arith
  others_sum (y ∷ xs) x = ap (counted_other kind (kind.byte y)) (others_sum xs x) ∙ sym (counted_sum (kind.byte y) (others_in kind xs) (others_in kind (x ∷ [])))

  pub arrived_length : (bytes : List ℕ) (os : List (OtherOf A)) → length (arrived_list kind bytes os) ≡ length bytes
  arrived_length bytes os = overlaid_length os (map (byte_token kind) bytes) ∙ length-map bytes (byte_token kind)

  -- one byte more
  longer : (bytes : List ℕ) (os : List (OtherOf A)) (b : ℕ) → AreInside (length bytes) os → arrived_list kind (bytes ++ b ∷ []) os ≡ arrived_list kind bytes os ++ byte_token kind b ∷ []
  longer bytes os b inside = search (arith, map-append, overlaid_longer, length-map)

  longer_inside : (bytes : List ℕ) (os : List (OtherOf A)) (b : ℕ) → AreInside (length bytes) os → AreInside (length (bytes ++ b ∷ [])) os
  longer_inside bytes os b inside = let more = length-append bytes (b ∷ []) in inside_longer os (length bytes) (length (bytes ++ b ∷ [])) (omega (arith, more)) inside

  -- a token that is a byte arrived
  pub byte_more : (bytes now : List ℕ) (os : List (OtherOf A)) (b : ℕ) (x : A) → IsArrived kind bytes os → now ≡ bytes ++ b ∷ [] → x ≡ byte_token kind b → arrived_list kind now os ≡ arrived_list kind bytes os ++ x ∷ []
  byte_more bytes now os b x is joined same = search (arith, longer)

  pub byte_keeps : (bytes now : List ℕ) (os : List (OtherOf A)) (b : ℕ) (x : A) → IsArrived kind bytes os → now ≡ bytes ++ b ∷ [] → x ≡ byte_token kind b → kind.byte x ≡ Some b → IsArrived kind now os
  byte_keeps bytes now os b x is joined same told =
      let one : others_in kind (x ∷ []) ≡ 0 = ap (λ (o : Option ℕ). counted_other kind o 0) told in
      let sum = others_sum (arrived_list kind bytes os) x in
      let now_in = ap (others_in kind) (byte_more bytes now os b x is joined same) in
      record {
        inside = subst (λ (bs : List ℕ). AreInside (length bs) os) (sym joined) (longer_inside bytes os b is.inside);
        counted = omega (arith, is.counted, one, sum, now_in);
      }

  -- a token that is more than a byte arrived
  pub other_more : (bytes now : List ℕ) (os later : List (OtherOf A)) (b : ℕ) (o : OtherOf A) → IsArrived kind bytes os → now ≡ bytes ++ b ∷ [] → later ≡ os ++ o ∷ [] → o.place ≡ length bytes → arrived_list kind now later ≡ arrived_list kind bytes os ++ o.token ∷ []
  other_more bytes now os later b o is joined laid placed = search (arith, overlaid_more, longer, set_end, arrived_length)

  pub other_keeps : (bytes now : List ℕ) (os later : List (OtherOf A)) (b : ℕ) (o : OtherOf A) → IsArrived kind bytes os → now ≡ bytes ++ b ∷ [] → later ≡ os ++ o ∷ [] → o.place ≡ length bytes → kind.byte o.token ≡ None → IsArrived kind now later
  other_keeps bytes now os later b o is joined laid placed told =
      let one : others_in kind (o.token ∷ []) ≡ 1 = ap (λ (c : Option ℕ). counted_other kind c 0) told in
      let sum = others_sum (arrived_list kind bytes os) o.token in
      let now_in = ap (others_in kind) (other_more bytes now os later b o is joined laid placed) in
      let long = ap (length {A = OtherOf A}) laid ∙ length-append os (o ∷ []) in
      let bytes_long = ap (length {A = ℕ}) joined ∙ length-append bytes (b ∷ []) in
      record {
        inside = subst (λ (ps : List (OtherOf A)). AreInside (length now) ps) (sym laid) (inside_more os o (length now) (subst (λ (bs : List ℕ). AreInside (length bs) os) (sym joined) (longer_inside bytes os b is.inside)) (omega (arith, placed, bytes_long)));
        counted = omega (arith, is.counted, one, sum, now_in, long);
      }
