-- The bytes of a control line are read word by word.
use Rattle.{c104_plan.specs.Checks.{value_or_fault, ◌>>=◌}, c104_script.specs.{Script.bytes_after, declared.faults.LineFault.LineFault}}
use Rattle.{c104_token.specs.Text.spelled_byte, std.proofs.Common.{Bor, Err, List, None, Ok, Option, Result, Some, [], add-one, ap, arith}}
use Rattle.std.proofs.{Common.{drop, get_or, length, map, refl, sym, ℕ, ◌++◌, ◌+◌, ◌<◌, ◌∙◌, ◌∷◌, ◌≡◌, ◌≤◌}, Math.Seq.drop-cons}
use Rattle.std.proofs.lemmas.List.{at_drop_all, get_or-map, length-map}

-- the words of lent slices
abbrev pub texts : List (Bor (List ℕ)) → List (List ℕ)
texts list = map (λ w. w.now) list

-- at a place of the list, with the bytes read so far
module _ (list : List (Bor (List ℕ))) (i : ℕ) (d : Bor (List ℕ)) (inside : i < length list) (bytes : List ℕ) (due : bytes_after bytes (drop i (texts list)) ≡ bytes_after [] (texts list)) where
  -- the words from the place on begin with the word there
  from_place : drop i (texts list) ≡ (get_or list i d).now ∷ drop (i + 1) (texts list)
  from_place =
      let here : get_or (texts list) i d.now ≡ (get_or list i d).now = get_or-map (λ (w : Bor (List ℕ)). w.now) list i d d.now inside in
      let room : i < length (texts list) = omega (arith, length-map list (λ (w : Bor (List ℕ)). w.now)) in
      rw (add-one, drop-cons (texts list) i d.now room, here) refl

  -- what is due, by the byte that it spells, if it does
  abbrev then_more : Option ℕ → Result (List ℕ) LineFault
  then_more o = value_or_fault o LineFault.BadHex >>= (λ byte. bytes_after (bytes ++ byte ∷ []) (drop (i + 1) (texts list)))

  by_word : (o : Option ℕ) → o ≡ spelled_byte (get_or list i d).now → bytes_after [] (texts list) ≡ then_more o
  by_word o is = sym due ∙ ap (bytes_after bytes) from_place ∙ ap then_more (sym is)

  pub next_byte : (b : ℕ) → Some b ≡ spelled_byte (get_or list i d).now → bytes_after (bytes ++ b ∷ []) (drop (i + 1) (texts list)) ≡ bytes_after [] (texts list)
  next_byte b is = sym (by_word (Some b) is)

  pub no_byte : None ≡ spelled_byte (get_or list i d).now → Err LineFault.BadHex ≡ bytes_after [] (texts list)
  no_byte is = sym (by_word None is)

-- at the end all is read
pub all_read : (list : List (Bor (List ℕ))) (i : ℕ) (bytes : List ℕ) → length list ≤ i → bytes_after bytes (drop i (texts list)) ≡ bytes_after [] (texts list) → Ok bytes ≡ bytes_after [] (texts list)
all_read list i bytes past due =
    let room : length (texts list) ≤ i = omega (arith, past, length-map list (λ (w : Bor (List ℕ)). w.now)) in
    sym (at_drop_all (bytes_after bytes) (texts list) i room) ∙ due
