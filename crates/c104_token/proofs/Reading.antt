-- One word read: what the rest says after it is what was due before it.
use Rattle.c104_token.specs.{Text.{packet_from_words, parse_words, word_of}, Tokens.Mark, declared.faults.TokenFault.TokenFault}
use Rattle.{c104_token.specs.declared.text.Word.Word, std.proofs.Common.{Bor, Err, List, [], add-one, ap, arith, drop, false, get_or}}
use Rattle.std.proofs.{Common.{length, map, nat_lt, refl, sym, true, ℕ, ◌++◌, ◌+◌, ◌<◌, ◌∙◌, ◌∷◌, ◌≡◌}, Math.Seq.drop-cons}
use Rattle.std.proofs.lemmas.List.{get_or-map, length-map}

-- the words of lent slices
abbrev pub texts : List (Bor (List ℕ)) → List (List ℕ)
texts list = map (λ w. w.now) list

reads_byte : (b : ℕ) (more : List Word) (bytes : List ℕ) → nat_lt (length bytes) 4096 ≡ true → packet_from_words (Word.Byte b ∷ more) bytes ≡ packet_from_words more (bytes ++ b ∷ [])
reads_byte b more bytes room = rw room refl

reads_no_more : (b : ℕ) (more : List Word) (bytes : List ℕ) → nat_lt (length bytes) 4096 ≡ false → packet_from_words (Word.Byte b ∷ more) bytes ≡ Err TokenFault.TooLong
reads_no_more b more bytes full = rw full refl

-- the words from a place on begin with the word there
from_place : (list : List (Bor (List ℕ))) (i : ℕ) (d : Bor (List ℕ)) → i < length list → map word_of (drop i (texts list)) ≡ word_of (get_or list i d).now ∷ map word_of (drop (i + 1) (texts list))
from_place list i d inside =
    let here : get_or (texts list) i d.now ≡ (get_or list i d).now = get_or-map (λ (w : Bor (List ℕ)). w.now) list i d d.now inside in
    let room : i < length (texts list) = omega (arith, length-map list (λ (w : Bor (List ℕ)). w.now)) in
    let cut : drop i (texts list) ≡ (get_or list i d).now ∷ drop (i + 1) (texts list) = rw (add-one, drop-cons (texts list) i d.now room, here) in
    ap (map word_of) cut

-- at a place of the list, with the bytes read so far
module _ (list : List (Bor (List ℕ))) (i : ℕ) (d : Bor (List ℕ)) (inside : i < length list) (bytes : List ℕ) (due : packet_from_words (map word_of (drop i (texts list))) bytes ≡ parse_words (texts list)) where
  -- what is due, by the word there
  by_word : (w : Word) → w ≡ word_of (get_or list i d).now → parse_words (texts list) ≡ packet_from_words (w ∷ map word_of (drop (i + 1) (texts list))) bytes
  by_word w is = sym due ∙ ap (λ ws. packet_from_words ws bytes) (from_place list i d inside ∙ ap (λ v. v ∷ map word_of (drop (i + 1) (texts list))) (sym is))

  pub after_byte : (b : ℕ) → Word.Byte b ≡ word_of (get_or list i d).now → nat_lt (length bytes) 4096 ≡ true → packet_from_words (map word_of (drop (i + 1) (texts list))) (bytes ++ b ∷ []) ≡ parse_words (texts list)
  after_byte b is room = sym (by_word (Word.Byte b) is ∙ reads_byte b (map word_of (drop (i + 1) (texts list))) bytes room)

  pub at_full : (b : ℕ) → Word.Byte b ≡ word_of (get_or list i d).now → nat_lt (length bytes) 4096 ≡ false → Err TokenFault.TooLong ≡ parse_words (texts list)
  at_full b is full = sym (by_word (Word.Byte b) is ∙ reads_no_more b (map word_of (drop (i + 1) (texts list))) bytes full)

  pub at_other : Word.Other ≡ word_of (get_or list i d).now → Err TokenFault.BadHex ≡ parse_words (texts list)
  at_other is = sym (by_word Word.Other is)

  pub at_early_end : (m : Mark) → Word.End m ≡ word_of (get_or list i d).now → i + 1 < length list → Err TokenFault.AfterEnd ≡ parse_words (texts list)
  at_early_end m is more = sym (by_word (Word.End m) is ∙ ap (λ ws. packet_from_words (Word.End m ∷ ws) bytes) (from_place list (i + 1) d more))
