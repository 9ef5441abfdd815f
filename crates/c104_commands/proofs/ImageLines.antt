-- Lines that are written one number after the other, and digits.
use Rattle.{c104_commands.specs.ImageTexts.hex_text, std.proofs.Common.{List, [], ap, arith, false, flat_map, length, replicate, suc, sym}}
use Rattle.std.{proofs.{Common.{zero, ℕ, ◌++◌, ◌+◌, ◌-◌, ◌^◌, ◌∙◌, ◌≡◌}, lemmas.List.append-nil}, specs.Fmt.{char_count, digits}}
use Rattle.std.specs.{Fmt.{format_spec, padded_integral}, List.range_with_len}
use mathlib.Core.List.{append_assoc}

lines_from : (f : ℕ → List ℕ) (n a : ℕ) → flat_map f (range_with_len a (suc n)) ≡ flat_map f (range_with_len a n) ++ f (a + n)
lines_from f zero a = append-nil (f a) ∙ ap f (omega arith)
lines_from f (suc n) a = ap (λ xs. f a ++ xs) (lines_from f n (a + 1)) ∙ sym (append_assoc (f a) (flat_map f (range_with_len (a + 1) n)) (f (a + 1 + n))) ∙ ap (λ k. (f a ++ flat_map f (range_with_len (a + 1) n)) ++ f k) (omega arith)

-- the lines of one number more
pub lines_next : (f : ℕ → List ℕ) (n : ℕ) (old before after : List ℕ) → before ≡ old ++ flat_map f (range_with_len 0 n) → after ≡ before ++ f n → after ≡ old ++ flat_map f (range_with_len 0 (n + 1))
lines_next f n old before after so next =
    let count : n + 1 ≡ suc n = omega arith in
    let last : 0 + n ≡ n = omega arith in
    let more : flat_map f (range_with_len 0 (n + 1)) ≡ flat_map f (range_with_len 0 n) ++ f n = ap (λ k. flat_map f (range_with_len 0 k)) count ∙ lines_from f n 0 ∙ ap (λ k. flat_map f (range_with_len 0 n) ++ f k) last in
    next ∙ ap (λ xs. xs ++ f n) so ∙ append_assoc old (flat_map f (range_with_len 0 n)) (f n) ∙ ap (λ xs. old ++ xs) (sym more)

-- what a hole of `format!` with zeros before it writes
pub hex_written : (width n : ℕ) → padded_integral (format_spec 32 0 4 width (2 ^ 64 - 1)) false [] (digits 16 false n) ≡ hex_text width n
unfolding padded_integral hex_text char_count
hex_written width n =
    ap (λ k. replicate k 48 ++ (digits 16 false n ++ [])) (omega arith)
    ∙ ap (λ xs. replicate (width - length (digits 16 false n)) 48 ++ xs) (append-nil (digits 16 false n))
