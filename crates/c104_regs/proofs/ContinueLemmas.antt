-- The word of the links that continue a group: its bits, and that it fits 32 bits.
use Rattle.c104_regs.specs.{Addresses.Register, Groups.{continue_bits, continues_at}, Registers.waits, Settings.Settings, Values.bit_value}
use Rattle.{c104_regs.specs.Values.with_value, std.proofs.Common.{Bool, List, [], add-one, ap, arith, drop, drop-cons, false, get_or}}
use Rattle.std.proofs.Common.{length, length-drop, refl, set, suc, zero, ℕ, ◌%◌, ◌*◌, ◌+◌, ◌-◌, ◌/◌, ◌<◌, ◌==◌, ◌^◌, ◌∙◌, ◌∷◌, ◌≡◌, ◌≤◌}
use Rattle.std.proofs.{Math.{Nat.pow-succ', Seq.drop-length}, lemmas.{Grind.one_shifted, List.length-set, Nat.Bits.bit_at-suc}}
use Rattle.std.{proofs.lemmas.Nat.{Bits.{bit_at-zero, bit_at_lowest}, pow_pos}, specs.Int.bit_at}

lowest : (b : Bool) (n : ℕ) → (bit_value b 1 + 2 * n) % 2 ≡ bit_value b 1
lowest b n = search arith

above : (b : Bool) (n : ℕ) → (bit_value b 1 + 2 * n) / 2 ≡ n
above b n = search arith

-- bit l is that of link l
pub bit_at-continue_bits : (xs : List Settings) (l : ℕ) → bit_at (continue_bits xs) l ≡ bit_value (continues_at xs l) 1
bit_at-continue_bits [] l = bit_at-zero l
bit_at-continue_bits (x ∷ xs) zero = bit_at_lowest _ ∙ lowest x.continue_group (continue_bits xs)
bit_at-continue_bits (x ∷ xs) (suc l) = search (arith, bit_at-suc, above, bit_at-continue_bits xs l)

number_one : (b : Bool) → (bit_value b 1 == 1) ≡ b
number_one b = search arith

-- so a word with these bits tells of each link whether it continues
pub bit-continues_at : (xs : List Settings) (word : ℕ) → ((l : ℕ) → bit_at word l ≡ bit_value (continues_at xs l) 1) → (l : ℕ) → (bit_at word l == 1) ≡ continues_at xs l
bit-continues_at xs word bits l = ap (λ bit. bit == 1) (bits l) ∙ number_one (continues_at xs l)

number-le : (b : Bool) → bit_value b 1 ≤ 1
number-le b = search arith

continue_bits-lt : (xs : List Settings) (n : ℕ) → length xs ≤ n → continue_bits xs < 2 ^ n
continue_bits-lt [] n fits = pow_pos n
continue_bits-lt (x ∷ xs) zero fits = absurd (omega arith)
continue_bits-lt (x ∷ xs) (suc n) fits = search (arith, pow-succ', number-le, continue_bits-lt xs n (omega arith))

continue_bits-drop : (xs : List Settings) (k : ℕ) (d : Settings) → k < length xs → continue_bits (drop k xs) ≡ bit_value (get_or xs k d).continue_group 1 + 2 * continue_bits (drop (k + 1) xs)
continue_bits-drop xs k d below = rw (drop-cons xs k d below) (rw add-one refl)

-- the word with one more link in it, the one before those whose word this is
pub continue_bits-fits : (xs : List Settings) (k n bits : ℕ) (d : Settings) → length xs ≤ 32 → k < length xs → n ≡ bit_value (get_or xs k d).continue_group 1 → bits ≡ continue_bits (drop (k + 1) xs) → n + 2 * bits < 2 ^ 32
continue_bits-fits xs k n bits d links below one rest = search (arith, continue_bits-drop, continue_bits-lt, length-drop)

-- no link is left past the last
pub continue_bits-end : (xs : List Settings) (n : ℕ) → length xs ≡ n → 0 ≡ continue_bits (drop n xs)
continue_bits-end xs n links = rw (← links) (rw (drop-length xs) refl)

-- the bit of one link, and the word once another is set there
doubled : (b : Bool) (n : ℕ) → bit_value b (2 ^ suc n) ≡ 2 * bit_value b (2 ^ n)
doubled b n = search (arith, pow-succ')

bit-le : (xs : List Settings) (l : ℕ) (d : Settings) → l < length xs → bit_value (get_or xs l d).continue_group (2 ^ l) ≤ continue_bits xs
bit-le [] l d inside = absurd (omega arith)
bit-le (x ∷ xs) zero d inside = omega arith
bit-le (x ∷ xs) (suc l) d inside = search (arith, doubled, bit-le xs l d (omega arith))

continue_bits-set : (xs : List Settings) (l : ℕ) (x d : Settings) → l < length xs → continue_bits xs + bit_value x.continue_group (2 ^ l) ≡ continue_bits (set xs l x) + bit_value (get_or xs l d).continue_group (2 ^ l)
continue_bits-set [] l x d inside = absurd (omega arith)
continue_bits-set (y ∷ ys) zero x d inside = omega arith
continue_bits-set (y ∷ ys) (suc l) x d inside = search (arith, set, doubled, continue_bits-set ys l x d (omega arith))

-- a link's bit of 32 taken out of the word, and another put there
module _ (xs : List Settings) (l : ℕ) (d : Settings) (word before : ℕ) (links : length xs ≡ 32) (link : l < 32) (is_word : word ≡ continue_bits xs) (is_before : before ≡ bit_value (get_or xs l d).continue_group (1 * 2 ^ l % 4294967296)) where
  weight : 1 * 2 ^ l % 4294967296 ≡ 2 ^ l
  weight = (one_shifted l 4294967295 refl link).0

  inside : l < length xs
  inside = omega (arith, links, link)

  own : before ≡ bit_value (get_or xs l d).continue_group (2 ^ l)
  own = is_before ∙ ap (bit_value (get_or xs l d).continue_group) weight

  pub put_least : before ≤ word
  put_least = rw (own, is_word) (bit-le xs l d inside)

  module _ (x : Settings) (after : ℕ) (is_after : after ≡ bit_value x.continue_group (1 * 2 ^ l % 4294967296)) where
    pub put_is : word - before + after ≡ continue_bits (set xs l x)
    put_is =
        let new : after ≡ bit_value x.continue_group (2 ^ l) = is_after ∙ ap (bit_value x.continue_group) weight in
        omega (arith, put_least, own, new, is_word, continue_bits-set xs l x d inside)

    pub put_fits : word - before + after < 2 ^ 32
    put_fits = rw put_is (continue_bits-lt (set xs l x) 32 (rw length-set (omega (arith, links))))

-- only the mode says whether a link continues a group
same_group : (s : Settings) (r : Register) (v : ℕ) → waits r ≡ false → (with_value s r v).continue_group ≡ s.continue_group
same_group s r v is = search arith

-- so the word stays where another register is set
pub continue_bits-same : (xs : List Settings) (l : ℕ) (x d : Settings) (r : Register) (v : ℕ) → waits r ≡ false → x ≡ with_value (get_or xs l d) r v → continue_bits (set xs l x) ≡ continue_bits xs
continue_bits-same [] l x d r v is same = refl
continue_bits-same (y ∷ ys) zero x d r v is same = search (arith, same_group)
continue_bits-same (y ∷ ys) (suc l) x d r v is same = ap (λ n. bit_value y.continue_group 1 + 2 * n) (continue_bits-same ys l x d r v is same)
