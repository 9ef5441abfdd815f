-- Packed settings give back what was packed.
use Rattle.{c104_interval.specs.{Selection.reset_row, declared.intervals.{Row.Row, Table.Table}}, c104_regs.specs.Addresses.Register}
use Rattle.c104_regs.specs.{Addresses.{register_properties, register_takes}, Packed.{ArePacked, IsPackable, IsRowWord, packed, row_of_word}}
use Rattle.c104_regs.specs.{Packed.{unpacked, word_of_row}, Ranges.IsInRange, Settings.Settings, Values.{bit_value, mode_of, reset_status}}
use Rattle.c104_regs.specs.{Values.{select_code, select_of, with_mode}, declared.addresses.Register.TheVariants.{Base, Limit, Mode}}
use Rattle.{c104_regs.specs.declared.addresses.Register.TheVariants.{RandomBase, RandomRange, Select}, std.proofs.Common.{All, Bool}}
use Rattle.std.proofs.Common.{IsTrue, List, [], arith, false, map, refl, sym, ℕ, ◌*◌, ◌+◌, ◌<◌, ◌∷◌, ◌≡◌, ◌≤◌}
use Rattle.std.proofs.lemmas.{Bool.Decides.nat_tests, List.Elements.{All-from_get_or, All-head, All-map, All-tail, All-weaker}}
use Rattle.c104_interval.specs.declared.intervals.Select as interval

-- one row, with its parts as variables
row_of_parts : (limit : ℕ) (x : interval.Select) → limit < 131072 → select_of (select_code x) ≡ x → row_of_word (limit + 131072 * select_code x) ≡ record { limit = limit; select = x }
row_of_parts limit x fits decoded = search arith

pub rows_back : (rs : List Row) → All IsPackable rs → map row_of_word (map word_of_row rs) ≡ rs
rows_back [] are = refl
rows_back (r ∷ rs) are = search (arith, All-head, row_of_parts, All-tail, rows_back rs (All-tail IsPackable r rs are))

-- and each word of a row that a word can hold is one of a row
pub row_words : (rs : List Row) → All IsPackable rs → All IsRowWord (map word_of_row rs)
row_words rs are = All-map IsRowWord word_of_row rs (All-weaker IsPackable (λ r. IsRowWord (word_of_row r)) is_word rs are)
  where
    is_word : (r : Row) → IsPackable r → IsRowWord (word_of_row r)
    is_word r is = search arith

-- the mode of four bits
bits_back : (a b c d : Bool) (x y : ℕ) (t : Table) → with_mode (record { two_byte = false; delete_header = false; randomize = false; continue_group = false; random_base = x; random_range = y; table = t }) (bit_value a 1 + bit_value b 2 + bit_value c 4 + bit_value d 8) ≡ record { two_byte = a; delete_header = b; randomize = c; continue_group = d; random_base = x; random_range = y; table = t }
bits_back a b c d x y t = search arith

-- what settings within the ranges of their registers are, in the numbers of words
pub record IsSmall (s : Settings) : Type 0 where
  pub base : s.table.base < 65536
  pub random_base : s.random_base < 65536
  pub random_range : s.random_range ≤ 65536
  pub mode : mode_of s < 16
  pub rows : All IsPackable s.table.rows

fits_of : (r : Register) (v : ℕ) → IsTrue (register_takes r v) → v ≤ (register_properties r).greatest
fits_of r v takes = grind (arith, nat_tests)

pub small_from : (s : Settings) → IsInRange s → IsSmall s
small_from s is = record {
  base = let most = fits_of Base _ (is.takes reset_status Base tt refl) in omega arith;
  random_base = let most = fits_of RandomBase _ (is.takes reset_status RandomBase tt refl) in omega arith;
  random_range = fits_of RandomRange _ (is.takes reset_status RandomRange tt refl);
  mode = let most = fits_of Mode _ (is.takes reset_status Mode tt refl) in omega arith;
  rows = All-from_get_or IsPackable s.table.rows reset_row (λ k inside. record {
    limit = let most = fits_of (Limit k) _ (is.takes reset_status (Limit k) (rw (sym is.rows) inside) refl) in omega arith;
    code = fits_of (Select k) _ (is.takes reset_status (Select k) (rw (sym is.rows) inside) refl);
    decoded = is.selects k;
  });
}

-- the settings that the words of such settings stand for are these settings, and such words are packed
unpacked_by : (s : Settings) (bases modes : ℕ) → s.table.base + 65536 * s.random_base ≡ bases → s.random_range + 131072 * mode_of s ≡ modes → IsSmall s → unpacked (record { bases = bases; modes = modes; rows = map word_of_row s.table.rows }) ≡ s
unpacked_by s bases modes is_bases is_modes is = search (arith, rows_back, bits_back)

pub unpacked-packed : (s : Settings) → IsInRange s → unpacked (packed s) ≡ s
unpacked-packed s is = unpacked_by s _ _ refl refl (small_from s is)

pub ArePacked-packed : (s : Settings) → IsInRange s → ArePacked (packed s)
ArePacked-packed s range =
    let is = small_from s range in
    search (arith, row_words)
