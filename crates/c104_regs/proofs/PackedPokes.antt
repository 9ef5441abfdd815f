-- What is set in one part of the words of settings is set in the settings that they stand for, and what they
-- select is what those do.
use Rattle.c104_interval.specs.{Selection.{reset_row, select_from}, declared.intervals.{Row.Row, Select.TheVariants.Sink}}
use Rattle.c104_regs.specs.{Addresses.{Register, register_takes}, Packed.{first_above, row_of_word, unpacked}, Values.select_of}
use Rattle.c104_regs.specs.{Values.with_value, declared.addresses.Register.TheVariants.{Limit, Select}}
use Rattle.{c104_regs.specs.declared.packed.PackedSettings.TheInside.Inside, std.proofs.Common.{Bool, IsTrue, List, [], arith, false}}
use Rattle.std.proofs.Common.{get_or, if◌then◌else◌, length, map, nat_le, nat_lt, refl, set, true, ℕ, ◌%◌, ◌*◌, ◌+◌, ◌/◌, ◌<◌, ◌∷◌, ◌≡◌}
use Rattle.std.proofs.{Common.◌≤◌, lemmas.{Bool.Decides.nat_tests, List.{get_or-map, map-set}}}
use Rattle.c104_interval.specs.declared.intervals.Select as interval

-- the word of a row of which one part was set
limit_put : (w v : ℕ) → v < 131072 → row_of_word (w / 131072 * 131072 + v) ≡ record { limit = v; select = select_of (w / 131072) }
limit_put w v fits = search arith

code_put : (w v : ℕ) → row_of_word (w % 131072 + 131072 * v) ≡ record { limit = w % 131072; select = select_of v }
code_put w v = search arith

-- a limit that a register takes has 17 bits
pub limit_fits : (r : Register) (k v : ℕ) → r ≡ Limit k → IsTrue (register_takes r v) → v < 131072
limit_fits r k v is takes = search (arith, nat_tests)

module _ (p : Inside) (k v : ℕ) (inside : k < length p.rows) where
  -- these words with another at a row
  abbrev with_word : ℕ → Inside
  with_word w = record { bases = p.bases; modes = p.modes; rows = set p.rows k w }

  old : get_or (map row_of_word p.rows) k reset_row ≡ row_of_word (get_or p.rows k 0)
  old = get_or-map row_of_word p.rows k 0 reset_row inside

  pub limit_set : v < 131072 → unpacked (with_word (get_or p.rows k 0 / 131072 * 131072 + v)) ≡ with_value (unpacked p) (Limit k) v
  limit_set fits =
      rw (map-set row_of_word p.rows k (get_or p.rows k 0 / 131072 * 131072 + v), limit_put (get_or p.rows k 0) v fits, old) refl

  pub code_set : unpacked (with_word (get_or p.rows k 0 % 131072 + 131072 * v)) ≡ with_value (unpacked p) (Select k) v
  code_set = rw (map-set row_of_word p.rows k (get_or p.rows k 0 % 131072 + 131072 * v), code_put (get_or p.rows k 0) v, old) refl

-- what these rows select where the first begins above header h: nothing until a limit isn't above it
abbrev pub select_past : List Row → ℕ → interval.Select
select_past [] h = Sink
select_past (r ∷ rs) h = if nat_le r.limit h then first_above rs h else select_past rs h

-- with the test of the first row's limit as a variable
select_by : (low : ℕ) (rs : List Row) (h : ℕ) (from : Bool) → nat_le low h ≡ from → select_from low rs h ≡ (if from then first_above rs h else select_past rs h)
select_by low [] h true is = refl
select_by low [] h false is = refl
select_by low (r ∷ rs) h from is = row_by from (nat_lt h r.limit) is refl (select_by r.limit rs h (nat_le r.limit h) refl)
  where
    row_by : (from below : Bool) → nat_le low h ≡ from → nat_lt h r.limit ≡ below → select_from r.limit rs h ≡ (if nat_le r.limit h then first_above rs h else select_past rs h) → select_from low (r ∷ rs) h ≡ (if from then first_above (r ∷ rs) h else select_past (r ∷ rs) h)
    row_by from below is_from is_below rest = search (arith, nat_tests)

pub select_first : (low : ℕ) (rs : List Row) (h : ℕ) → low ≤ h → select_from low rs h ≡ first_above rs h
select_first low rs h from = select_by low rs h true (grind (arith, nat_tests))

pub select_later : (low : ℕ) (rs : List Row) (h : ℕ) → h < low → select_from low rs h ≡ select_past rs h
select_later low rs h past = select_by low rs h false (grind (arith, nat_tests))
