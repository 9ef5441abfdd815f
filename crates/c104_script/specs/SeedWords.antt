-- Words of seeds, which are longer numbers than others.
use Rattle.c104_plan.specs.{Checks.{require, value_or_fault, ◌>>=◌, ◌>>◌}, TextWords.{is_digit, value_of}}
use Rattle.c104_script.specs.declared.faults.LineFault.{LineFault}
use Rattle.std.specs.{List.list_all, Prelude.{List, None, Ok, Option, Result, Some, if◌then◌else◌, length, nat_le, ℕ, ◌&&◌}}

-- the most digits of a seed
abbrev pub most_seed_digits : ℕ
most_seed_digits = 20

-- the largest seed, 2^64 - 1
abbrev pub largest_seed : ℕ
largest_seed = 18446744073709551615

-- the number that decimal digits spell, at least one and at most 20 of them
abbrev pub long_number : List ℕ → Option ℕ
long_number word =
    if (nat_le 1 (length word) && nat_le (length word) most_seed_digits) && list_all is_digit word
    then Some (value_of word)
    else None

-- the seed that a word spells, or that it spells none
abbrev pub seed_word : List ℕ → Result ℕ LineFault
seed_word word = do
  seed ← value_or_fault (long_number word) LineFault.BadNumber
  require (nat_le seed largest_seed) LineFault.BadNumber
  Ok seed

-- the seed of a line, if it has a word for one
abbrev pub seed_of : Option (List ℕ) → Result (Option ℕ) LineFault
seed_of None = Ok None
seed_of (Some word) = do
  seed ← seed_word word
  Ok (Some seed)
