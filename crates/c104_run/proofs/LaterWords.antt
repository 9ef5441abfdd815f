-- The words of later rounds.
use Rattle.{c104_run.specs.HandedWords.{Words, words_behind}, std.proofs.Common.{suc, zero, ℕ}}

-- the words of a round behind n others
abbrev pub words_after : Words → ℕ → ℕ → Words
words_after words switches zero = words
words_after words switches (suc n) = words_after (words_behind words switches) switches n
