-- Ranks of inputs, in a list by place.
use Rattle.c104_check.specs.Routes.{SwitchPort, place}
use Rattle.std.specs.Prelude.{List, slice_index_or, ℕ}

abbrev pub rank_at : List ℕ → ℕ → ℕ
rank_at ranks place = slice_index_or ranks place 0

-- the rank of an input
abbrev pub rank_in : List ℕ → SwitchPort → ℕ
rank_in ranks p = rank_at ranks (place p)
