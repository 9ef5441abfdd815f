-- Which of the 32 outputs are taken: a mark for each, set where the output belongs to a claim. A claim
-- is the number of its output.
use Rattle.c104_crossbar.specs.{Groups.has_bit, declared.TheConstants.LINKS}
use Rattle.std.specs.Prelude.{Bool, List, None, Option, Some, [], false, if◌then◌else◌, nat_lt, not, option_to_list, replicate}
use Rattle.std.specs.Prelude.{slice_index_or, slice_set, suc, true, zero, ℕ, ◌++◌, ◌+◌, ◌==◌, ◌∷◌, ◌≡◌}

-- the marks that the bits of a word are, for n outputs from output o on
abbrev pub marks_from : ℕ → ℕ → ℕ → List Bool
marks_from word o zero = []
marks_from word o (suc n) = has_bit word o ∷ marks_from word (suc o) n

-- the marks of the 32 outputs
unfoldable pub marks_of : ℕ → List Bool
marks_of word = marks_from word 0 LINKS

-- the marks at first: no output is taken
abbrev pub all_free : List Bool
all_free = replicate LINKS false

-- output o is free: its mark is there and isn't set, so past the last output none is free
abbrev pub is_free : List Bool → ℕ → Bool
is_free marks o = not (slice_index_or marks o true)

-- a claim of output o, and the marks after it: none where the output isn't free
abbrev pub crossbar_claim : List Bool → ℕ → Option ℕ × List Bool
crossbar_claim marks o = if is_free marks o then (Some o, slice_set marks o true) else (None, marks)

-- the marks after a claim of output o was given back
abbrev pub crossbar_release : List Bool → ℕ → List Bool
crossbar_release marks o = slice_set marks o false

-- 1 for true, 0 for false
abbrev pub bool_number : Bool → ℕ
bool_number true = 1
bool_number false = 0

-- how many of these claims are of output o
abbrev pub times : ℕ → List ℕ → ℕ
times o [] = 0
times o (claim ∷ claims) = bool_number (o == claim) + times o claims

-- these claims and the free outputs are the 32 outputs, each once, and nothing else
abbrev pub ArePartition : List ℕ → List Bool → Type 0
ArePartition claims marks =
    (o : ℕ) → times o claims + bool_number (is_free marks o) ≡ bool_number (nat_lt o LINKS)

-- whatever other claims there are, the outputs stay a partition where this claim, if any, was made
abbrev pub ClaimKeepsPartition : List Bool → Option ℕ → List Bool → Type 0
ClaimKeepsPartition marks claim after =
    (claims : List ℕ) → ArePartition claims marks → ArePartition (option_to_list claim ++ claims) after

-- and where this claim was given back
abbrev pub ReleaseKeepsPartition : List Bool → ℕ → List Bool → Type 0
ReleaseKeepsPartition marks claim after =
    (claims : List ℕ) → ArePartition (claim ∷ claims) marks → ArePartition claims after
