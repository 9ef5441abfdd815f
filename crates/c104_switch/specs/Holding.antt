-- Which claims the inputs hold: an input holds the claim of an output exactly while it streams to it.
use Rattle.{c104_link.specs.{Buffers.without_first, Steps.◌>>=◌}, c104_switch.specs.{Phases.{Phase, streamed_output}, Switch.Input}}
use Rattle.c104_switch.specs.{Switch.{Switch, with_buffer}, declared.input.turns.Turn.Turn}
use Rattle.std.specs.Prelude.{Bool, List, Option, [], false, option_to_list, slice_get, true, ℕ, ◌++◌, ◌∷◌, ◌≡◌}

-- the claims that go with a phase: one or none
abbrev pub phase_claims : {H : Type 0} → Phase H → List ℕ
phase_claims phase = option_to_list (streamed_output phase)

-- the claims of all inputs, in order
abbrev pub held_claims : {A : Type 0} → List (Input A) → List ℕ
held_claims [] = []
held_claims (p ∷ inputs) = phase_claims p.phase ++ held_claims inputs

-- the claim that input i of all holds, if it does
abbrev pub claim_of : {A : Type 0} → List (Input A) → ℕ → Option ℕ
claim_of ps i = slice_get ps i >>= (λ p. streamed_output p.phase)

-- the same of a switch
abbrev pub claim_at : {A : Type 0} → Switch A → ℕ → Option ℕ
claim_at s i = claim_of s.inputs i

-- whether a turn did something
abbrev pub is_done_turn : Turn → Bool
is_done_turn Turn.NotReady = false
is_done_turn Turn.Streamed = true
is_done_turn (Turn.Freed claim) = true

-- the claim that a turn gave back
abbrev pub freed_claims : Turn → List ℕ
freed_claims Turn.NotReady = []
freed_claims Turn.Streamed = []
freed_claims (Turn.Freed claim) = claim ∷ []

-- a turn by which a token of a packet streams on leaves all of the input but that token
abbrev pub HasStreamed : {A : Type 0} → Turn → Input A → Input A → Type 0
HasStreamed Turn.Streamed p q = q ≡ with_buffer p (without_first p.buffer)
HasStreamed turn p q = Unit {0}
