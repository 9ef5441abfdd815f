-- Phases: where an input is with its packet, with what is known of a header that is read or that waits.
pub use Rattle.c104_switch.specs.declared.phase.Phase.{Phase, TheVariants.{Fresh, Head, Sinking, Stream, Want}}
use Rattle.c104_switch.specs.declared.header.TheConstants.{HEADER_LIMIT}
use Rattle.std.specs.{Option.option_map_or, Prelude.{Bool, List, None, Option, Some, [], false, length, true, ℕ, ◌<◌, ◌==◌}}

module _ {H : Type 0} where
  -- the output that is streamed to, whose claim the input holds
  abbrev pub streamed_output : Phase H → Option ℕ
  streamed_output Fresh = None
  streamed_output (Head b) = None
  streamed_output (Want b g) = None
  streamed_output (Stream o) = Some o
  streamed_output Sinking = None

  -- whether an output is wanted for the header
  abbrev pub is_want : Phase H → Bool
  is_want Fresh = false
  is_want (Head b) = false
  is_want (Want b g) = true
  is_want (Stream o) = false
  is_want Sinking = false

  -- whether it is output o that is streamed to
  abbrev pub is_stream : ℕ → Phase H → Bool
  is_stream o phase = option_map_or (λ p. p == o) (streamed_output phase) false

-- the same phase, where something else is known of the header
abbrev pub with_header : {H K : Type 0} → (H → K) → Phase H → Phase K
with_header f Fresh = Fresh
with_header f (Head b) = Head (f b)
with_header f (Want b g) = Want (f b) g
with_header f (Stream o) = Stream o
with_header f Sinking = Sinking

module _ {A : Type 0} where
  -- an input that reads a header has room for one more token of it
  abbrev pub HasRoom : Phase (List A) → Type 0
  HasRoom (Head b) = length b < HEADER_LIMIT
  HasRoom phase = Unit {0}

  -- an input that reads a header, or waits for a packet
  abbrev pub IsReading : Phase (List A) → Type 0
  IsReading Fresh = Unit {0}
  IsReading (Head b) = Unit {0}
  IsReading phase = ⊥

  -- the tokens that were read of the header before
  abbrev pub tokens_read : Phase (List A) → List A
  tokens_read (Head b) = b
  tokens_read phase = []
