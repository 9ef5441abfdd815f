-- Headers: their number, what follows one that is complete, and random ones.
use Rattle.c104_interval.specs.{Selection.select, declared.intervals.Select.{Select, TheVariants.{Discard, Link, Sink}}}
use Rattle.{c104_regs.specs.{Settings.header_length, declared.settings.Settings.Settings}, c104_switch.specs.Switch.{Head, Phase, Sinking}}
use Rattle.{c104_switch.specs.Switch.Want, c104_token.specs.{Kinds.Kind, Tokens.byte_of, declared.tokens.Token.TheVariants.Byte}}
use Rattle.std.specs.Prelude.{Bool, List, [], false, if◌then◌else◌, length, map, nat_le, suc, true, ℕ, ◌%◌, ◌*◌, ◌+◌, ◌/◌, ◌==◌, ◌∷◌}

-- the number of a header, low byte first
abbrev pub header_number : List ℕ → ℕ
header_number [] = 0
header_number (b ∷ bytes) = b + 256 * header_number bytes

-- what follows a header that is complete: it wants the selected link's group, it is thrown away and
-- the next bytes are the header, or the packet is dropped
abbrev pub decided_phase : {A : Type 0} → List A → Select → Phase (List A)
decided_phase b (Link g) = Want b g
decided_phase b Discard = Head []
decided_phase b Sink = Sinking

-- whether this is the sink, where the packet is dropped
abbrev pub is_sink : Select → Bool
is_sink (Link g) = false
is_sink Discard = false
is_sink Sink = true

-- the number that a word picks, within the range from the base on; the random header is this number
-- modulo 256 or 65536
abbrev pub random_number : Settings → ℕ → ℕ
random_number s word = s.random_base + (if s.random_range == 0 then 0 else word % s.random_range)

-- its bytes, as many as the headers of the link have, low byte first
abbrev pub random_bytes : Settings → ℕ → List ℕ
random_bytes s word =
    if s.two_byte then random_number s word % 256 ∷ (random_number s word / 256) % 256 ∷ []
    else random_number s word % 256 ∷ []

module _ {A : Type 0} (kind : Kind A) where
  -- the number that the tokens of a header say
  abbrev pub header_value : List A → ℕ
  header_value b = header_number (map (λ x. byte_of (kind.plain x)) b)

  -- the phase after these tokens of a header, and whether the packet is dropped
  abbrev pub phase_after_header : Settings → List A → Phase (List A) × Bool
  phase_after_header s b =
      if nat_le (header_length s) (length b)
      then (let selected = select s.table (header_value b) in (decided_phase b selected, is_sink selected))
      else (Head b, false)

  -- the tokens of these bytes of a random header, the first of which is at this place of it
  abbrev pub random_from : ℕ → List ℕ → List A
  random_from place [] = []
  random_from place (b ∷ bytes) = kind.random place (Byte b) ∷ random_from (suc place) bytes

  -- the tokens of the random header that a word gives
  abbrev pub random_header : Settings → ℕ → List A
  random_header s word = random_from 0 (random_bytes s word)
