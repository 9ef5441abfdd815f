-- What can be seen of a switch.
use Rattle.{c104_link.specs.{Buffers.Outgoing, Steps.◌>>=◌}, c104_switch.specs.{Phases.{Phase, is_stream, with_header}, Switch.Input}}
use Rattle.{c104_switch.specs.{Switch.Switch, declared.actions.LinkView.LinkView}, c104_token.specs.{Kinds.Kind, Tokens.byte_of}}
use Rattle.std.specs.Prelude.{List, None, Option, Some, [], if◌then◌else◌, length, map, slice_get, suc, ℕ, ◌∷◌}

-- the first input, counted from n, that streams to output o
abbrev pub owner_from : {A : Type 0} → ℕ → List (Input A) → ℕ → Option ℕ
owner_from n [] o = None
owner_from n (p ∷ inputs) o = if is_stream o p.phase then Some n else owner_from (suc n) inputs o

-- the token at place k of the input of link l, where there is one
abbrev pub input_token : {A : Type 0} → Switch A → ℕ → ℕ → Option A
input_token s l k = do
  p ← slice_get s.inputs l
  slice_get p.buffer.items k

-- the same of the output of link l
abbrev pub output_token : {A : Type 0} → Switch A → ℕ → ℕ → Option A
output_token s l k = do
  q ← slice_get s.outputs l
  slice_get q.items k

module _ {A : Type 0} (kind : Kind A) where
  -- the bytes of a header's tokens
  abbrev pub header_bytes : List A → List ℕ
  header_bytes header = map (λ x. byte_of (kind.plain x)) header

  -- a phase, with the header's bytes
  abbrev pub phase_view : Phase (List A) → Phase (List ℕ)
  phase_view phase = with_header header_bytes phase

  -- what is seen of a link by its two sides
  abbrev pub sides_view : List (Input A) → ℕ → Input A → Outgoing A → LinkView
  sides_view inputs l p q = record {
    input_level = length p.buffer.items;
    output_level = length q.items;
    credit = q.credit;
    granted = p.buffer.granted;
    owner = owner_from 0 inputs l;
    phase = phase_view p.phase;
  }

  -- what is seen of link l, where there is one
  abbrev pub link_view : Switch A → ℕ → Option LinkView
  link_view s l = do
    p ← slice_get s.inputs l
    q ← slice_get s.outputs l
    Some (sides_view s.inputs l p q)
