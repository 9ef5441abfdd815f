-- What a turn and a claim of an input keep, of the input and of the outputs.
use Rattle.{c104_interval.specs.declared.intervals.Select.Select, c104_link.proofs.MadeSteps.{All-at_place, given, length-at_place}}
use Rattle.c104_link.{proofs.MadeSteps.required, specs.{Buffers.{IsWithinLimits, Outgoing, outgoing_put}, Steps.step_at}}
use Rattle.{c104_regs.specs.declared.settings.Settings.Settings, c104_switch.proofs.SoundnessBuffers.{within_put, within_put_all}}
use Rattle.c104_switch.{proofs.{SoundnessBuffers.within_without_first, SoundnessInputs.KeepsInput}, specs.Claims.{input_claim, put_header}}
use Rattle.c104_switch.specs.{Claims.streaming_input, Headers.{decided_phase, phase_after_header}, Switch.{Fresh, Head, Input, Phase}}
use Rattle.c104_switch.specs.{Switch.{Sinking, Stream, Want}, Turns.{header_turn, input_after_token, input_turn, phase_after_token}}
use Rattle.{c104_switch.specs.Turns.{random_turn, turn_by_phase}, c104_token.specs.{Kinds.Kind, Tokens.is_end}, std.proofs.Common.All}
use Rattle.std.proofs.Common.{Bool, List, Option, Some, [], arith, false, if◌then◌else◌, length, not, refl, slice_get, ℕ, ◌&&◌, ◌≡◌}

module _ {A : Type 0} where
  -- a phase in which an input streams to no output
  abbrev pub IsNoStream : Phase (List A) → Type 0
  IsNoStream phase = (o : ℕ) → phase ≡ Stream o → ⊥

  -- outputs that came of others: as many, and within their limits as those were
  pub record KeepsOutputs (qs rs : List (Outgoing A)) : Type 0 where
    pub within : All IsWithinLimits qs → All IsWithinLimits rs
    pub length : length rs ≡ length qs

  -- outputs as they were
  pub keeps_itself : (qs : List (Outgoing A)) → KeepsOutputs qs qs
  keeps_itself qs = record { within = λ all. all; length = refl }

  -- outputs where one changes and stays within its limits
  pub keeps_at_place : (qs : List (Outgoing A)) (i : ℕ) (f : Outgoing A → Option (Outgoing A)) (rs : List (Outgoing A)) → step_at qs i f ≡ Some rs → ((q r : Outgoing A) → f q ≡ Some r → IsWithinLimits q → IsWithinLimits r) → KeepsOutputs qs rs
  keeps_at_place qs i f rs is keeps = search (arith, All-at_place, length-at_place)

  -- an input that uses its first token, or not, and streams to no output then
  used_no_stream : (p : Input A) (phase : Phase (List A)) (sunk short : Bool) → IsNoStream phase → KeepsInput p (input_after_token p phase sunk short)
  used_no_stream p phase sunk short none = search (arith, within_without_first)

  -- what a step that was made leaves keeps what its two parts keep
  keeps_some : {p : Input A} {qs : List (Outgoing A)} (q : Input A) (rs : List (Outgoing A)) (r : Input A × List (Outgoing A)) → Some (q, rs) ≡ Some r → KeepsInput p q → KeepsOutputs qs rs → KeepsInput p r.0 × KeepsOutputs qs r.1
  keeps_some {p} {qs} q rs r is input outputs = search arith

  -- what a header that joins an output keeps
  keeps_put_header : (s : Settings) (b : List A) (q r : Outgoing A) → put_header s b q ≡ Some r → IsWithinLimits q → IsWithinLimits r
  keeps_put_header s b q r is within = search (arith, within_put_all)

  -- what a claim gives: the input streams to the output, and the outputs stay within their limits
  pub claimed_gives : (settings : List Settings) (p : Input A) (qs : List (Outgoing A)) (o : ℕ) (phase : Phase (List A)) (r : Input A × List (Outgoing A)) → input_claim settings p qs o phase ≡ Some r → (streaming_input p o ≡ r.0) × KeepsOutputs qs r.1
  claimed_gives settings p qs o phase r is = search (arith, required, given, keeps_at_place, keeps_put_header)

  -- what follows a header that is complete
  decided_no_stream : (b : List A) (selected : Select) → IsNoStream (decided_phase b selected)
  decided_no_stream b selected = search arith

module _ {A : Type 0} (kind : Kind A) where
  -- what follows these tokens of a header
  read_no_stream : (s : Settings) (b : List A) → IsNoStream (phase_after_header kind s b).0
  read_no_stream s b = search (arith, decided_no_stream)

  -- an input that reads a token of a header
  keeps_on_header : (s : Settings) (p : Input A) (b : List A) (x : A) → KeepsInput p (header_turn kind s p b x)
  keeps_on_header s p b x = search (arith, used_no_stream, read_no_stream)

  -- an input that puts a random header before its packet
  keeps_on_random : (s : Settings) (word : ℕ) (p : Input A) → KeepsInput p (random_turn kind s word p)
  keeps_on_random s word p = search (arith, read_no_stream)

  -- an input that uses a token of a packet whose header was read
  keeps_after : (p : Input A) (x : A) (phase : Phase (List A)) → p.phase ≡ phase → KeepsInput p (input_after_token p (phase_after_token kind x phase) false false)
  keeps_after p x phase is = search (arith, used_no_stream, within_without_first)

  -- what a turn keeps, by the phase
  keeps_by_phase : (s : Settings) (word : ℕ) (p : Input A) (qs : List (Outgoing A)) (phase : Phase (List A)) (x : A) (r : Input A × List (Outgoing A)) → p.phase ≡ phase → turn_by_phase kind s word p qs phase x ≡ Some r → KeepsInput p r.0 × KeepsOutputs qs r.1
  keeps_by_phase s word p qs Fresh x r is made = by_random (s.randomize && not (is_end (kind.plain x))) made
    where
      by_random : (random : Bool) → (if random then Some (random_turn kind s word p, qs) else Some (header_turn kind s p [] x, qs)) ≡ Some r → KeepsInput p r.0 × KeepsOutputs qs r.1
      by_random random gives = search (arith, keeps_some, keeps_on_random, keeps_itself, keeps_on_header)
  keeps_by_phase s word p qs (Head b) x r is made = keeps_some (header_turn kind s p b x) qs r made (keeps_on_header s p b x) (keeps_itself qs)
  keeps_by_phase s word p qs (Want b g) x r is made = cc
  keeps_by_phase s word p qs (Stream o) x r is made = given (step_at qs o (outgoing_put x)) _ r made (λ rs put last.
      keeps_some (input_after_token p (phase_after_token kind x (Stream o)) false false) rs r last (keeps_after p x (Stream o) is) (keeps_at_place qs o _ rs put (within_put x)))
  keeps_by_phase s word p qs Sinking x r is made = keeps_some (input_after_token p (phase_after_token kind x Sinking) false false) qs r made (keeps_after p x Sinking is) (keeps_itself qs)

  -- what a turn keeps
  pub keeps_turn : (s : Settings) (word : ℕ) (p : Input A) (qs : List (Outgoing A)) (r : Input A × List (Outgoing A)) → input_turn kind s word p qs ≡ Some r → KeepsInput p r.0 × KeepsOutputs qs r.1
  keeps_turn s word p qs r is = given (slice_get p.buffer.items 0) _ r is (λ x here made. keeps_by_phase s word p qs p.phase x r refl made)
