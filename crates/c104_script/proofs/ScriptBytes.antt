-- What a line of a script sends is bytes, since two digits spell each.
use Rattle.{c104_control.specs.declared.bytes.TheConstants.MAX_CONTROL_BYTES, c104_event.specs.declared.events.Event.Event}
use Rattle.{c104_event.specs.declared.faults.EventFault.EventFault, c104_plan.specs.Checks.{require, value_or_fault, ◌>>=◌, ◌>>◌}}
use Rattle.c104_plan.specs.{PlanImage.Image, Plans.{Plan, header_values}, TextCut.{is_plain_line, line_words, uncommented_line}}
use Rattle.{c104_plan.specs.TextWords.dots, c104_script.specs.Addressed.{Reading, first_label, header_words, is_undotted, received}}
use Rattle.c104_script.specs.{Addressed.typed_words, HexWords.register_word, Script.{addressed_line, bytes_after, claim_line, control_line}}
use Rattle.c104_script.specs.Script.{counted_line, credit_line, cross_line, drain_line, dump_line, fair_line, input_at, input_line}
use Rattle.c104_script.specs.Script.{link_line, most_line, most_rounds, number_word, packet_of, peek_line, peek_words, place_word}
use Rattle.c104_script.specs.Script.{poke_line, poke_words, port_at, probe_line, probe_of, read_script_line, read_script_words}
use Rattle.c104_script.specs.Script.{register_line, request_of, rounds_line, seeded_line, send_line, sending_line, some_request, switch_at}
use Rattle.c104_script.specs.{Script.{table_line, terminal_at, value_words, verb_line, verb_of, verify_line}, SeedWords.seed_of}
use Rattle.c104_script.specs.declared.{faults.LineFault.LineFault, places.Request.Request, probes.Probe.Probe, words.ProbeVerb.ProbeVerb}
use Rattle.{c104_script.specs.declared.words.Verb.Verb, c104_token.{proofs.Spelling.{Spelled, accepted}, specs.Text.IsHexDigit}}
use Rattle.c104_token.specs.{Text.{SpellBytes, SpellsByte, parse_words}, declared.{faults.TokenFault.TokenFault, packets.Packet.Packet}}
use Rattle.std.proofs.Common.{All, Bool, Err, IfOk, List, None, Ok, Option, Result, Some, [], ap, arith, false, if◌then◌else◌, inl, inr}
use Rattle.std.proofs.{Common.{length, nat_le, nat_lt, refl, subst, sym, true, ℕ, ◌&&◌, ◌++◌, ◌<◌, ◌∷◌, ◌≡◌}, lemmas.List.Elements.All-cons}
use Rattle.std.{proofs.lemmas.List.Elements.All-nil, specs.Prelude.{bytes_eq, codes}}
use Rattle.c104_script.specs.declared.places.Request.TheVariants as ask

-- what an event sends, if it sends something, is bytes
abbrev pub SendsBytes : Event → Type 0
SendsBytes (Event.Send t p) = All (λ (b : ℕ). b < 256) p.bytes
SendsBytes e = Unit {0}

-- a digit's value
digit_small : (c v : ℕ) → IsHexDigit c v → v < 16
digit_small c v (inl low) = let less = low.1 in omega (arith, less)
digit_small c v (inr high) = high.2

byte_small : (w : List ℕ) (b : ℕ) → SpellsByte w b → b < 256
byte_small w b s =
    let high = digit_small s.high s.high_value s.is_high in
    let low = digit_small s.low s.low_value s.is_low in
    omega (arith, s.valued, high, low)

bytes_small : (spelling : List (List ℕ)) (bytes : List ℕ) → SpellBytes spelling bytes → All (λ (b : ℕ). b < 256) bytes
bytes_small [] [] spells = All-nil (λ (b : ℕ). b < 256)
bytes_small [] (b ∷ bytes) spells = absurd spells
bytes_small (w ∷ spelling) [] spells = absurd spells
bytes_small (w ∷ spelling) (b ∷ bytes) spells = All-cons (λ (b : ℕ). b < 256) b bytes (byte_small w b spells.0) (bytes_small spelling bytes spells.1)

packet_small : (list : List (List ℕ)) (packet : Packet) → parse_words list ≡ Ok packet → All (λ (b : ℕ). b < 256) packet.bytes
packet_small list packet is =
    let spelled : Spelled list [] packet = accepted list [] packet (omega arith) is in
    subst (λ (bytes : List ℕ). All (λ (b : ℕ). b < 256) bytes) (sym spelled.bytes_are) (bytes_small spelled.spelling spelled.rest spelled.spelled)

-- what a request sends is bytes
abbrev RequestBytes : Request → Type 0
RequestBytes (ask.Asked e) = SendsBytes e
RequestBytes it = Unit {0}

-- the value that is read is of use
chained : {X Y F : Type 0} (P : Y → Type 0) (r : Result X F) (f : X → Result Y F) → ((x : X) → r ≡ Ok x → IfOk (f x) P) → IfOk (r >>= f) P
chained P (Ok x) f each = each x refl
chained P (Err kind) f each = tt

checked : {Y F : Type 0} (P : Y → Type 0) (b : Bool) (kind : F) (r : Result Y F) → IfOk r P → IfOk (require b kind >> r) P
checked P true kind r is = is
checked P false kind r is = tt

abbrev Fine : Result Request LineFault → Type 0
Fine r = IfOk r RequestBytes

asked : {X : Type 0} (x : Result X EventFault) (f : X → Event) → ((y : X) → SendsBytes (f y)) → RequestBytes (request_of x f)
asked (Ok y) f each = each y
asked (Err kind) f each = tt

probed : {X : Type 0} (x : Result X EventFault) (f : X → Probe) → RequestBytes (probe_of x f)
probed (Ok y) f = tt
probed (Err kind) f = tt

was_packet : (r : Result Packet TokenFault) (packet : Packet) → packet_of r ≡ Ok packet → r ≡ Ok packet
was_packet (Ok p) packet is = let same : p ≡ packet = cc in ap Ok same
was_packet (Err kind) packet is = cc

module _ (plan : Plan) where
  send_fine : (place : List ℕ) (list : List (List ℕ)) → Fine (send_line plan place list)
  send_fine place list = chained RequestBytes (place_word place) _ (λ at was. chained RequestBytes (packet_of (parse_words list)) _ (λ packet is.
      asked (terminal_at plan at) (λ t. Event.Send t packet) (λ t. packet_small list packet (was_packet (parse_words list) packet is))))

  drain_fine : (place : List ℕ) → Fine (drain_line plan place)
  drain_fine place = chained RequestBytes (place_word place) _ (λ at was. asked (terminal_at plan at) Event.Drain (λ t. tt))

  cross_fine : (place : List ℕ) → Fine (cross_line plan place)
  cross_fine place = chained RequestBytes (place_word place) _ (λ at was. asked (port_at plan at) Event.Cross (λ p. tt))

  credit_fine : (place : List ℕ) → Fine (credit_line plan place)
  credit_fine place = chained RequestBytes (place_word place) _ (λ at was. asked (port_at plan at) Event.Credit (λ p. tt))

  input_fine : (place : List ℕ) (handed : Result ℕ LineFault) → Fine (input_line plan place handed)
  input_fine place handed = chained RequestBytes (place_word place) _ (λ at was. chained RequestBytes handed _ (λ word is. asked (input_at plan at) (λ r. Event.Input r.0 r.1 word) (λ r. tt)))

  claim_fine : (place a b : List ℕ) → Fine (claim_line plan place a b)
  claim_fine place a b = chained RequestBytes (place_word place) _ (λ at was. chained RequestBytes (number_word a) _ (λ i is. chained RequestBytes (number_word b) _ (λ o is'. asked (switch_at plan at) (λ s. Event.Claim s i o) (λ s. tt))))

  control_fine : (place : List ℕ) (list : List (List ℕ)) → Fine (control_line plan place list)
  control_fine place list = checked RequestBytes (nat_le (length list) MAX_CONTROL_BYTES) LineFault.BadShape _ (chained RequestBytes (place_word place) _ (λ at was. chained RequestBytes (bytes_after [] list) _ (λ bytes is. asked (switch_at plan at) (λ s. Event.Control s bytes) (λ s. tt))))

  counted_fine : (word : List ℕ) (is_fair : Bool) (behind : Option (List ℕ)) → Fine (counted_line word is_fair behind)
  counted_fine word is_fair behind = chained RequestBytes (number_word word) _ (λ count is. checked RequestBytes (nat_le 1 count && nat_le count most_rounds) LineFault.BadNumber _ (chained RequestBytes (seed_of behind) _ (λ seed is'. tt)))

  seeded_fine : (word : List ℕ) (is_fair : Bool) (key behind : List ℕ) → Fine (seeded_line word is_fair key behind)
  seeded_fine word is_fair key behind = checked RequestBytes (bytes_eq key (codes "seed")) LineFault.BadShape _ (counted_fine word is_fair (Some behind))

  fair_fine : (key : List ℕ) (line : Result Request LineFault) → Fine line → Fine (fair_line key line)
  fair_fine key line fine = checked RequestBytes (bytes_eq key (codes "fair")) LineFault.BadShape line fine

  rounds_fine : (rest : List (List ℕ)) → Fine (rounds_line rest)
  rounds_fine (word ∷ []) = counted_fine word false None
  rounds_fine (word ∷ key ∷ []) = fair_fine key _ (counted_fine word true None)
  rounds_fine (word ∷ key ∷ behind ∷ []) = seeded_fine word false key behind
  rounds_fine (word ∷ fair ∷ key ∷ behind ∷ []) = fair_fine fair _ (seeded_fine word true key behind)
  rounds_fine rest = tt

  peek_fine : (place word : List ℕ) (row : Option (List ℕ)) → Fine (peek_line plan place word row)
  peek_fine place word row = chained RequestBytes (register_line plan place word row) _ (λ found was. probed found _)

  peek_words_fine : (rest : List (List ℕ)) → Fine (peek_words plan rest)
  peek_words_fine (place ∷ word ∷ []) = peek_fine place word None
  peek_words_fine (place ∷ word ∷ row ∷ []) = peek_fine place word (Some row)
  peek_words_fine rest = tt

  poke_fine : (place word : List ℕ) (row : Option (List ℕ)) (value : List ℕ) → Fine (poke_line plan place word row value)
  poke_fine place word row value = chained RequestBytes (register_line plan place word row) _ (λ found was. chained RequestBytes (register_word value) _ (λ v is. probed found _))

  value_words_fine : (place word : List ℕ) (rest : List (List ℕ)) → Fine (value_words plan place word rest)
  value_words_fine place word (value ∷ []) = poke_fine place word None value
  value_words_fine place word (row ∷ value ∷ []) = poke_fine place word (Some row) value
  value_words_fine place word rest = tt

  poke_words_fine : (rest : List (List ℕ)) → Fine (poke_words plan rest)
  poke_words_fine (place ∷ word ∷ rest) = value_words_fine place word rest
  poke_words_fine rest = tt

  link_fine : (place : List ℕ) → Fine (link_line plan place)
  link_fine place = chained RequestBytes (place_word place) _ (λ at was. probed (input_at plan at) _)

  table_fine : (place : List ℕ) → Fine (table_line plan place)
  table_fine place = chained RequestBytes (place_word place) _ (λ at was. probed (input_at plan at) _)

  verify_fine : (word : List ℕ) → Fine (verify_line word)
  verify_fine word = by_word (bytes_eq word (codes "all"))
    where
      by_word : (b : Bool) → Fine (if b then Ok (ask.Probed Probe.VerifyAll) else Err LineFault.BadShape)
      by_word true = tt
      by_word false = tt

  dump_fine : (place : List ℕ) → Fine (dump_line plan place)
  dump_fine place = chained RequestBytes (place_word place) _ (λ at was. probed (switch_at plan at) _)

  probe_fine : (word : ProbeVerb) (rest : List (List ℕ)) → Fine (probe_line word plan rest)
  probe_fine ProbeVerb.Peek rest = peek_words_fine rest
  probe_fine ProbeVerb.Poke rest = poke_words_fine rest
  probe_fine ProbeVerb.Link (place ∷ []) = link_fine place
  probe_fine ProbeVerb.Table (place ∷ []) = table_fine place
  probe_fine ProbeVerb.Verify [] = tt
  probe_fine ProbeVerb.Verify (word ∷ []) = verify_fine word
  probe_fine ProbeVerb.Dump (place ∷ []) = dump_fine place
  probe_fine word rest = tt

  -- what a line asks sends bytes
  abbrev pub AskedBytes : Option Request → Type 0
  AskedBytes None = Unit {0}
  AskedBytes (Some (ask.Asked e)) = SendsBytes e
  AskedBytes (Some it) = Unit {0}

  some_fine : (r : Result Request LineFault) → Fine r → IfOk (some_request r) AskedBytes
  some_fine (Ok (ask.Asked e)) fine = fine
  some_fine (Ok it) fine = tt
  some_fine (Err kind) fine = tt

  module _ (image : Image) where
    received_fine : (found : Result ℕ EventFault) (it : Request) → RequestBytes it → RequestBytes (received found it)
    received_fine (Ok t) it fine = fine
    received_fine (Err kind) (ask.Refused first) fine = tt
    received_fine (Err kind) (ask.Asked e) fine = tt
    received_fine (Err kind) (ask.Rounds count is_fair seed) fine = tt
    received_fine (Err kind) ask.Settle fine = tt
    received_fine (Err kind) (ask.Probed it) fine = tt

    addressed_fine : (place : List ℕ) (list : List (List ℕ)) → Fine (addressed_line plan image place list)
    addressed_fine place [] = send_fine place []
    addressed_fine place (to ∷ list) =
        checked RequestBytes (is_undotted (dots place)) LineFault.BadShape _
        (chained RequestBytes (place_word to) _ (λ at was.
        chained RequestBytes (send_line plan place (words_at at)) _ (λ it is.
        checked RequestBytes (nat_lt (first_label image (terminal_at plan at)) (header_values plan.header)) LineFault.NoLabel _
        (received_fine (terminal_at plan at) it (subst Fine is (send_fine place (words_at at)))))))
      where
        words_at : List ℕ × Option ℕ → List (List ℕ)
        words_at at = header_words plan.header (first_label image (terminal_at plan at)) ++ typed_words Reading.Word list

    sending_fine : (place : List ℕ) (list : List (List ℕ)) → Fine (sending_line plan image place list)
    sending_fine place [] = send_fine place []
    sending_fine place (first ∷ more) = by_word (bytes_eq first (codes "to"))
      where
        by_word : (b : Bool) → Fine (if b then addressed_line plan image place more else send_line plan place (first ∷ more))
        by_word true = addressed_fine place more
        by_word false = send_fine place (first ∷ more)

    verb_fine : (word : Verb) (rest : List (List ℕ)) → Fine (verb_line word plan image rest)
    verb_fine Verb.Send (place ∷ list) = sending_fine place list
    verb_fine Verb.Drain (place ∷ []) = drain_fine place
    verb_fine Verb.Cross (place ∷ []) = cross_fine place
    verb_fine Verb.Credit (place ∷ []) = credit_fine place
    verb_fine Verb.Input (place ∷ []) = input_fine place (Ok 0)
    verb_fine Verb.Input (place ∷ word ∷ []) = input_fine place (number_word word)
    verb_fine Verb.Claim (place ∷ a ∷ b ∷ []) = claim_fine place a b
    verb_fine Verb.Control (place ∷ list) = control_fine place list
    verb_fine Verb.Rounds rest = rounds_fine rest
    verb_fine Verb.Settle [] = tt
    verb_fine Verb.Settle (first ∷ rest) = tt
    verb_fine (Verb.Probe word) rest = probe_fine word rest
    verb_fine word rest = tt

    words_fine : (is_plain : Bool) (list : List (List ℕ)) → IfOk (read_script_words plan image is_plain list) AskedBytes
    words_fine is_plain [] = tt
    words_fine is_plain (first ∷ rest) = chained AskedBytes (value_or_fault (verb_of first) LineFault.UnknownWord) _ (λ word is. checked AskedBytes is_plain LineFault.BadShape _ (some_fine (verb_line word plan image rest) (verb_fine word rest)))

    pub line_bytes : (line : List ℕ) → IfOk (read_script_line plan image line) AskedBytes
    unfolding read_script_line
    line_bytes line = by_test (nat_le (length line) most_line)
      where
        by_test : (b : Bool) → IfOk (if b then read_script_words plan image (is_plain_line (uncommented_line line)) (line_words (uncommented_line line)) else Err LineFault.LineTooLong) AskedBytes
        by_test true = words_fine (is_plain_line (uncommented_line line)) (line_words (uncommented_line line))
        by_test false = tt
