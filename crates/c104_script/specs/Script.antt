-- The grammar of a script: what a line asks of a network of this plan, with the labels of this image. Of all that is wrong with a
-- line the fault of the least number is answered, so conditions stand in the order of the faults'
-- numbers; but a packet's words are read from the left, after all else.
pub use Rattle.c104_script.specs.declared.{faults.LineFault.LineFault, places.Request.Request, probes.Probe.Probe}
pub use Rattle.c104_script.specs.declared.words.{ProbeVerb.ProbeVerb, Verb.Verb}
use Rattle.{c104_control.specs.declared.bytes.TheConstants.MAX_CONTROL_BYTES, c104_event.specs.declared.events.Event.Event}
use Rattle.{c104_event.specs.declared.faults.EventFault.{EventFault, TheVariants.{NoLink, NoNode}}, c104_plan.specs.Checks.require}
use Rattle.c104_plan.specs.{Checks.{value_or_fault, ◌>>=◌, ◌>>◌}, PlanImage.Image, Plans.{Plan, header_values, switch_number}}
use Rattle.c104_plan.specs.{Plans.terminal_number, TextCut.{is_plain_line, line_words, uncommented_line}, TextWords.{dots, read_number}}
use Rattle.c104_plan.specs.declared.{ports.Port.Port, text.Dots.{Dots, TheVariants.{At, Several, Without}}}
use Rattle.c104_script.specs.{Addressed.{Reading, first_label, header_words, is_undotted, received, typed_words}, HexWords.register_word}
use Rattle.c104_script.specs.{RegisterWords.{is_row_due, register_place, register_with}, SeedWords.seed_of}
use Rattle.{c104_script.specs.declared.places.Request.TheVariants.{Asked, Probed, Refused, Rounds}, c104_token.specs.Text.parse_words}
use Rattle.c104_token.specs.{Text.spelled_byte, declared.{faults.TokenFault.TokenFault, packets.Packet.Packet}}
use Rattle.std.specs.{Map.lookup, Prelude.{Bool, Err, List, None, Ok, Option, Result, Some, [], bytes_eq, codes, drop, false}}
use Rattle.std.specs.Prelude.{if◌then◌else◌, length, nat_le, nat_lt, take, true, ℕ, ◌&&◌, ◌++◌, ◌+◌, ◌∷◌, ◌≡◌, ◌⊎◌}

-- the number that a word spells, or that it spells none
abbrev pub number_word : List ℕ → Result ℕ LineFault
number_word word = value_or_fault (read_number word) LineFault.BadNumber

-- the two sides of a word's dot, by where it is; a word without a dot names no link
abbrev pub place_at : List ℕ → Dots → Result (List ℕ × Option ℕ) LineFault
place_at word Without = Ok (word, None)
place_at word Several = Err LineFault.BadShape
place_at word (At at) = do
  link ← number_word (drop (at + 1) word)
  Ok (take at word, Some link)

-- a node, `NAME`, or a port, `NAME.NUMBER`: what stands for the name, and the link
abbrev pub place_word : List ℕ → Result (List ℕ × Option ℕ) LineFault
place_word word = place_at word (dots word)

-- a node that is named without a link
abbrev pub node_with : Option ℕ → Option ℕ → Result ℕ EventFault
node_with None link = Err NoNode
node_with (Some n) None = Ok n
node_with (Some n) (Some l) = Err NoLink

-- the number of the terminal that a place names: by its name, without a link
abbrev pub terminal_at : Plan → List ℕ × Option ℕ → Result ℕ EventFault
terminal_at plan place = node_with (terminal_number plan place.0) place.1

-- the number of the switch that a place names: by its name, without a link
abbrev pub switch_at : Plan → List ℕ × Option ℕ → Result ℕ EventFault
switch_at plan place = node_with (switch_number plan place.0) place.1

-- an input is a switch's link, and named with it
abbrev pub input_with : Option ℕ → Option ℕ → Result (ℕ × ℕ) EventFault
input_with None link = Err NoNode
input_with (Some s) None = Err NoLink
input_with (Some s) (Some l) = Ok (s, l)

-- the switch and the link of the input that a place names
abbrev pub input_at : Plan → List ℕ × Option ℕ → Result (ℕ × ℕ) EventFault
input_at plan place = input_with (switch_number plan place.0) place.1

-- the port of an input: its switch's link
abbrev pub port_of_input : Result (ℕ × ℕ) EventFault → Result Port EventFault
port_of_input (Ok r) = Ok (Port.Switch r.0 r.1)
port_of_input (Err f) = Err f

-- a port is a terminal, named without a link, or a switch's link
abbrev pub port_with : Option ℕ → Option ℕ → Option ℕ → Result Port EventFault
port_with (Some t) switch None = Ok (Port.Terminal t)
port_with (Some t) switch (Some l) = Err NoLink
port_with None switch link = port_of_input (input_with switch link)

-- the port that a place names
abbrev pub port_at : Plan → List ℕ × Option ℕ → Result Port EventFault
port_at plan place = port_with (terminal_number plan place.0) (switch_number plan place.0) place.1

-- an event of what was found, or the refusal where nothing was
abbrev pub request_of : {X : Type 0} → Result X EventFault → (X → Event) → Request
request_of (Ok x) f = Asked (f x)
request_of (Err kind) f = Refused kind

-- what is wrong with a packet's words
abbrev pub packet_fault : TokenFault → LineFault
packet_fault TokenFault.BadHex = LineFault.BadHex
packet_fault TokenFault.NoEnd = LineFault.NoEnd
packet_fault TokenFault.AfterEnd = LineFault.AfterEnd
packet_fault TokenFault.TooLong = LineFault.PacketTooLong
packet_fault TokenFault.NoMemory = LineFault.NoMemory

-- the packet that was read, or what is wrong with its words
abbrev pub packet_of : Result Packet TokenFault → Result Packet LineFault
packet_of (Ok packet) = Ok packet
packet_of (Err kind) = Err (packet_fault kind)

-- a packet that is sent, or the refusal where no sender was found
abbrev pub sent_by : Result ℕ EventFault → Packet → Request
sent_by sender packet = request_of sender (λ t. Event.Send t packet)

-- `send T PACKET`
abbrev pub send_line : Plan → List ℕ → List (List ℕ) → Result Request LineFault
send_line plan node packet_words = do
  place ← place_word node
  packet ← packet_of (parse_words packet_words)
  Ok (sent_by (terminal_at plan place) packet)

-- `send T to U BYTES`, by the words behind `to`: the line in which the header and all bytes are typed, if U is there and its first
-- label is a header
abbrev pub addressed_line : Plan → Image → List ℕ → List (List ℕ) → Result Request LineFault
addressed_line plan image node [] = send_line plan node []
addressed_line plan image node (receiver ∷ words) = do
  require (is_undotted (dots node)) LineFault.BadShape
  place ← place_word receiver
  request ← send_line plan node (header_words plan.header (first_label image (terminal_at plan place)) ++ typed_words Reading.Word words)
  require (nat_lt (first_label image (terminal_at plan place)) (header_values plan.header)) LineFault.NoLabel
  Ok (received (terminal_at plan place) request)

-- `send T PACKET`, or `send T to U BYTES`
abbrev pub sending_line : Plan → Image → List ℕ → List (List ℕ) → Result Request LineFault
sending_line plan image node [] = send_line plan node []
sending_line plan image node (first ∷ more) =
    if bytes_eq first (codes "to") then addressed_line plan image node more else send_line plan node (first ∷ more)

-- `drain T`
abbrev pub drain_line : Plan → List ℕ → Result Request LineFault
drain_line plan node = do
  place ← place_word node
  Ok (request_of (terminal_at plan place) Event.Drain)

-- `cross P`
abbrev pub cross_line : Plan → List ℕ → Result Request LineFault
cross_line plan node = do
  place ← place_word node
  Ok (request_of (port_at plan place) Event.Cross)

-- `credit P`
abbrev pub credit_line : Plan → List ℕ → Result Request LineFault
credit_line plan node = do
  place ← place_word node
  Ok (request_of (port_at plan place) Event.Credit)

-- `input S.l`, with the word that is handed in
abbrev pub input_line : Plan → List ℕ → Result ℕ LineFault → Result Request LineFault
input_line plan node handed = do
  place ← place_word node
  word ← handed
  Ok (request_of (input_at plan place) (λ r. Event.Input r.0 r.1 word))

-- `claim S i o`
abbrev pub claim_line : Plan → List ℕ → List ℕ → List ℕ → Result Request LineFault
claim_line plan node input_word output_word = do
  place ← place_word node
  input ← number_word input_word
  output ← number_word output_word
  Ok (request_of (switch_at plan place) (λ s. Event.Claim s input output))

-- the bytes that words spell, after these: each is two hexadecimal digits
abbrev pub bytes_after : List ℕ → List (List ℕ) → Result (List ℕ) LineFault
bytes_after bytes [] = Ok bytes
bytes_after bytes (word ∷ more) = do
  byte ← value_or_fault (spelled_byte word) LineFault.BadHex
  bytes_after (bytes ++ byte ∷ []) more

-- `control S HEX..`
abbrev pub control_line : Plan → List ℕ → List (List ℕ) → Result Request LineFault
control_line plan node byte_words = do
  require (nat_le (length byte_words) MAX_CONTROL_BYTES) LineFault.BadShape
  place ← place_word node
  bytes ← bytes_after [] byte_words
  Ok (request_of (switch_at plan place) (λ s. Event.Control s bytes))

-- the most rounds that a line asks for
abbrev pub most_rounds : ℕ
most_rounds = 10000

-- the count of rounds, whether they are fair, and their seed if a word for it stands there
abbrev pub counted_line : List ℕ → Bool → Option (List ℕ) → Result Request LineFault
counted_line count_word is_fair seed_word = do
  count ← number_word count_word
  require (nat_le 1 count && nat_le count most_rounds) LineFault.BadNumber
  seed ← seed_of seed_word
  Ok (Rounds count is_fair seed)

-- `rounds N seed S`, or what is left of a fair line without the word `fair`
abbrev pub seeded_line : List ℕ → Bool → List ℕ → List ℕ → Result Request LineFault
seeded_line count_word is_fair key seed_word = do
  require (bytes_eq key (codes "seed")) LineFault.BadShape
  counted_line count_word is_fair (Some seed_word)

-- a line whose word at the place of `fair` is to be this
abbrev pub fair_line : List ℕ → Result Request LineFault → Result Request LineFault
fair_line key line = do
  require (bytes_eq key (codes "fair")) LineFault.BadShape
  line

-- `rounds N [fair] [seed S]`, by the words after the first
abbrev pub rounds_line : List (List ℕ) → Result Request LineFault
rounds_line (count_word ∷ []) = counted_line count_word false None
rounds_line (count_word ∷ fair ∷ []) = fair_line fair (counted_line count_word true None)
rounds_line (count_word ∷ key ∷ seed_word ∷ []) = seeded_line count_word false key seed_word
rounds_line (count_word ∷ fair ∷ key ∷ seed_word ∷ []) = fair_line fair (seeded_line count_word true key seed_word)
rounds_line rest = Err LineFault.BadShape

-- what is asked of what was found, or the refusal where nothing was
abbrev pub probe_of : {X : Type 0} → Result X EventFault → (X → Probe) → Request
probe_of (Ok x) f = Probed (f x)
probe_of (Err kind) f = Refused kind

-- the switch and the address of the register that words stand for, or why there is none
abbrev pub register_line : Plan → List ℕ → List ℕ → Option (List ℕ) → Result (Result (ℕ × ℕ) EventFault) LineFault
register_line plan node word row_word = do
  require (is_row_due word row_word) LineFault.BadShape
  place ← place_word node
  register ← register_place word row_word
  Ok (register_with (switch_number plan place.0) place.1 register)

-- `peek S ADDR`, `peek S NAME`, `peek S.l NAME` or `peek S.l NAME K`
abbrev pub peek_line : Plan → List ℕ → List ℕ → Option (List ℕ) → Result Request LineFault
peek_line plan node word row_word = do
  found ← register_line plan node word row_word
  Ok (probe_of found (λ r. Probe.Peek r.0 r.1))

-- the words behind `peek`
abbrev pub peek_words : Plan → List (List ℕ) → Result Request LineFault
peek_words plan (node ∷ word ∷ []) = peek_line plan node word None
peek_words plan (node ∷ word ∷ row_word ∷ []) = peek_line plan node word (Some row_word)
peek_words plan rest = Err LineFault.BadShape

-- `poke` with the same, and `VALUE` behind it
abbrev pub poke_line : Plan → List ℕ → List ℕ → Option (List ℕ) → List ℕ → Result Request LineFault
poke_line plan node word row_word value_word = do
  found ← register_line plan node word row_word
  value ← register_word value_word
  Ok (probe_of found (λ r. Probe.Poke r.0 r.1 value))

-- the words behind those for a switch and for a register
abbrev pub value_words : Plan → List ℕ → List ℕ → List (List ℕ) → Result Request LineFault
value_words plan node word (value_word ∷ []) = poke_line plan node word None value_word
value_words plan node word (row_word ∷ value_word ∷ []) = poke_line plan node word (Some row_word) value_word
value_words plan node word rest = Err LineFault.BadShape

-- the words behind `poke`
abbrev pub poke_words : Plan → List (List ℕ) → Result Request LineFault
poke_words plan (node ∷ word ∷ rest) = value_words plan node word rest
poke_words plan rest = Err LineFault.BadShape

-- `link S.l`
abbrev pub link_line : Plan → List ℕ → Result Request LineFault
link_line plan node = do
  place ← place_word node
  Ok (probe_of (input_at plan place) (λ r. Probe.Link r.0 r.1))

-- `table S.l`
abbrev pub table_line : Plan → List ℕ → Result Request LineFault
table_line plan node = do
  place ← place_word node
  Ok (probe_of (input_at plan place) (λ r. Probe.Table r.0 r.1))

-- the word behind `verify`, which is `all`
abbrev pub verify_line : List ℕ → Result Request LineFault
verify_line word = if bytes_eq word (codes "all") then Ok (Probed Probe.VerifyAll) else Err LineFault.BadShape

-- `dump S`
abbrev pub dump_line : Plan → List ℕ → Result Request LineFault
dump_line plan node = do
  place ← place_word node
  Ok (probe_of (switch_at plan place) Probe.Dump)

-- a line of the debugger, by what its first word asks for and the words after it
abbrev pub probe_line : ProbeVerb → Plan → List (List ℕ) → Result Request LineFault
probe_line ProbeVerb.Peek plan rest = peek_words plan rest
probe_line ProbeVerb.Poke plan rest = poke_words plan rest
probe_line ProbeVerb.Link plan (node ∷ []) = link_line plan node
probe_line ProbeVerb.Table plan (node ∷ []) = table_line plan node
probe_line ProbeVerb.Verify plan [] = Ok (Probed Probe.Verify)
probe_line ProbeVerb.Verify plan (word ∷ []) = verify_line word
probe_line ProbeVerb.Dump plan (node ∷ []) = dump_line plan node
probe_line verb plan rest = Err LineFault.BadShape

-- the words with which lines begin, those of the debugger last
abbrev pub verbs : List (List ℕ × Verb)
verbs =
    (codes "send", Verb.Send)
    ∷ (codes "drain", Verb.Drain)
    ∷ (codes "cross", Verb.Cross)
    ∷ (codes "credit", Verb.Credit)
    ∷ (codes "input", Verb.Input)
    ∷ (codes "claim", Verb.Claim)
    ∷ (codes "control", Verb.Control)
    ∷ (codes "rounds", Verb.Rounds)
    ∷ (codes "settle", Verb.Settle)
    ∷ (codes "peek", Verb.Probe ProbeVerb.Peek)
    ∷ (codes "poke", Verb.Probe ProbeVerb.Poke)
    ∷ (codes "link", Verb.Probe ProbeVerb.Link)
    ∷ (codes "table", Verb.Probe ProbeVerb.Table)
    ∷ (codes "verify", Verb.Probe ProbeVerb.Verify)
    ∷ (codes "dump", Verb.Probe ProbeVerb.Dump)
    ∷ []

-- what the first word of a line asks for
abbrev pub verb_of : List ℕ → Option Verb
verb_of word = lookup (λ known. bytes_eq known word) verbs

-- a line, by what its first word asks for and the words after it
abbrev pub verb_line : Verb → Plan → Image → List (List ℕ) → Result Request LineFault
verb_line Verb.Send plan image (node ∷ packet_words) = sending_line plan image node packet_words
verb_line Verb.Drain plan image (node ∷ []) = drain_line plan node
verb_line Verb.Cross plan image (node ∷ []) = cross_line plan node
verb_line Verb.Credit plan image (node ∷ []) = credit_line plan node
verb_line Verb.Input plan image (node ∷ []) = input_line plan node (Ok 0)
verb_line Verb.Input plan image (node ∷ word ∷ []) = input_line plan node (number_word word)
verb_line Verb.Claim plan image (node ∷ input_word ∷ output_word ∷ []) = claim_line plan node input_word output_word
verb_line Verb.Control plan image (node ∷ byte_words) = control_line plan node byte_words
verb_line Verb.Rounds plan image rest = rounds_line rest
verb_line Verb.Settle plan image [] = Ok Request.Settle
verb_line (Verb.Probe word) plan image rest = probe_line word plan rest
verb_line verb plan image rest = Err LineFault.BadShape

-- a line with words
abbrev pub some_request : Result Request LineFault → Result (Option Request) LineFault
some_request (Ok request) = Ok (Some request)
some_request (Err kind) = Err kind

-- a line, by its words; is_plain says that it has no byte that no line may have
abbrev pub read_script_words : Plan → Image → Bool → List (List ℕ) → Result (Option Request) LineFault
read_script_words plan image is_plain [] = Ok None
read_script_words plan image is_plain (first ∷ rest) = do
  verb ← value_or_fault (verb_of first) LineFault.UnknownWord
  require is_plain LineFault.BadShape
  some_request (verb_line verb plan image rest)

-- the most bytes of a line, its line feed left out
abbrev pub most_line : ℕ
most_line = 16384

-- what a line asks, which is nothing where it has no words, or what is wrong with it
unfoldable pub read_script_line : Plan → Image → List ℕ → Result (Option Request) LineFault
read_script_line plan image line =
    if nat_le (length line) most_line then read_script_words plan image (is_plain_line (uncommented_line line)) (line_words (uncommented_line line))
    else Err LineFault.LineTooLong

-- what is due, or out of memory
abbrev pub GivesLineOrNoMemory : {X : Type 0} → Result X LineFault → Result X LineFault → Type 0
GivesLineOrNoMemory result due = (result ≡ due) ⊎ (result ≡ Err LineFault.NoMemory)
