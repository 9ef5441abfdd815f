-- Words that workers hand to inputs. An input that puts random headers before packets picks one by the word of its turn,
-- which in a round is 0.
use Rattle.{c104_event.specs.declared.events.Event.Event, c104_turns.specs.declared.words.{TheConstants.{SHARE, STEP}, Words.Words}}
use Rattle.rand_xoshiro.specs.SplitMix64.{mix_u64}
use Rattle.std.specs.Prelude.{ℕ, ◌%◌, ◌*◌, ◌+◌, ◌/◌, ◌^◌}

-- an event with this word: the turn of an input alone has one
abbrev pub with_word : ℕ → Event → Event
with_word w (Event.Cross port) = Event.Cross port
with_word w (Event.Credit port) = Event.Credit port
with_word w (Event.Input switch link word) = Event.Input switch link w
with_word w (Event.Claim switch input output) = Event.Claim switch input output
with_word w (Event.Control switch bytes) = Event.Control switch bytes
with_word w (Event.Send terminal packet) = Event.Send terminal packet
with_word w (Event.Drain terminal) = Event.Drain terminal

-- the number of a worker's word behind this many events that were done through its seat
abbrev pub word_number : ℕ → ℕ → ℕ
word_number worker done = (worker * SHARE % 2 ^ 64 + done) % 2 ^ 64

-- the state of the generator SplitMix64 behind this many words from a seed on
abbrev pub state_behind : ℕ → ℕ → ℕ
state_behind seed number = (seed + number * STEP % 2 ^ 64) % 2 ^ 64

-- the word that a worker hands to an input behind this many events: the upper half of the generator's
abbrev pub word_of : Words → ℕ → ℕ → ℕ
word_of Words.Zero worker done = 0
word_of (Words.Seeded seed) worker done = (mix_u64 (state_behind seed (word_number worker done))).0 / 2 ^ 32
