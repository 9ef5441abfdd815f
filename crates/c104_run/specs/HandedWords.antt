-- Words that the inputs of a round are handed: one that puts random headers before packets picks one by its word.
pub use Rattle.c104_run.specs.declared.words.Words.{Words}
use Rattle.{c104_event.specs.declared.events.Event.Event, c104_node.specs.declared.port_part.PortPart.TheVariants.{Credit, Cross, Turn}}
use Rattle.{c104_plan.specs.Plans.Plan, c104_run.specs.{RoundParts.{claim_walk, drain_walk, switch_walk, terminal_walk}, Rounds.round}}
use Rattle.c104_run.specs.declared.words.TheConstants.{SHARE, STEP}
use Rattle.rand_xoshiro.specs.SplitMix64.{mix_u64}
use Rattle.std.specs.Prelude.{List, None, Option, Some, [], length, map, suc, zero, ℕ, ◌%◌, ◌*◌, ◌++◌, ◌+◌, ◌/◌, ◌^◌}

-- the words from a seed, where there is one
abbrev pub words_of : Option ℕ → Words
words_of None = Words.Zero
words_of (Some seed) = Words.Seeded seed

-- the state of the generator SplitMix64 behind n words
abbrev pub state_behind : ℕ → ℕ → ℕ
state_behind seed number = (seed + number * STEP % 2 ^ 64) % 2 ^ 64

-- the word of the input at a link of a switch, and the words of the next round, in a network of this many switches
abbrev pub word_at : Words → ℕ → ℕ → ℕ
word_at Words.Zero s l = 0
word_at (Words.Seeded seed) s l = (mix_u64 (state_behind seed ((s * SHARE % 2 ^ 64 + l) % 2 ^ 64))).0 / 2 ^ 32

abbrev pub words_behind : Words → ℕ → Words
words_behind Words.Zero switches = Words.Zero
words_behind (Words.Seeded seed) switches = Words.Seeded (state_behind seed (switches * SHARE % 2 ^ 64))

-- an event with its word: the turn of an input alone has one
abbrev pub worded : Words → Event → Event
worded words (Event.Cross p) = Event.Cross p
worded words (Event.Credit p) = Event.Credit p
worded words (Event.Input s l w) = Event.Input s l (word_at words s l)
worded words (Event.Claim s i o) = Event.Claim s i o
worded words (Event.Control s bytes) = Event.Control s bytes
worded words (Event.Send t packet) = Event.Send t packet
worded words (Event.Drain t) = Event.Drain t

abbrev pub all_worded : Words → List Event → List Event
all_worded words = map (worded words)

-- a round whose inputs are handed words, and a given number of them, each with the words behind those of the one before
abbrev pub round_with : Words → Plan → List Event
round_with words plan = all_worded words (round plan)

abbrev pub rounds_with : Words → Plan → ℕ → List Event
rounds_with words plan zero = []
rounds_with words plan (suc n) = round_with words plan ++ rounds_with (words_behind words (length plan.switches)) plan n

-- a round as it is walked, whose inputs are handed words
abbrev pub walked_with : Words → Plan → List Event
walked_with words plan =
    (switch_walk plan Credit ++ terminal_walk plan Credit)
    ++ (switch_walk plan Cross ++ terminal_walk plan Cross)
    ++ all_worded words (switch_walk plan Turn) ++ claim_walk plan ++ drain_walk plan
