-- Fair rounds: the events of rounds, of which the claims of each switch go by turns. First come those of the input that was
-- served longest ago, and of an input those of the output that was taken longest ago.
--     fair_events apply words plan n s      those of n rounds, from a state with its turns on
pub use Rattle.c104_run.specs.declared.turns.SwitchTurns.{SwitchTurns}
use Rattle.{c104_event.specs.declared.{events.Event.Event, faults.EventFault.EventFault}, c104_plan.specs.Plans.Plan}
use Rattle.c104_run.specs.{EventRuns.run_events, HandedWords.{Words, all_worded, words_behind}, NetRecords.is_done, Rounds.all_drains}
use Rattle.{c104_run.specs.Rounds.{link_numbers, turn_at, wired_ports}, c104_switch.specs.Actions.Reply}
use Rattle.std.specs.{List.{flat_map, range_with_len}, Prelude.{Bool, List, Result, [], if◌then◌else◌, length, map, nat_eq, slice_get}}
use Rattle.std.specs.Prelude.{slice_set, suc, unwrap_or, zero, ℕ, ◌++◌, ◌∷◌}

-- a link goes behind all others
abbrev pub to_back : ℕ → List ℕ → List ℕ
to_back l [] = []
to_back l (x ∷ links) = if nat_eq x l then links ++ x ∷ [] else x ∷ to_back l links

-- before any was served: by their numbers
abbrev pub first_turns : SwitchTurns
first_turns = record { inputs = link_numbers; outputs = link_numbers }

-- the turns of a switch, and after a claim there
abbrev pub turns_of : List SwitchTurns → ℕ → SwitchTurns
turns_of turns s = unwrap_or (slice_get turns s) first_turns

abbrev pub served : ℕ → ℕ → SwitchTurns → SwitchTurns
served i o t = record { inputs = to_back i t.inputs; outputs = to_back o t.outputs }

-- the turns of all switches after an event that was done
abbrev pub turned : List SwitchTurns → Event → List SwitchTurns
turned turns (Event.Cross p) = turns
turned turns (Event.Credit p) = turns
turned turns (Event.Input s l w) = turns
turned turns (Event.Claim s i o) = slice_set turns s (served i o (turns_of turns s))
turned turns (Event.Control s bytes) = turns
turned turns (Event.Send t packet) = turns
turned turns (Event.Drain t) = turns

abbrev pub turned_if : Bool → List SwitchTurns → Event → List SwitchTurns
turned_if done turns e = if done then turned turns e else turns

-- a state with turns, and what events come to there
pub record InTurn (S : Type 0) : Type 0 where
  pub state : S
  pub turns : List SwitchTurns

abbrev pub in_turn : {S : Type 0} → S → List SwitchTurns → InTurn S
in_turn state turns = record { state = state; turns = turns }

abbrev pub fairly : {S : Type 0} → (S → Event → Result Reply EventFault × S) → InTurn S → Event → Result Reply EventFault × InTurn S
fairly apply x e = let due = apply x.state e in (due.0, in_turn due.1 (turned_if (is_done due.0) x.turns e))

-- the claims of an input, of a switch and of a given number of switches, by turns
abbrev pub output_turns : ℕ → ℕ → List ℕ → List Event
output_turns s i outputs = flat_map (λ o. Event.Claim s i o ∷ []) outputs

abbrev pub switch_turns : ℕ → SwitchTurns → List Event
switch_turns s t = flat_map (λ i. output_turns s i t.outputs) t.inputs

abbrev pub fair_claims : List SwitchTurns → ℕ → List Event
fair_claims turns switches = flat_map (λ s. switch_turns s (turns_of turns s)) (range_with_len 0 switches)

-- a fair round: the events of a round whose inputs are handed words, with its claims by turns
abbrev pub fair_round : Words → List SwitchTurns → Plan → List Event
fair_round words turns plan =
    all_worded words
    (map Event.Credit (wired_ports plan) ++ map Event.Cross (wired_ports plan) ++ flat_map turn_at (wired_ports plan))
    ++ fair_claims turns (length plan.switches) ++ all_drains (length plan.terminals)

-- a given number of them, each by the turns that those before it left
abbrev pub fair_events : {S : Type 0} → (S → Event → Result Reply EventFault × S) → Words → Plan → ℕ → InTurn S → List Event
fair_events apply words plan zero x = []
fair_events apply words plan (suc n) x =
    let now = fair_round words x.turns plan in
    now ++ fair_events apply (words_behind words (length plan.switches)) plan n (run_events (fairly apply) x now).1
