-- How long an input waits in fair rounds.
--     FairWaits net      of the packets of other inputs at most 31 pass an input that waits
use Rattle.{c104_deadlock.specs.DeadlockFreedom.AreOrders, c104_event.specs.declared.events.Event.Event}
use Rattle.c104_run.specs.{EventRuns.run_events, FairRounds.{InTurn, fair_events, fairly, in_turn}, NetRecords.{NetRecord, is_done}}
use Rattle.c104_run.specs.{RecordedRuns.record_apply, declared.{turns.SwitchTurns.SwitchTurns, words.Words.Words}}
use Rattle.std.specs.Prelude.{Bool, List, Ok, [], false, if◌then◌else◌, length, nat_eq, not, suc, ℕ, ◌&&◌, ◌++◌, ◌<◌, ◌∷◌, ◌≡◌, ◌≤◌}

-- whether input i of switch s would be given output o
abbrev pub may_have : NetRecord → ℕ → ℕ → ℕ → Bool
may_have net s i o = is_done (record_apply net (Event.Claim s i o)).0

-- an event gives input i of switch s an output
abbrev pub serves : ℕ → ℕ → NetRecord → Event → Bool
serves s i net (Event.Claim t j o) = nat_eq t s && nat_eq j i && may_have net s i o
serves s i net e = false

-- an event gives another input of that switch an output that input i would have been given: a packet passes that of input i
abbrev pub passes : ℕ → ℕ → NetRecord → Event → Bool
passes s i net (Event.Claim t j o) = nat_eq t s && not (nat_eq j i) && may_have net s j o && may_have net s i o
passes s i net e = false

-- of how many events in turn this is so, each where those before it led
abbrev pub count_of : (NetRecord → Event → Bool) → InTurn NetRecord → List Event → ℕ
count_of is x [] = 0
count_of is x (e ∷ events) = let later = count_of is (fairly record_apply x e).1 events in if is x.state e then suc later else later

-- a stretch of n fair rounds: some of their events, one after another, from where those before them led; none is refused
pub record IsStretch (words : Words) (n : ℕ) (start first : InTurn NetRecord) (stretch : List Event) : Type 0 where
  pub before : List Event
  pub after : List Event
  pub parts : fair_events record_apply words start.state.network.plan n start ≡ before ++ stretch ++ after
  pub leads : run_events (fairly record_apply) start before ≡ (Ok tt, first)
  pub goes : (run_events (fairly record_apply) first stretch).0 ≡ Ok tt

-- in a stretch of fair rounds in which an input is given no output at most 31 packets pass its own, whatever turns it begins with
abbrev pub FairWaits : NetRecord → Type 0
FairWaits net =
    (words : Words) (turns : List SwitchTurns) (n s i : ℕ) (first : InTurn NetRecord) (stretch : List Event) →
    AreOrders turns → s < length turns → IsStretch words n (in_turn net turns) first stretch →
    count_of (serves s i) first stretch ≡ 0 → count_of (passes s i) first stretch ≤ 31
