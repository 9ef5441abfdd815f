-- Rounds until a network stands still: after how many it does, and what answers that.
--     SettlesTo net answer after      what the answer says of the network before and after, in words of networks
--     settle_outcome net n      the answer and the network after n rounds, as they are computed
--     rounds_at_most net      the most rounds that are done: more than the bound of the work that is left, if that can be counted
--     rounds_to_rest net      the number of rounds that are done
use Rattle.{c104_deadlock.specs.HeaderWork.work_bound, c104_link.specs.Buffers.Outgoing, c104_node.specs.{Nodes.Node, Quiet.is_fresh}}
use Rattle.{c104_node.specs.declared.node.NodeOf.NodeOf, c104_rows.specs.Standing.is_still, c104_run.specs.EventRuns.{Outcome, run_events}}
use Rattle.c104_run.specs.{HandedWords.{round_with, rounds_with}, NetRecords.NetRecord, Network.Network, QuietNets.IsQuiet}
use Rattle.c104_run.specs.{RecordedRuns.record_apply, Standstill.{IsDeadlocked, StandsStill}, declared.words.Words.Words}
use Rattle.{c104_script.specs.{Script.most_rounds, declared.answers.{Answer.Answer, Settled.Settled}}, c104_switch.specs.Switch.Input}
use Rattle.{c104_switch.specs.Switch.Switch, c104_token.specs.{Kinds.plain_kind, declared.tokens.Token.Token}}
use Rattle.std.specs.{List.list_all, Prelude.{Bool, Err, List, Ok, Option, Some, [], false, if◌then◌else◌, max, min, suc, true, zero, ℕ}}
use Rattle.std.specs.Prelude.{◌&&◌, ◌+◌, ◌<◌, ◌∷◌, ◌≡◌, ◌≤◌}

-- How many rounds there may be

-- the largest count of rounds
abbrev pub largest_count : ℕ
largest_count = 4294967295

-- the most rounds that are done, as a name, since nothing is to count up to it: as many as a line may ask for, or more than
-- the work that is left, which is enough where channels don't depend on one another in a cycle; but no more than are counted,
-- which no network does, since its traces are full before
unfoldable pub rounds_at_most : NetRecord → ℕ
rounds_at_most net = min largest_count (max most_rounds (work_bound net.network.plan net.network.nodes + 1))

-- What the answer says

-- rounds whose inputs are handed word 0
abbrev pub after_rounds : NetRecord → ℕ → Outcome NetRecord
after_rounds net n = run_events record_apply net (rounds_with Words.Zero net.network.plan n)

abbrev pub after_round : NetRecord → Outcome NetRecord
after_round net = run_events record_apply net (round_with Words.Zero net.network.plan)

-- a round changes nothing, and no event of it is refused
abbrev pub ChangesNothing : NetRecord → Type 0
ChangesNothing net = after_round net ≡ (Ok tt, net)

-- n rounds are done, each of which changed something: there is no lesser number of rounds after which one changes nothing
pub record IsAfterRounds (old : NetRecord) (n : ℕ) (new : NetRecord) : Type 0 where
  pub most : n ≤ rounds_at_most old
  pub rounds : after_rounds old n ≡ (Ok tt, new)
  pub least : (i : ℕ) → i < n → ChangesNothing (after_rounds old i).1 → ⊥

-- after the rounds one more changes nothing, and the network stands still and is quiet or in deadlock; or one more changes
-- something after as many as there may be; or one more was refused
abbrev pub SettlesTo : NetRecord → Option Answer → NetRecord → Type 0
SettlesTo old (Some (Answer.Settled (Settled.Done n))) new =
    IsAfterRounds old n new × ChangesNothing new × StandsStill plain_kind new.network × IsQuiet new.network
SettlesTo old (Some (Answer.Settled (Settled.StandsStill n))) new =
    IsAfterRounds old n new × ChangesNothing new × IsDeadlocked plain_kind new.network
SettlesTo old (Some (Answer.Settled (Settled.Moving n))) new =
    IsAfterRounds old n new × (n ≡ rounds_at_most old) × (ChangesNothing new → ⊥)
SettlesTo old (Some (Answer.Refused kind)) new =
    (n : ℕ) × (mid : NetRecord) × (n < rounds_at_most old) × IsAfterRounds old n mid × (after_round mid ≡ (Err kind, new))
SettlesTo old answer new = ⊥

-- How it is computed

-- whether no token is among some
abbrev pub has_none : List Token → Bool
has_none [] = true
has_none (x ∷ xs) = false

-- whether no token stands at an input, and it waits for a packet; and whether none waits at an output
abbrev pub is_quiet_input : Input Token → Bool
is_quiet_input p = has_none p.buffer.items && is_fresh p.phase

abbrev pub is_quiet_output : Outgoing Token → Bool
is_quiet_output q = has_none q.items

-- the same of all of a node; a terminal holds the tokens that came in and those that wait to go out
abbrev pub is_quiet_node : Node Token → Bool
is_quiet_node (NodeOf.Switch s) = list_all is_quiet_input s.inputs && list_all is_quiet_output s.outputs
is_quiet_node (NodeOf.Terminal t) = has_none t.input.items && has_none t.output.items

-- whether a network is quiet: no token stands anywhere, and no packet is under way
unfoldable pub is_quiet : Network Token → Bool
is_quiet net = list_all is_quiet_node net.nodes

-- the least number of rounds, at most n, after which a network stands still, by trying; n where there is none
abbrev pub rest_within : ℕ → NetRecord → ℕ
rest_within zero net = 0
rest_within (suc n) net = if is_still net.network then 0 else suc (rest_within n (after_round net).1)

abbrev pub rounds_to_rest : NetRecord → ℕ
rounds_to_rest net = rest_within (rounds_at_most net) net

-- how n rounds ended that left a network so
abbrev pub settled_at : ℕ → Network Token → Settled
settled_at n net =
    if is_still net then (if is_quiet net then Settled.Done n else Settled.StandsStill n) else Settled.Moving n

-- what answers n rounds
abbrev pub settle_answer : ℕ → Outcome NetRecord → Answer
settle_answer n (Ok u, after) = Answer.Settled (settled_at n after.network)
settle_answer n (Err kind, after) = Answer.Refused kind

abbrev pub settle_outcome : NetRecord → ℕ → Answer × NetRecord
settle_outcome net n = (settle_answer n (after_rounds net n), (after_rounds net n).1)
