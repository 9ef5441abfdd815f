-- What a network that is nobody else's answers a worker, which does the parts of its nodes: the network with its record tells it
-- all, but for when memory runs out.
use Rattle.{c104_event.specs.declared.{events.Event.Event, faults.EventFault.EventFault}, c104_node.specs.Nodes.Node}
use Rattle.{c104_run.specs.{NetRecords.NetRecord, RecordedRuns.AnswersRecord}, c104_switch.specs.Actions.{Reply, is_ready}}
use Rattle.{c104_token.specs.{Kinds.plain_kind, declared.tokens.Token.Token}, c104_turns.specs.{Parts.{IsOfKind, ready_numbers}, Turns.End}}
use Rattle.c104_turns.specs.{Turns.PartDone, Working.PartView, declared.parts.Stage.Stage}
use Rattle.c104_workers.specs.declared.net_port.NetPort.{NetPort}
use Rattle.std.specs.Prelude.{Bool, Err, List, MatchOption, Ok, Result, [], slice_get, ℕ, ◌≡◌}

-- what is told of an answer: whether the event was done, or its fault
abbrev pub told_of : Result Reply EventFault → Result Bool EventFault
told_of (Ok reply) = Ok (is_ready reply)
told_of (Err f) = Err f

-- an event is answered so, and the network is this afterwards
abbrev pub NetAnswers : NetRecord → Event → Result Bool EventFault → NetRecord → Type 0
NetAnswers old e answer new = (due : Result Reply EventFault) × AnswersRecord old e due new × (answer ≡ told_of due)

-- these are the numbers of the events that may begin at the part's node, where the network has such a node, and it is of the
-- part's kind
abbrev pub NetLists : NetRecord → PartView → Stage → List ℕ → Type 0
NetLists r part stage numbers =
    MatchOption (slice_get r.network.nodes part.node) (numbers ≡ [])
    (λ (n : Node Token). IsOfKind part n → numbers ≡ ready_numbers plain_kind n part stage)

-- what its port answers: it stays a port through the same reference, so that who lent the network knows what became of it
abbrev pub PortAnswers : NetPort → Event → Result Bool EventFault → NetPort → Type 0
PortAnswers old e answer new =
    (new.net.ghost_name ≡ old.net.ghost_name) × (new.worker ≡ old.worker) × NetAnswers old.net.now e answer new.net.now

-- and lists
abbrev pub PortLists : NetPort → PartView → Stage → List ℕ → Type 0
PortLists p part stage numbers = NetLists p.net.now part stage numbers

-- how many events were done
abbrev pub port_count : NetPort → ℕ
port_count p = p.net.now.count

-- the part of a node is done: exactly that
abbrev pub DoesPart : NetPort → PartView → End → NetPort → Type 0
DoesPart old part end new = PartDone PortAnswers port_count old.worker PortLists part old end new
