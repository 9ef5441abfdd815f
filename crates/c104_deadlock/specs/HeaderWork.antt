-- The work that is left in a network: a number that each event of a round makes smaller, where it is done. A random header
-- is made within the network, so it is counted in advance: with each token that waits to come in where one may be put, since
-- a packet has one token at least, and with an input that waits for a packet.
--     full_work plan rank ahead nodes      where ahead says what is counted in advance at an input
--     random_ahead routes rank      what a random header weighs there, and one for the turn that puts it
--     work plan rank nodes      where no link puts random headers before packets
--     work_bound plan nodes      by tokens and buffers alone: no work is more, by ranks up to the count of inputs
use Rattle.c104_check.specs.{Routes.{Routes, link_settings}, Walks.port_of, declared.ports.SwitchPort.SwitchPort}
use Rattle.{c104_deadlock.specs.Work.{header_held, highest_rank, level, sum_at, weigh}, c104_link.specs.Buffers.{Incoming, Outgoing}}
use Rattle.{c104_node.specs.{Nodes.Node, Terminals.Terminal, declared.node.NodeOf.NodeOf}, c104_plan.specs.{Plans.Plan, Wiring.peer}}
use Rattle.{c104_plan.specs.declared.ports.Port.Port, c104_regs.specs.declared.settings.Settings.Settings}
use Rattle.c104_switch.specs.{Rooms.room_left, Switch.Input, declared.phase.Phase.{Phase, TheVariants.{Fresh, Head, Sinking, Stream, Want}}}
use Rattle.std.specs.Prelude.{List, None, Option, Some, if◌then◌else◌, length, ℕ, ◌*◌, ◌+◌, ◌-◌}

-- what a random header of a given number of bytes weighs at an input, where one may be put by what is set there; and
-- one for the turn that puts it
abbrev pub ahead_by : ℕ → ℕ → Option Settings → ℕ
ahead_by header rank None = 0
ahead_by header rank (Some x) = if x.randomize then header * (8 * (rank + 1)) + 1 else 0

abbrev pub random_ahead : Routes → (SwitchPort → ℕ) → SwitchPort → ℕ
random_ahead routes rank p = ahead_by routes.header (rank p) (link_settings routes.settings p)

module _ (plan : Plan) (rank ahead : SwitchPort → ℕ) where
  -- what is counted in advance at the port that a wire leads to
  abbrev pub ahead_at : Option Port → ℕ
  ahead_at None = 0
  ahead_at (Some (Port.Switch s l)) = ahead (port_of s l)
  ahead_at (Some (Port.Terminal t)) = 0

  module _ {A : Type 0} where
    -- and with an input, where it waits for a packet
    abbrev pub first_ahead : ℕ → Phase (List A) → ℕ
    first_ahead a Fresh = a
    first_ahead a (Head b) = 0
    first_ahead a (Want b g) = 0
    first_ahead a (Stream o) = 0
    first_ahead a Sinking = 0

    -- the work of the tokens of an input, and of the room that it may still grant
    abbrev pub full_incoming : ℕ → ℕ → Incoming A → ℕ
    full_incoming far a b = weigh (8 * far + 2 + a) b.items + room_left b

    abbrev pub full_input : ℕ → ℕ → Input A → ℕ
    full_input s l p =
        full_incoming (level plan rank (Some (Port.Switch s l))) (ahead (port_of s l)) p.buffer
        + weigh (8 * level plan rank (Some (Port.Switch s l))) (header_held p.phase)
        + first_ahead (ahead (port_of s l)) p.phase

    -- and of the tokens that wait to go out
    abbrev pub full_output : ℕ → ℕ → Outgoing A → ℕ
    full_output far a q = weigh (8 * far + 4 + a) q.items

    abbrev pub full_link : ℕ → ℕ → Outgoing A → ℕ
    full_link s l q = full_output (level plan rank (peer plan (Port.Switch s l))) (ahead_at (peer plan (Port.Switch s l))) q

    abbrev pub full_inputs : ℕ → List (Input A) → ℕ
    full_inputs s ps = sum_at (full_input s) 0 ps

    abbrev pub full_outputs : ℕ → List (Outgoing A) → ℕ
    full_outputs s qs = sum_at (full_link s) 0 qs

    abbrev pub full_terminal : ℕ → Terminal A → ℕ
    full_terminal k t =
        full_incoming 0 0 t.input
        + full_output (level plan rank (peer plan (Port.Terminal (k - length plan.switches))))
        (ahead_at (peer plan (Port.Terminal (k - length plan.switches)))) t.output

    abbrev pub full_node : ℕ → Node A → ℕ
    full_node k (NodeOf.Switch s) = full_inputs k s.inputs + full_outputs k s.outputs
    full_node k (NodeOf.Terminal t) = full_terminal k t

    -- the work of all nodes
    abbrev pub full_work : List (Node A) → ℕ
    full_work nodes = sum_at full_node 0 nodes

-- the work that is left by ranks that fall along the dependencies of both phases
abbrev pub random_work : {A : Type 0} → Plan → Routes → (SwitchPort → ℕ) → List (Node A) → ℕ
random_work plan routes rank nodes = full_work plan rank (random_ahead routes rank) nodes

-- the same as if each input had the highest rank that is needed
abbrev pub random_bound : {A : Type 0} → Plan → Routes → List (Node A) → ℕ
random_bound plan routes nodes = random_work plan routes (highest_rank plan) nodes

-- where no link puts random headers before packets, nothing is counted in advance
abbrev pub none_ahead : SwitchPort → ℕ
none_ahead p = 0

abbrev pub work : {A : Type 0} → Plan → (SwitchPort → ℕ) → List (Node A) → ℕ
work plan rank nodes = full_work plan rank none_ahead nodes

-- the work of all nodes, as if each input had the highest rank: each token weighs at most
-- 8 * (32 * switches + 1) + 4
abbrev pub work_bound : {A : Type 0} → Plan → List (Node A) → ℕ
work_bound plan nodes = work plan (highest_rank plan) nodes
