-- What the work that is left in a network is counted by, and how it is told.
--     level plan rank port      how far from its end a token is, by ranks that fall along every way of a packet
--     tokens_held nodes      the tokens that there are, and the room for more
use Rattle.{c104_check.specs.{Walks.port_of, declared.ports.SwitchPort.SwitchPort}, c104_node.specs.Nodes.Node}
use Rattle.{c104_node.specs.declared.node.NodeOf.NodeOf, c104_plan.specs.{Plans.Plan, declared.ports.Port.Port}}
use Rattle.{c104_regs.specs.declared.registers.TheConstants.LINKS, c104_switch.specs.{Rooms.room_left, declared.phase.Phase.Phase}}
use Rattle.c104_switch.specs.declared.phase.Phase.TheVariants.{Fresh, Head, Sinking, Stream, Want}
use Rattle.std.specs.Prelude.{List, None, Option, Some, [], length, min, suc, ℕ, ◌*◌, ◌+◌, ◌∷◌}

-- as much for each element
abbrev pub weigh : {X : Type 0} → ℕ → List X → ℕ
weigh a [] = 0
weigh a (x ∷ xs) = a + weigh a xs

-- the sum over the elements, by the place of each
abbrev pub sum_at : {X : Type 0} → (ℕ → X → ℕ) → ℕ → List X → ℕ
sum_at f j [] = 0
sum_at f j (x ∷ xs) = f j x + sum_at f (suc j) xs

-- the tokens of a header that is read, or that waits
abbrev pub header_held : {A : Type 0} → Phase (List A) → List A
header_held Fresh = []
header_held (Head b) = b
header_held (Want b g) = b
header_held (Stream o) = []
header_held Sinking = []

module _ (plan : Plan) (rank : SwitchPort → ℕ) where
  -- how far from its end a token is that goes over a wire to this port
  abbrev pub level : Option Port → ℕ
  level None = 0
  level (Some (Port.Switch s l)) = rank (port_of s l) + 1
  level (Some (Port.Terminal t)) = 0

-- the highest rank that is needed: the number of inputs
abbrev pub highest_rank : Plan → SwitchPort → ℕ
highest_rank plan p = LINKS * length plan.switches

-- how many tokens a node holds, and how many more its buffers could grant
abbrev pub node_tokens : {A : Type 0} → Node A → ℕ
node_tokens (NodeOf.Switch s) =
    sum_at (λ l p. length p.buffer.items + length (header_held p.phase)) 0 s.inputs + sum_at (λ l q. length q.items) 0 s.outputs
node_tokens (NodeOf.Terminal t) = length t.input.items + length t.output.items

abbrev pub node_room : {A : Type 0} → Node A → ℕ
node_room (NodeOf.Switch s) = sum_at (λ l p. room_left p.buffer) 0 s.inputs
node_room (NodeOf.Terminal t) = room_left t.input

-- the same of all nodes
abbrev pub tokens_held : {A : Type 0} → List (Node A) → ℕ
tokens_held nodes = sum_at (λ k n. node_tokens n) 0 nodes

abbrev pub room_held : {A : Type 0} → List (Node A) → ℕ
room_held nodes = sum_at (λ k n. node_room n) 0 nodes

-- the most that a token weighs
abbrev pub most_weight : Plan → ℕ
most_weight plan = 8 * (LINKS * length plan.switches + 1) + 4

-- the largest number that tells of work
abbrev pub largest_work : ℕ
largest_work = 18446744073709551615

-- work as it is told: no more than the largest number
abbrev pub told_work : ℕ → ℕ
told_work n = min n largest_work
