-- The nodes of a network, switches and terminals, and what each does in an event. A terminal has one
-- link, whatever its number. None is not ready.
use Rattle.{c104_link.specs.Steps.◌>>=◌, c104_node.specs.declared.node.NodeOf.{NodeOf, TheVariants.{Switch, Terminal}}}
use Rattle.{c104_regs.specs.declared.faults.RegFault.RegFault, c104_switch.specs.Peeks.switch_peek, c104_token.specs.Kinds.Kind}
use Rattle.c104_token.specs.declared.packets.Packet.{Packet}
use Rattle.std.specs.Prelude.{Bool, Err, List, None, Ok, Option, Result, Some, [], false, length, slice_get, true, ℕ, ◌∷◌}
use Rattle.c104_node.specs.Terminals as terminal
use Rattle.c104_switch.specs.Claims as claims
use Rattle.c104_switch.specs.Control as controls
use Rattle.c104_switch.specs.Switch as switch
use Rattle.c104_switch.specs.Turns as turns

-- a node is a switch or a terminal
abbrev pub Node : Type 0 → Type 0
Node A = NodeOf A

-- a switch after a step that could be made, as a node
abbrev pub as_switch : {A : Type 0} → switch.Switch A → Option (Node A)
as_switch s = Some (Switch s)

-- a terminal after a step that could be made, as a node
abbrev pub as_terminal : {A : Type 0} → terminal.Terminal A → Option (Node A)
as_terminal t = Some (Terminal t)

-- a token comes in over a link's wire
abbrev pub node_enter : {A : Type 0} → A → ℕ → Node A → Option (Node A)
node_enter x l (Switch s) = switch.switch_enter s l x >>= as_switch
node_enter x l (Terminal t) = terminal.terminal_enter x t >>= as_terminal

-- a token goes out over a link's wire
abbrev pub node_leave : {A : Type 0} → ℕ → Node A → Option (A × Node A)
node_leave l (Switch s) = switch.switch_leave s l >>= (λ r. Some (r.0, Switch r.1))
node_leave l (Terminal t) = terminal.terminal_leave t >>= (λ r. Some (r.0, Terminal r.1))

-- a link grants eight more tokens
abbrev pub node_credit_out : {A : Type 0} → ℕ → Node A → Option (Node A)
node_credit_out l (Switch s) = switch.switch_credit_out s l >>= as_switch
node_credit_out l (Terminal t) = terminal.terminal_credit_out t >>= as_terminal

-- a link may send eight more tokens
abbrev pub node_credit_in : {A : Type 0} → ℕ → Node A → Option (Node A)
node_credit_in l (Switch s) = switch.switch_credit_in s l >>= as_switch
node_credit_in l (Terminal t) = terminal.terminal_credit_in t >>= as_terminal

-- a turn of an input, which only a switch has
abbrev pub node_input : {A : Type 0} → Kind A → ℕ → ℕ → Node A → Option (Node A)
node_input kind i word (Switch s) = turns.switch_input kind s i word >>= as_switch
node_input kind i word (Terminal t) = None

-- a claim, which only a switch has
abbrev pub node_claim : {A : Type 0} → ℕ → ℕ → Node A → Option (Node A)
node_claim i o (Switch s) = claims.switch_claim s i o >>= as_switch
node_claim i o (Terminal t) = None

-- a control command, which comes to a switch alone
abbrev pub node_control : {A : Type 0} → List ℕ → Node A → Option (List ℕ × Node A)
node_control bytes (Switch s) = let r = controls.switch_control s bytes in Some (r.0, Switch r.1)
node_control bytes (Terminal t) = None

-- the terminal of this number sends a packet
abbrev pub node_send : {A : Type 0} → Kind A → ℕ → Packet → Node A → Option (Node A)
node_send kind number packet (Switch s) = None
node_send kind number packet (Terminal t) = Some (Terminal (terminal.terminal_send kind number packet t))

-- a token arrives at a terminal
abbrev pub node_drain : {A : Type 0} → Node A → Option (A × Node A)
node_drain (Switch s) = None
node_drain (Terminal t) = terminal.terminal_drain t >>= (λ r. Some (r.0, Terminal r.1))

-- the tokens that wait to go out of a terminal; none of a switch
abbrev pub waiting_tokens : {A : Type 0} → Node A → List A
waiting_tokens (Switch s) = []
waiting_tokens (Terminal t) = t.output.items

-- the tokens that arrived at a terminal; none of a switch
abbrev pub arrived_tokens : {A : Type 0} → Node A → List A
arrived_tokens (Switch s) = []
arrived_tokens (Terminal t) = t.arrived

-- how many tokens wait at a node to go out, if it is a terminal
abbrev pub node_waiting : {A : Type 0} → Node A → Option ℕ
node_waiting (Switch s) = None
node_waiting (Terminal t) = Some (length t.output.items)

-- the tokens that arrived at a node, if it is a terminal
abbrev pub node_arrived : {A : Type 0} → Node A → Option (List A)
node_arrived (Switch s) = None
node_arrived (Terminal t) = Some t.arrived

-- the tokens that arrived at the node at this place, if it is a terminal
abbrev pub nodes_arrived : {A : Type 0} → List (Node A) → ℕ → Option (List A)
nodes_arrived nodes place = slice_get nodes place >>= node_arrived

-- what was read, if anything was
abbrev pub value_read : Result ℕ RegFault → Option ℕ
value_read (Ok v) = Some v
value_read (Err e) = None

-- the value of a register of a node, if it is a switch and has one at this address
abbrev pub node_peek : {A : Type 0} → ℕ → Node A → Option ℕ
node_peek a (Switch s) = value_read (switch_peek s a)
node_peek a (Terminal t) = None

-- the same of the node at this place
abbrev pub nodes_peek : {A : Type 0} → List (Node A) → ℕ → ℕ → Option ℕ
nodes_peek nodes place a = slice_get nodes place >>= node_peek a

-- whether a node is a switch
abbrev pub is_switch : {A : Type 0} → Node A → Bool
is_switch (Switch s) = true
is_switch (Terminal t) = false

-- the terminals among nodes, in order
abbrev pub terminals_of : {A : Type 0} → List (Node A) → List (terminal.Terminal A)
terminals_of [] = []
terminals_of (Switch s ∷ nodes) = terminals_of nodes
terminals_of (Terminal t ∷ nodes) = t ∷ terminals_of nodes
