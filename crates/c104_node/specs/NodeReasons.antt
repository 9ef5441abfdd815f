-- Why a node isn't ready for an act: the first of its conditions that doesn't hold. None is ready.
use Rattle.{c104_node.specs.{Nodes.Node, declared.node.NodeOf.TheVariants.{Switch, Terminal}}, c104_switch.specs.Reasons.accept_why}
use Rattle.c104_switch.specs.{Reasons.{credited_why, emit_why, grant_why, take_why}, declared.unready.Unready.{TheVariants.NoLink, Unready}}
use Rattle.std.specs.Prelude.{Option, Some, ℕ}
use Rattle.c104_switch.specs.Reasons as switch

-- why a token doesn't come in over a link's wire
abbrev pub node_enter_why : {A : Type 0} → ℕ → Node A → Option Unready
node_enter_why l (Switch s) = switch.enter_why s l
node_enter_why l (Terminal t) = accept_why t.input

-- why no token goes out over a link's wire
abbrev pub node_leave_why : {A : Type 0} → ℕ → Node A → Option Unready
node_leave_why l (Switch s) = switch.leave_why s l
node_leave_why l (Terminal t) = emit_why t.output

-- why a link doesn't grant eight more tokens
abbrev pub node_credit_out_why : {A : Type 0} → ℕ → Node A → Option Unready
node_credit_out_why l (Switch s) = switch.credit_out_why s l
node_credit_out_why l (Terminal t) = grant_why t.input

-- why a link may not send eight more tokens
abbrev pub node_credit_in_why : {A : Type 0} → ℕ → Node A → Option Unready
node_credit_in_why l (Switch s) = switch.credit_in_why s l
node_credit_in_why l (Terminal t) = credited_why t.output

-- why an input takes no turn; a terminal has none that could
abbrev pub node_input_why : {A : Type 0} → ℕ → Node A → Option Unready
node_input_why l (Switch s) = switch.input_why s l
node_input_why l (Terminal t) = Some NoLink

-- why an input doesn't claim an output; a terminal has none that could
abbrev pub node_claim_why : {A : Type 0} → ℕ → ℕ → Node A → Option Unready
node_claim_why i o (Switch s) = switch.claim_why s i o
node_claim_why i o (Terminal t) = Some NoLink

-- why no token arrives; at a switch none does
abbrev pub node_drain_why : {A : Type 0} → Node A → Option Unready
node_drain_why (Switch s) = Some NoLink
node_drain_why (Terminal t) = take_why t.input
