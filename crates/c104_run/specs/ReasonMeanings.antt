-- What the reason of an event says of the network: it holds of the node at its port.
use Rattle.{c104_event.specs.declared.events.Event.Event, c104_node.specs.{Nodes.Node, declared.acts.ActOf.ActOf}}
use Rattle.c104_node.specs.declared.{crossings.Crossing.{Crossing, TheVariants.{Grant, Token}}, node.NodeOf.TheVariants.{Switch, Terminal}}
use Rattle.{c104_plan.specs.{Wiring.peer, declared.ports.Port.Port}, c104_run.specs.{Ends.end_of, EventActs.{Ask, event_ask}}}
use Rattle.c104_run.specs.{Network.{Network, terminal_place}, Reasons.claim_link, declared.reason.Reason.Reason}
use Rattle.c104_switch.specs.ReasonMeanings.{IsAcceptReason, IsCreditedReason, IsEmitReason, IsGrantReason, IsReason, IsTakeReason}
use Rattle.c104_switch.specs.declared.{actions.ActionOf.ActionOf, unready.Unready.{TheVariants.NoLink, Unready}}
use Rattle.std.specs.Prelude.{None, Option, Some, length, slice_get, ℕ, ◌-◌, ◌≡◌, ◌⊎◌}

-- no token goes out of a node over a link's wire
abbrev pub IsLeaveReason : {A : Type 0} → ℕ → Node A → Unready → Type 0
IsLeaveReason l (Switch s) reason = IsReason s (ActionOf.Leave l) reason
IsLeaveReason l (Terminal t) reason = IsEmitReason t.output reason

-- no token comes in there, whatever the token
abbrev pub IsEnterReason : {A : Type 0} → ℕ → Node A → Unready → Type 0
IsEnterReason {A} l (Switch s) reason = (x : A) → IsReason s (ActionOf.Enter l x) reason
IsEnterReason l (Terminal t) reason = IsAcceptReason t.input reason

-- a link doesn't grant eight more tokens
abbrev pub IsCreditOutReason : {A : Type 0} → ℕ → Node A → Unready → Type 0
IsCreditOutReason l (Switch s) reason = IsReason s (ActionOf.CreditOut l) reason
IsCreditOutReason l (Terminal t) reason = IsGrantReason t.input reason

-- a link may not send eight more tokens
abbrev pub IsCreditInReason : {A : Type 0} → ℕ → Node A → Unready → Type 0
IsCreditInReason l (Switch s) reason = IsReason s (ActionOf.CreditIn l) reason
IsCreditInReason l (Terminal t) reason = IsCreditedReason t.output reason

-- the end of a wire from which something would cross can't act
abbrev pub IsNearReason : {A : Type 0} → Crossing → ℕ → Node A → Unready → Type 0
IsNearReason Token = IsLeaveReason
IsNearReason Grant = IsCreditOutReason

-- the other end can't
abbrev pub IsFarReason : {A : Type 0} → Crossing → ℕ → Node A → Unready → Type 0
IsFarReason Token = IsEnterReason
IsFarReason Grant = IsCreditInReason

-- an input takes no turn; a terminal has none that could
abbrev pub IsInputReason : {A : Type 0} → ℕ → ℕ → Node A → Unready → Type 0
IsInputReason l word (Switch s) reason = IsReason s (ActionOf.Input l word) reason
IsInputReason l word (Terminal t) reason = reason ≡ NoLink

-- an input doesn't claim an output; a terminal has none that could
abbrev pub IsNodeClaimReason : {A : Type 0} → ℕ → ℕ → Node A → Unready → Type 0
IsNodeClaimReason i o (Switch s) reason = IsReason s (ActionOf.Claim i o) reason
IsNodeClaimReason i o (Terminal t) reason = reason ≡ NoLink

-- no token arrives; at a switch none does
abbrev pub IsDrainReason : {A : Type 0} → Node A → Unready → Type 0
IsDrainReason (Switch s) reason = reason ≡ NoLink
IsDrainReason (Terminal t) reason = IsTakeReason t.input reason

-- it is said of a node, or there is none
abbrev pub IsSaid : {A : Type 0} → (Node A → Unready → Type 0) → Option (Node A) → Unready → Type 0
IsSaid Says None reason = reason ≡ NoLink
IsSaid Says (Some n) reason = Says n reason

-- it is said of the node at a port, at this end of its wire
abbrev pub IsSaidAt : {A : Type 0} → Network A → (ℕ → Node A → Unready → Type 0) → Port → Unready → Type 0
IsSaidAt net Says p reason = IsSaid (Says (end_of net.plan p).link) (slice_get net.nodes (end_of net.plan p).node) reason

-- of the node at a place that is asked for an act alone, this is said; a command and a packet that is sent have no reason
abbrev pub IsAloneReason : {A : Type 0} → Network A → ℕ → ActOf A → Reason → Type 0
IsAloneReason net k (ActOf.Step (ActionOf.Input l word)) r =
    (r.port ≡ Port.Switch k l) × IsSaid (IsInputReason l word) (slice_get net.nodes k) r.unready
IsAloneReason net k (ActOf.Step (ActionOf.Claim i o)) r =
    (r.port ≡ Port.Switch k (claim_link i o r.unready)) × IsSaid (IsNodeClaimReason i o) (slice_get net.nodes k) r.unready
IsAloneReason net k ActOf.Drain r =
    (r.port ≡ Port.Terminal (k - length net.plan.switches)) × IsSaid IsDrainReason (slice_get net.nodes k) r.unready
IsAloneReason net k a r = ⊥

-- of what is asked, this is said; of a wire, at the port that it would cross from, or at the other end
abbrev pub IsAskReason : {A : Type 0} → Network A → Ask A → Reason → Type 0
IsAskReason net (Ask.Switch s a) r = IsAloneReason net s (ActOf.Step a) r
IsAskReason net (Ask.Terminal t a) r = IsAloneReason net (terminal_place net.plan t) a r
IsAskReason net (Ask.Over p crossing) r =
    ((r.port ≡ p) × IsSaidAt net (IsNearReason crossing) r.port r.unready)
    ⊎ ((peer net.plan p ≡ Some r.port) × IsSaidAt net (IsFarReason crossing) r.port r.unready)

-- what the reason of an event says: its port is one of the event's, and the reason holds there
abbrev pub IsEventReason : {A : Type 0} → Network A → Event → Reason → Type 0
IsEventReason {A} net e r = IsAskReason {A = A} net (event_ask e) r
