-- What each reason says of the switch, by itself.
use Rattle.c104_link.specs.{Buffers.{Incoming, Outgoing}, declared.{TheConstants.TOKENS_OF_A_GRANT, outgoing.TheConstants.CREDIT_LIMIT}}
use Rattle.{c104_link.specs.declared.outgoing.TheConstants.OUTPUT_CAP, c104_switch.specs.{Group.is_in_group, Phases.is_want, Switch.Input}}
use Rattle.c104_switch.specs.{Switch.{Stream, Switch, Want}, declared.{actions.ActionOf.ActionOf, unready.Unready.TheVariants.CreditFull}}
use Rattle.c104_switch.specs.declared.unready.Unready.TheVariants.{NoCredit, NoLink, NoRoom, NoRoomForHeader, NoToken, NotGranted}
use Rattle.c104_switch.specs.declared.unready.Unready.TheVariants.{NotStarted, OutputFull, OutsideGroup, Owned, WantsNothing, WantsOutput}
use Rattle.c104_switch.specs.declared.unready.Unready.{Unready}
use Rattle.std.specs.Prelude.{IsSomeAnd, List, Some, [], false, length, slice_get, ℕ, ◌+◌, ◌<◌, ◌≡◌, ◌≤◌, ◌⊎◌}

-- a buffer takes no token in: none is granted
abbrev pub IsAcceptReason : {A : Type 0} → Incoming A → Unready → Type 0
IsAcceptReason b NotGranted = b.granted ≡ 0
IsAcceptReason b reason = ⊥

-- a buffer gives no token: it holds none
abbrev pub IsTakeReason : {A : Type 0} → Incoming A → Unready → Type 0
IsTakeReason b NoToken = b.items ≡ []
IsTakeReason b reason = ⊥

-- a buffer grants nothing: with eight more, what it holds and has granted would pass its capacity
abbrev pub IsGrantReason : {A : Type 0} → Incoming A → Unready → Type 0
IsGrantReason b NoRoom = b.cap < length b.items + b.granted + TOKENS_OF_A_GRANT
IsGrantReason b reason = ⊥

-- no token goes out of a buffer: it holds none, or it holds one and there is no credit
abbrev pub IsEmitReason : {A : Type 0} → Outgoing A → Unready → Type 0
IsEmitReason q NoToken = q.items ≡ []
IsEmitReason q NoCredit = (0 < length q.items) × (q.credit ≡ 0)
IsEmitReason q reason = ⊥

-- a buffer may not send eight more tokens: its credit would pass 64
abbrev pub IsCreditedReason : {A : Type 0} → Outgoing A → Unready → Type 0
IsCreditedReason q CreditFull = CREDIT_LIMIT < q.credit + TOKENS_OF_A_GRANT
IsCreditedReason q reason = ⊥

-- an input takes no turn: it has no token, its header waits for an output of this link's group, or
-- it streams to this output, which has no room
abbrev pub IsTurnReason : {A : Type 0} → List (Outgoing A) → Input A → Unready → Type 0
IsTurnReason qs p NoToken = p.buffer.items ≡ []
IsTurnReason {A} qs p (WantsOutput g) = (b : List A) × (p.phase ≡ Want b g)
IsTurnReason {A} qs p (OutputFull o) =
    (p.phase ≡ Stream o) × ((q : Outgoing A) → slice_get qs o ≡ Some q → OUTPUT_CAP ≤ length q.items)
IsTurnReason qs p reason = ⊥

-- an input doesn't claim output o: it wants none, it wants one of this link's group and o isn't in it,
-- this input streams to o, or o has no room for its header and doesn't delete it
abbrev pub IsClaimReason : {A : Type 0} → Switch A → ℕ → Input A → Unready → Type 0
IsClaimReason s o p WantsNothing = is_want p.phase ≡ false
IsClaimReason {A} s o p (OutsideGroup g) = (b : List A) × (p.phase ≡ Want b g) × (is_in_group s.settings g o ≡ false)
IsClaimReason {A} s o p (Owned k) = IsSomeAnd (slice_get s.inputs k) (λ (owner : Input A). owner.phase ≡ Stream o)
IsClaimReason {A} s o p NoRoomForHeader = (b : List A) × (g : ℕ) × (p.phase ≡ Want b g)
    × IsSomeAnd (slice_get s.outputs o) (λ q. OUTPUT_CAP < length q.items + length b)
    × IsSomeAnd (slice_get s.settings o) (λ t. t.delete_header ≡ false)
IsClaimReason s o p reason = ⊥

-- what a reason says of an action: there is no such link, the switch isn't started, or one of the above
abbrev pub IsReason : {A : Type 0} → Switch A → ActionOf A → Unready → Type 0
IsReason s (ActionOf.Enter l x) NoLink = length s.inputs ≤ l
IsReason s (ActionOf.Enter l x) reason = IsSomeAnd (slice_get s.inputs l) (λ p. IsAcceptReason p.buffer reason)
IsReason s (ActionOf.Leave l) NoLink = length s.outputs ≤ l
IsReason s (ActionOf.Leave l) reason = IsSomeAnd (slice_get s.outputs l) (λ q. IsEmitReason q reason)
IsReason s (ActionOf.CreditOut l) NoLink = length s.inputs ≤ l
IsReason s (ActionOf.CreditOut l) NotStarted = s.started ≡ false
IsReason s (ActionOf.CreditOut l) reason = IsSomeAnd (slice_get s.inputs l) (λ p. IsGrantReason p.buffer reason)
IsReason s (ActionOf.CreditIn l) NoLink = length s.outputs ≤ l
IsReason s (ActionOf.CreditIn l) reason = IsSomeAnd (slice_get s.outputs l) (λ q. IsCreditedReason q reason)
IsReason s (ActionOf.Input l word) NoLink = (length s.settings ≤ l) ⊎ (length s.inputs ≤ l)
IsReason s (ActionOf.Input l word) NotStarted = s.started ≡ false
IsReason s (ActionOf.Input l word) reason = IsSomeAnd (slice_get s.inputs l) (λ p. IsTurnReason s.outputs p reason)
IsReason s (ActionOf.Claim i o) NoLink =
    (length s.inputs ≤ i) ⊎ ((length s.settings ≤ o) ⊎ (length s.outputs ≤ o))
IsReason s (ActionOf.Claim i o) NotStarted = s.started ≡ false
IsReason s (ActionOf.Claim i o) reason = IsSomeAnd (slice_get s.inputs i) (λ p. IsClaimReason s o p reason)
IsReason s (ActionOf.Control bytes) reason = ⊥
