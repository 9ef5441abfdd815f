-- Why an action isn't ready: the first of its conditions that doesn't hold. None is ready.
use Rattle.c104_link.specs.{Buffers.{Incoming, Outgoing}, declared.{TheConstants.TOKENS_OF_A_GRANT, outgoing.TheConstants.CREDIT_LIMIT}}
use Rattle.{c104_link.specs.declared.outgoing.TheConstants.OUTPUT_CAP, c104_regs.specs.declared.settings.Settings.Settings}
use Rattle.c104_switch.specs.{Group.is_in_group, Switch.{Fresh, Head, Input, Phase, Sinking, Stream, Switch, Want}, Views.owner_from}
use Rattle.c104_switch.specs.declared.{actions.ActionOf.ActionOf, unready.Unready.TheVariants.{CreditFull, NoCredit, NoLink, NoRoom}}
use Rattle.c104_switch.specs.declared.unready.Unready.TheVariants.{NoRoomForHeader, NoToken, NotGranted, NotStarted, OutputFull}
use Rattle.c104_switch.specs.declared.unready.Unready.{TheVariants.{OutsideGroup, Owned, WantsNothing, WantsOutput}, Unready}
use Rattle.std.specs.{Option.option_map_or, Prelude.{Bool, List, None, Option, Some, false, if◌then◌else◌, length, nat_le, nat_lt}}
use Rattle.std.specs.Prelude.{slice_get, ℕ, ◌+◌, ◌||◌}

-- this reason, where the condition doesn't hold, and else what the later conditions say
abbrev pub unless : Bool → Unready → Option Unready → Option Unready
unless holds reason later = if holds then later else Some reason

-- what the element at a place says, where there is such a link
abbrev pub why_at : {X : Type 0} → List X → ℕ → (X → Option Unready) → Option Unready
why_at xs l why = option_map_or why (slice_get xs l) (Some NoLink)

-- why a buffer takes no token in: none is granted
abbrev pub accept_why : {A : Type 0} → Incoming A → Option Unready
accept_why b = unless (nat_lt 0 b.granted) NotGranted None

-- why a buffer gives no token
abbrev pub take_why : {A : Type 0} → Incoming A → Option Unready
take_why b = unless (nat_lt 0 (length b.items)) NoToken None

-- why a buffer grants no eight more tokens: it hasn't room for all that would then be granted
abbrev pub grant_why : {A : Type 0} → Incoming A → Option Unready
grant_why b = unless (nat_le (length b.items + b.granted + TOKENS_OF_A_GRANT) b.cap) NoRoom None

-- why no token goes out of a buffer: it holds none, or there is no credit
abbrev pub emit_why : {A : Type 0} → Outgoing A → Option Unready
emit_why q = unless (nat_lt 0 (length q.items)) NoToken (unless (nat_lt 0 q.credit) NoCredit None)

-- why a buffer may not send eight more tokens: its credit would be above 64
abbrev pub credited_why : {A : Type 0} → Outgoing A → Option Unready
credited_why q = unless (nat_le (q.credit + TOKENS_OF_A_GRANT) CREDIT_LIMIT) CreditFull None

-- whether there is an output o that holds fewer than eight tokens
abbrev pub has_room : {A : Type 0} → List (Outgoing A) → ℕ → Bool
has_room qs o = option_map_or (λ q. nat_lt (length q.items) OUTPUT_CAP) (slice_get qs o) false

-- why no token joins output o: it holds eight
abbrev pub put_why : {A : Type 0} → List (Outgoing A) → ℕ → Option Unready
put_why qs o = unless (has_room qs o) (OutputFull o) None

-- why an input with a token takes no turn: its header waits for an output, or it streams to a full one
abbrev pub phase_why : {A H : Type 0} → List (Outgoing A) → Phase H → Option Unready
phase_why qs Fresh = None
phase_why qs (Head b) = None
phase_why qs (Want b g) = Some (WantsOutput g)
phase_why qs (Stream o) = put_why qs o
phase_why qs Sinking = None

-- why an input takes no turn
abbrev pub turn_why : {A : Type 0} → List (Outgoing A) → Input A → Option Unready
turn_why qs p = unless (nat_lt 0 (length p.buffer.items)) NoToken (phase_why qs p.phase)

-- why an output can't be claimed: an input owns it, or what the later conditions say
abbrev pub owned_why : Option ℕ → Option Unready → Option Unready
owned_why None later = later
owned_why (Some k) later = Some (Owned k)

-- why a header doesn't join an output, whose link has these settings: there is no room, and the link
-- doesn't delete headers
abbrev pub header_why : {A : Type 0} → Settings → List A → Outgoing A → Option Unready
header_why t b q = unless (t.delete_header || nat_le (length q.items + length b) OUTPUT_CAP) NoRoomForHeader None

-- why an input in this phase doesn't claim output o, which this input owns: it wants none, or one of
-- another group, or the output is owned, or has no room for the header
abbrev pub wanted_why : {A : Type 0} → List Settings → ℕ → Option ℕ → Settings → Outgoing A → Phase (List A) → Option Unready
wanted_why settings o owner t q (Want b g) = unless (is_in_group settings g o) (OutsideGroup g) (owned_why owner (header_why t b q))
wanted_why settings o owner t q Fresh = Some WantsNothing
wanted_why settings o owner t q (Head b) = Some WantsNothing
wanted_why settings o owner t q (Stream d) = Some WantsNothing
wanted_why settings o owner t q Sinking = Some WantsNothing

-- why a token doesn't come in over a link's wire
abbrev pub enter_why : {A : Type 0} → Switch A → ℕ → Option Unready
enter_why s l = why_at s.inputs l (λ p. accept_why p.buffer)

-- why no token goes out over a link's wire
abbrev pub leave_why : {A : Type 0} → Switch A → ℕ → Option Unready
leave_why s l = why_at s.outputs l emit_why

-- why a link doesn't grant eight more tokens
abbrev pub credit_out_why : {A : Type 0} → Switch A → ℕ → Option Unready
credit_out_why s l = why_at s.inputs l (λ p. unless s.started NotStarted (grant_why p.buffer))

-- why a link may not send eight more tokens
abbrev pub credit_in_why : {A : Type 0} → Switch A → ℕ → Option Unready
credit_in_why s l = why_at s.outputs l credited_why

-- why an input takes no turn, in the switch
abbrev pub input_why : {A : Type 0} → Switch A → ℕ → Option Unready
input_why s i = why_at s.settings i (λ t. why_at s.inputs i (λ p. unless s.started NotStarted (turn_why s.outputs p)))

-- why input i doesn't claim output o
abbrev pub claim_why : {A : Type 0} → Switch A → ℕ → ℕ → Option Unready
claim_why s i o = why_at s.inputs i (λ p. why_at s.settings o (λ t. why_at s.outputs o (λ q.
    unless s.started NotStarted (wanted_why s.settings o (owner_from 0 s.inputs o) t q p.phase))))

-- why an action isn't ready; a control command always is
abbrev pub switch_why : {A : Type 0} → Switch A → ActionOf A → Option Unready
switch_why s (ActionOf.Enter l x) = enter_why s l
switch_why s (ActionOf.Leave l) = leave_why s l
switch_why s (ActionOf.CreditOut l) = credit_out_why s l
switch_why s (ActionOf.CreditIn l) = credit_in_why s l
switch_why s (ActionOf.Input l word) = input_why s l
switch_why s (ActionOf.Claim i o) = claim_why s i o
switch_why s (ActionOf.Control bytes) = None
