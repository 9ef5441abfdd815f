-- The step of a switch: what each action answers, and what it leaves.
pub use Rattle.c104_switch.specs.declared.actions.{ActionOf.ActionOf, ReplyOf.ReplyOf}
use Rattle.{c104_link.specs.Steps.{bool_outcome, option_outcome}, c104_switch.specs.{Claims.switch_claim, Control.switch_control}}
use Rattle.c104_switch.specs.{Switch.{Switch, switch_credit_in, switch_credit_out, switch_enter, switch_leave}, Turns.switch_input}
use Rattle.c104_token.specs.{Kinds.Kind, declared.tokens.Token.Token}
use Rattle.std.specs.Prelude.{Bool, List, None, Option, Some, false, true, ℕ}

-- what is answered where nothing comes of a step but what it leaves
abbrev pub done_reply : {A : Type 0} → Bool → ReplyOf A
done_reply true = ReplyOf.Done
done_reply false = ReplyOf.NotReady

-- what is answered where a token comes of a step
abbrev pub token_reply : {A : Type 0} → Option A → ReplyOf A
token_reply (Some x) = ReplyOf.Token x
token_reply None = ReplyOf.NotReady

-- Done and what is left, or NotReady and nothing changed
abbrev pub done_outcome : {A : Type 0} → Option (Switch A) → Switch A → ReplyOf A × Switch A
done_outcome made old = (done_reply (bool_outcome made old).0, (bool_outcome made old).1)

-- the same, where a token comes of it
abbrev pub token_outcome : {A : Type 0} → Option (A × Switch A) → Switch A → ReplyOf A × Switch A
token_outcome made old = (token_reply (option_outcome made old).0, (option_outcome made old).1)

-- a command is always done: where it is refused, the reply says so
abbrev pub control_outcome : {A : Type 0} → List ℕ × Switch A → ReplyOf A × Switch A
control_outcome r = (ReplyOf.Control r.0, r.1)

-- what an action answers, and the switch after it; where it isn't ready, nothing changes
abbrev pub switch_step : {A : Type 0} → Kind A → Switch A → ActionOf A → ReplyOf A × Switch A
switch_step kind s (ActionOf.Enter l x) = done_outcome (switch_enter s l x) s
switch_step kind s (ActionOf.Leave l) = token_outcome (switch_leave s l) s
switch_step kind s (ActionOf.CreditOut l) = done_outcome (switch_credit_out s l) s
switch_step kind s (ActionOf.CreditIn l) = done_outcome (switch_credit_in s l) s
switch_step kind s (ActionOf.Input l word) = done_outcome (switch_input kind s l word) s
switch_step kind s (ActionOf.Claim i o) = done_outcome (switch_claim s i o) s
switch_step kind s (ActionOf.Control bytes) = control_outcome (switch_control s bytes)

-- whether an action that was answered so was ready; a control command always is
abbrev pub is_ready : {A : Type 0} → ReplyOf A → Bool
is_ready ReplyOf.Done = true
is_ready ReplyOf.NotReady = false
is_ready (ReplyOf.Token x) = true
is_ready (ReplyOf.Control bytes) = true

-- what is asked of a switch of plain tokens, and what it answers
abbrev pub Action : Type 0
Action = ActionOf Token

abbrev pub Reply : Type 0
Reply = ReplyOf Token
