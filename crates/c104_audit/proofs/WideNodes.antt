-- A switch keeps its 32 links whatever it does, so that what it does over a link is over one of them.
use Rattle.c104_control.specs.{Reading.read_command, declared.{commands.Command.Command, faults.CommandFault.CommandFault}}
use Rattle.c104_link.proofs.MadeSteps.{at_place_made, from_place_made, given, length-at_place, required, with_place_made}
use Rattle.{c104_link.specs.{Buffers.Outgoing, Steps.{step_at, ◌>>=◌}}, c104_node.specs.{Acts.{done_by, node_act, token_by}, Nodes.Node}}
use Rattle.c104_node.specs.{Nodes.{as_switch, as_terminal}, declared.{acts.ActOf.ActOf, node.NodeOf.NodeOf}}
use Rattle.{c104_regs.specs.declared.{registers.TheConstants.LINKS, settings.Settings.Settings}, c104_switch.specs.Actions.Reply}
use Rattle.c104_switch.specs.{Claims.{input_claim, switch_claim}, Control.{switch_control, switch_obey, switch_obey_if_read}, Switch.Input}
use Rattle.c104_switch.specs.Switch.{Switch, input_accept, input_grant, switch_credit_in, switch_credit_out, switch_enter, switch_leave}
use Rattle.c104_switch.specs.{Switch.{with_inputs, with_outputs, with_sides}, Turns.{input_turn, switch_input}}
use Rattle.{c104_switch.specs.declared.{actions.ActionOf.ActionOf, phase.Phase.Phase}, c104_token.specs.Kinds.plain_kind}
use Rattle.{c104_token.specs.declared.tokens.Token.Token, std.proofs.Common.{Bool, Err, List, None, Ok, Option, Result, Some, ap, arith}}
use Rattle.std.proofs.{Common.{if◌then◌else◌, length, refl, subst, sym, ℕ, ◌<◌, ◌∙◌, ◌≡◌}, lemmas.List.{length-map, length-set}}
use Rattle.std.proofs.lemmas.Option.{slice_get_within}
use Rattle.c104_link.specs.Buffers as buffer
use Rattle.c104_node.specs.Terminals as terminal

-- a switch has as many inputs and outputs as it has links
abbrev pub IsWideSwitch : Switch Token → Type 0
IsWideSwitch s = (length s.inputs ≡ LINKS) × (length s.outputs ≡ LINKS)

abbrev pub IsWide : Node Token → Type 0
IsWide (NodeOf.Switch s) = IsWideSwitch s
IsWide (NodeOf.Terminal t) = Unit {0}

abbrev Sides : Type 0
Sides = List (Input Token) × List (Outgoing Token)

abbrev Side : Type 0
Side = Input Token × List (Outgoing Token)

-- a turn and a claim keep the outputs as many as they are
side_same : (u r : Side) (qs : List (Outgoing Token)) → u.1 ≡ qs → ◌≡◌ {A = Option Side} (Some u) (Some r) → length r.1 ≡ length qs
side_same u r qs same is = let one : u ≡ r = cc in ap (λ (v : Side). length v.1) (sym one) ∙ ap length same

either_same : (b : Bool) (u v r : Side) (qs : List (Outgoing Token)) → u.1 ≡ qs → v.1 ≡ qs → (if◌then◌else◌ {A = Option Side} b (Some u) (Some v)) ≡ Some r → length r.1 ≡ length qs
either_same b u v r qs first second is = search (arith, side_same)

turn_length : (t : Settings) (word : ℕ) (p : Input Token) (qs : List (Outgoing Token)) (r : Side) → input_turn plain_kind t word p qs ≡ Some r → length r.1 ≡ length qs
turn_length t word p qs r is = search (arith, given, either_same, side_same, length-at_place)

claim_length : (settings : List Settings) (p : Input Token) (qs : List (Outgoing Token)) (o : ℕ) (phase : Phase (List Token)) (r : Side) → input_claim settings p qs o phase ≡ Some r → (length r.1 ≡ length qs) × (o < length qs)
claim_length settings p qs o phase r is = search (arith, required, given, side_same, length-at_place, at_place_made, slice_get_within)

module _ (s : Switch Token) (wide : IsWideSwitch s) where
  enter_wide : (l : ℕ) (x : Token) (s' : Switch Token) → switch_enter s l x ≡ Some s' → IsWideSwitch s'
  enter_wide l x s' is = given (step_at s.inputs l (input_accept x)) _ s' is (λ ps made last. let same : with_inputs s ps ≡ s' = cc in subst IsWideSwitch same (length-at_place s.inputs l (input_accept x) ps made ∙ wide.0, wide.1))

  credit_out_wide : (l : ℕ) (s' : Switch Token) → switch_credit_out s l ≡ Some s' → IsWideSwitch s'
  credit_out_wide l s' is = required s.started _ s' is (λ started more. given (step_at s.inputs l input_grant) _ s' more (λ ps made last. let same : with_inputs s ps ≡ s' = cc in subst IsWideSwitch same (length-at_place s.inputs l input_grant ps made ∙ wide.0, wide.1)))

  credit_in_wide : (l : ℕ) (s' : Switch Token) → switch_credit_in s l ≡ Some s' → IsWideSwitch s'
  credit_in_wide l s' is = given (step_at s.outputs l buffer.outgoing_credited) _ s' is (λ qs made last. let same : with_outputs s qs ≡ s' = cc in subst IsWideSwitch same (wide.0, length-at_place s.outputs l buffer.outgoing_credited qs made ∙ wide.1))

  leave_wide : (l : ℕ) (r : Token × Switch Token) → switch_leave s l ≡ Some r → IsWideSwitch r.1
  leave_wide l r is = search (arith, given, from_place_made, length-set)

  sides_wide : (r : Sides) (s' : Switch Token) → length r.0 ≡ length s.inputs → length r.1 ≡ length s.outputs → ◌≡◌ {A = Option (Switch Token)} (Some (with_sides s r)) (Some s') → IsWideSwitch s'
  sides_wide r s' ins outs is = let same : with_sides s r ≡ s' = cc in subst IsWideSwitch same (ins ∙ wide.0, outs ∙ wide.1)

  pub input_wide : (l word : ℕ) (s' : Switch Token) → switch_input plain_kind s l word ≡ Some s' → IsWideSwitch s' × (l < LINKS)
  input_wide l word s' is = search (arith, required, given, with_place_made, length-set, turn_length, sides_wide, slice_get_within)

  pub claim_wide : (i o : ℕ) (s' : Switch Token) → switch_claim s i o ≡ Some s' → IsWideSwitch s' × (i < LINKS) × (o < LINKS)
  claim_wide i o s' is = search (arith, required, given, with_place_made, claim_length, length-set, sides_wide, slice_get_within)

  obey_wide : (c : Command) → IsWideSwitch (switch_obey s c).1
  obey_wide c = search (arith, length-map)

  control_wide : (bytes : List ℕ) → IsWideSwitch (switch_control s bytes).1
  control_wide bytes = by_read (read_command bytes)
    where
      by_read : (o : Result Command CommandFault) → IsWideSwitch (switch_obey_if_read s o).1
      by_read (Ok c) = obey_wide c
      by_read (Err e) = wide

wide_done : (made : Option (Switch Token)) (r : Reply × Node Token) → done_by (made >>= as_switch) ≡ Some r → ((s : Switch Token) → made ≡ Some s → IsWideSwitch s) → IsWide r.1
wide_done made r is holds = search arith

wide_token : (made : Option (Token × Switch Token)) (r : Reply × Node Token) → token_by (made >>= (λ v. Some (v.0, NodeOf.Switch v.1))) ≡ Some r → ((v : Token × Switch Token) → made ≡ Some v → IsWideSwitch v.1) → IsWide r.1
wide_token made r is holds = search arith

wide_terminal : (made : Option (terminal.Terminal Token)) (r : Reply × Node Token) → done_by (made >>= as_terminal) ≡ Some r → IsWide r.1
wide_terminal made r is = search arith

wide_arrived : (made : Option (Token × terminal.Terminal Token)) (r : Reply × Node Token) → token_by (made >>= (λ v. Some (v.0, NodeOf.Terminal v.1))) ≡ Some r → IsWide r.1
wide_arrived made r is = search arith

-- a node keeps them in each of its acts
pub wide_act : (number : ℕ) (a : ActOf Token) (n : Node Token) (r : Reply × Node Token) → IsWide n → node_act plain_kind number a n ≡ Some r → IsWide r.1
wide_act number (ActOf.Step (ActionOf.Enter l x)) (NodeOf.Switch s) r wide is = wide_done (switch_enter s l x) r is (enter_wide s wide l x)
wide_act number (ActOf.Step (ActionOf.Leave l)) (NodeOf.Switch s) r wide is = wide_token (switch_leave s l) r is (leave_wide s wide l)
wide_act number (ActOf.Step (ActionOf.CreditOut l)) (NodeOf.Switch s) r wide is = wide_done (switch_credit_out s l) r is (credit_out_wide s wide l)
wide_act number (ActOf.Step (ActionOf.CreditIn l)) (NodeOf.Switch s) r wide is = wide_done (switch_credit_in s l) r is (credit_in_wide s wide l)
wide_act number (ActOf.Step (ActionOf.Input l word)) (NodeOf.Switch s) r wide is = wide_done (switch_input plain_kind s l word) r is (λ s' made. (input_wide s wide l word s' made).0)
wide_act number (ActOf.Step (ActionOf.Claim i o)) (NodeOf.Switch s) r wide is = wide_done (switch_claim s i o) r is (λ s' made. (claim_wide s wide i o s' made).0)
wide_act number (ActOf.Step (ActionOf.Control bytes)) (NodeOf.Switch s) r wide is = search (arith, control_wide)
wide_act number (ActOf.Send packet) (NodeOf.Terminal t) r wide is = wide_terminal (Some (terminal.terminal_send plain_kind number packet t)) r is
wide_act number ActOf.Drain (NodeOf.Terminal t) r wide is = wide_arrived (terminal.terminal_drain t) r is
wide_act number ActOf.Leave (NodeOf.Terminal t) r wide is = wide_arrived (terminal.terminal_leave t) r is
wide_act number (ActOf.Enter x) (NodeOf.Terminal t) r wide is = wide_terminal (terminal.terminal_enter x t) r is
wide_act number ActOf.CreditOut (NodeOf.Terminal t) r wide is = wide_terminal (terminal.terminal_credit_out t) r is
wide_act number ActOf.CreditIn (NodeOf.Terminal t) r wide is = wide_terminal (terminal.terminal_credit_in t) r is
wide_act number a n r wide is = absurd (cc)

-- a switch that took a turn or made a claim did it over its links
pub input_there : (number : ℕ) (n : Node Token) (l word : ℕ) (r : Reply × Node Token) → IsWide n → node_act plain_kind number (ActOf.Step (ActionOf.Input l word)) n ≡ Some r → l < LINKS
input_there number (NodeOf.Switch s) l word r wide is = by_made (switch_input plain_kind s l word) refl is
  where
    by_made : (made : Option (Switch Token)) → switch_input plain_kind s l word ≡ made → done_by (made >>= as_switch) ≡ Some r → l < LINKS
    by_made None was is = absurd (cc)
    by_made (Some s') was is = (input_wide s wide l word s' was).1
input_there number (NodeOf.Terminal t) l word r wide is = absurd (cc)

pub claim_there : (number : ℕ) (n : Node Token) (i o : ℕ) (r : Reply × Node Token) → IsWide n → node_act plain_kind number (ActOf.Step (ActionOf.Claim i o)) n ≡ Some r → (i < LINKS) × (o < LINKS)
claim_there number (NodeOf.Switch s) i o r wide is = by_made (switch_claim s i o) refl is
  where
    by_made : (made : Option (Switch Token)) → switch_claim s i o ≡ made → done_by (made >>= as_switch) ≡ Some r → (i < LINKS) × (o < LINKS)
    by_made None was is = absurd (cc)
    by_made (Some s') was is = let known = claim_wide s wide i o s' was in (known.1, known.2)
claim_there number (NodeOf.Terminal t) i o r wide is = absurd (cc)
