-- An act that is done answers something else than that it is not ready.
use Rattle.c104_node.specs.{Acts.{control_by, done_by, node_act, reply_outcome, token_by}, Nodes.{Node, node_control, node_drain}}
use Rattle.c104_node.specs.{Nodes.{node_leave, node_send}, declared.{acts.ActOf.ActOf, node.NodeOf.NodeOf}}
use Rattle.{c104_switch.specs.{Actions.is_ready, declared.actions.{ActionOf.ActionOf, ReplyOf.ReplyOf}}, c104_token.specs.Kinds.Kind}
use Rattle.std.proofs.Common.{List, None, Option, Some, ap, is_some, refl, sym, true, ℕ, ◌≡◌}

module _ {A S : Type 0} where
  done_ready : (made : Option S) (r : ReplyOf A × S) → done_by made ≡ Some r → is_ready r.0 ≡ true
  done_ready None r is = absurd (cc)
  done_ready (Some s) r is = let same : ReplyOf.Done ≡ r.0 = (let both : ◌≡◌ {A = Option (ReplyOf A × S)} (Some (ReplyOf.Done, s)) (Some r) = is in cc) in ap is_ready (sym same)

  token_ready : (made : Option (A × S)) (r : ReplyOf A × S) → token_by made ≡ Some r → is_ready r.0 ≡ true
  token_ready None r is = absurd (cc)
  token_ready (Some v) r is = let same : ReplyOf.Token v.0 ≡ r.0 = (let both : ◌≡◌ {A = Option (ReplyOf A × S)} (Some (ReplyOf.Token v.0, v.1)) (Some r) = is in cc) in ap is_ready (sym same)

  control_ready : (made : Option (List ℕ × S)) (r : ReplyOf A × S) → control_by made ≡ Some r → is_ready r.0 ≡ true
  control_ready None r is = absurd (cc)
  control_ready (Some v) r is = let same : ReplyOf.Control v.0 ≡ r.0 = (let both : ◌≡◌ {A = Option (ReplyOf A × S)} (Some (ReplyOf.Control v.0, v.1)) (Some r) = is in cc) in ap is_ready (sym same)

-- an act that was ready is made
pub made_ready : {A S : Type 0} (made : Option (ReplyOf A × S)) (r : ReplyOf A) (new old : S) → is_some made ≡ true → ◌≡◌ {A = ReplyOf A × S} (r, new) (reply_outcome made old) → made ≡ Some (r, new)
made_ready None r new old ready gives = cc
made_ready (Some q) r new old ready gives = ap Some (sym gives)

-- an act that was answered otherwise than that it isn't ready was ready
pub answered_ready : {A S : Type 0} (made : Option (ReplyOf A × S)) (r : ReplyOf A) (new old : S) → (r ≡ ReplyOf.NotReady → ⊥) → ◌≡◌ {A = ReplyOf A × S} (r, new) (reply_outcome made old) → is_some made ≡ true
answered_ready {A} {S} None r new old answered gives = absurd (answered (ap (λ (z : ReplyOf A × S). z.0) gives))
answered_ready (Some q) r new old answered gives = refl

module _ {A : Type 0} (kind : Kind A) where
  -- an act that is done answers something else than that it isn't ready
  pub act_ready : (number : ℕ) (a : ActOf A) (n : Node A) (r : ReplyOf A × Node A) → node_act kind number a n ≡ Some r → is_ready r.0 ≡ true
  act_ready number (ActOf.Step (ActionOf.Leave l)) (NodeOf.Switch s) r is = token_ready (node_leave l (NodeOf.Switch s)) r is
  act_ready number (ActOf.Step (ActionOf.Control bytes)) (NodeOf.Switch s) r is = control_ready (node_control bytes (NodeOf.Switch s)) r is
  act_ready number (ActOf.Step a) (NodeOf.Switch s) r is = done_ready _ r is
  act_ready number (ActOf.Send packet) n r is = done_ready (node_send kind number packet n) r is
  act_ready number ActOf.Drain n r is = token_ready (node_drain n) r is
  act_ready number ActOf.Leave (NodeOf.Terminal t) r is = token_ready (node_leave 0 (NodeOf.Terminal t)) r is
  act_ready number (ActOf.Step a) (NodeOf.Terminal t) r is = absurd (cc)
  act_ready number a (NodeOf.Terminal t) r is = done_ready _ r is
  act_ready number a (NodeOf.Switch s) r is = absurd (cc)
