-- A node with its record: its run goes on by an act; and plain tokens don't tell the number of a terminal.
use Rattle.c104_node.{proofs.ReadyActs.{act_ready, made_ready}, specs.{ActLinks.on_links, Acts.{IsWithinLimits, node_act, reply_outcome}}}
use Rattle.c104_node.specs.{Nodes.Node, PortActs.act_limit, Records.{IsNodeRun, IsRecorded, MayAct, NodeRecord, after_act, fault_first}}
use Rattle.c104_node.specs.{Records.{has_link, is_full, recorded_limit, recorded_step}, declared.acts.{ActOf.ActOf, Entry.Entry}}
use Rattle.{c104_node.specs.declared.stamps.Stamp.Stamp, c104_switch.specs.Actions.{Reply, is_ready}, c104_token.specs.Kinds.plain_kind}
use Rattle.{c104_token.specs.declared.tokens.Token.Token, std.proofs.Common.{List, None, Some, [], ap, arith, false, is_some}}
use Rattle.std.proofs.{Common.{length-append, refl, subst, sym, true, ℕ, ◌++◌, ◌∙◌, ◌∷◌, ◌≡◌}, lemmas.Bool.Decides.nat_tests}
use Rattle.std.specs.Prelude.{if◌then◌else◌}

-- the run goes on by one act
run_on : (wired : ℕ) (from mid to : Node Token) (entries : List Entry) (e : Entry) → IsNodeRun wired from entries mid → MayAct wired mid e.act → node_act plain_kind 0 e.act mid ≡ Some (e.reply, to) → IsNodeRun wired from (entries ++ e ∷ []) to
run_on wired from mid to [] e run may made = (to, subst (λ n. MayAct wired n e.act) run may, subst (λ n. node_act plain_kind 0 e.act n ≡ Some (e.reply, to)) run made, refl)
run_on wired from mid to (d ∷ entries) e run may made = (run.0, run.1, run.2, run_on wired run.0 mid to entries e run.3 may made)

module _ (n : NodeRecord) (a : ActOf Token) where
  -- an act that is ready goes over no link without a wire, and its node is ready for it
  pub linked_ready : is_some (recorded_step n a) ≡ true → (on_links (has_link n.wired) a ≡ true) × (recorded_step n a ≡ node_act plain_kind 0 a n.state)
  linked_ready ready = grind arith

  -- where no limit of the node refuses it, none of its lists does, and its trace isn't full
  limit_none : recorded_limit n a ≡ None → (act_limit (Some n.state) a ≡ None) × (is_full n ≡ false)
  limit_none none = search arith

  module _ (r : Reply) (to : Node Token) (ready : is_some (recorded_step n a) ≡ true) (gives : ◌≡◌ {A = Reply × Node Token} (r, to) (reply_outcome (node_act plain_kind 0 a n.state) n.state)) where
    node_made : node_act plain_kind 0 a n.state ≡ Some (r, to)
    node_made = made_ready (node_act plain_kind 0 a n.state) r to n.state (ap is_some (sym (linked_ready ready).1) ∙ ready) gives

    -- it is made, and answers something else than that it isn't ready
    pub recorded_made : recorded_step n a ≡ Some (r, to)
    recorded_made = (linked_ready ready).1 ∙ node_made

    pub recorded_ready : is_ready r ≡ true
    recorded_ready = act_ready plain_kind 0 a n.state (r, to) node_made

    -- and the node keeps what its type says
    pub recorded_kept : (stamp : Stamp) → IsRecorded n → IsWithinLimits a → recorded_limit n a ≡ None → IsRecorded (after_act n stamp a r to)
    recorded_kept stamp kept short none = search (arith, run_on, linked_ready, limit_none, node_made, length-append, nat_tests)

-- whatever a terminal's number, over plain tokens its acts are the same
pub number_plain : (a b : ℕ) (x : ActOf Token) (n : Node Token) → node_act plain_kind a x n ≡ node_act plain_kind b x n
number_plain a b x n = cc

-- an act of a node as a place of a network, whatever its number there
module _ (n : NodeRecord) (number : ℕ) (a : ActOf Token) (linked : on_links (has_link n.wired) a ≡ true) (ready : is_some (node_act plain_kind number a n.state) ≡ true) where
  pub place_ready : is_some (recorded_step n a) ≡ true
  place_ready = ap (λ b. is_some (if b then node_act plain_kind 0 a n.state else None)) linked ∙ ap is_some (number_plain 0 number a n.state) ∙ ready

  pub place_kept : (r : Reply) (to : Node Token) (stamp : Stamp) → ◌≡◌ {A = Reply × Node Token} (r, to) (reply_outcome (node_act plain_kind number a n.state) n.state) → IsRecorded n → IsWithinLimits a → act_limit (Some n.state) a ≡ None → is_full n ≡ false → IsRecorded (after_act n stamp a r to)
  place_kept r to stamp gives kept short below free =
      recorded_kept n a r to place_ready (gives ∙ ap (λ made. reply_outcome made n.state) (number_plain number 0 a n.state)) stamp kept short
      (ap (λ f. fault_first f (is_full n)) below ∙ ap (fault_first None) free)
