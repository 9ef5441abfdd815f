-- The debugger's commands but for pokes are peeks, which leave the network as it was set up.
use Rattle.{c104_check.specs.Routes.Routes, c104_control.specs.{Reading.read_command, Table.{command_bytes, reply_bytes}}}
use Rattle.{c104_control.specs.declared.commands.Command.Command, c104_event.specs.declared.events.Event.Event}
use Rattle.{c104_event.specs.declared.faults.EventFault.EventFault, c104_link.proofs.MadeSteps.{from_place_made, given}}
use Rattle.{c104_net.specs.Unchanged.IsHarmless, c104_node.specs.{Nodes.{Node, node_control}, declared.starts.NodeStart.NodeStart}}
use Rattle.c104_plan.{proofs.RangeLists.each_append, specs.{PlanImage.Image, Plans.{IsPlan, Plan}}}
use Rattle.c104_regs.specs.{Addresses.address_number, KeptValues.address_end, declared.addresses.Address.TheVariants.AtLink}
use Rattle.c104_regs.specs.declared.{addresses.Register.TheVariants.Sunk, faults.RegFault.RegFault, registers.TheConstants.LINKS}
use Rattle.{c104_regs.specs.declared.settings.Settings.Settings, c104_run.proofs.{EventSteps.control_named, RecordSteps.done_made}}
use Rattle.c104_run.{proofs.RoundRuns.Applied, specs.{NetRecords.{NetRecord, is_done}, Network.{Network, network_apply, network_step}}}
use Rattle.{c104_run.specs.RecordedRuns.record_apply, c104_script.specs.declared.answers.Answer.{Answer, TheVariants.Refused}}
use Rattle.{c104_script.specs.declared.probes.Probe.Probe, c104_session.proofs.UnchangedNets.{Fact, IsUnchangedNet, Keeps, event_leaves}}
use Rattle.c104_session.{proofs.UnchangedNets.sends_if, specs.Probing.{link_answer, probe_answer, table_answer, tool_outcome}}
use Rattle.{c104_switch.specs.{Actions.Reply, Control.peek_answer, declared.actions.ReplyOf.ReplyOf}, c104_token.specs.Kinds.plain_kind}
use Rattle.{c104_token.specs.declared.{packets.Packet.Packet, tokens.Token.Token}, c104_tools.specs.Loads.{due_values, peeks, steps_from}}
use Rattle.c104_tools.specs.{Loads.{switch_peeks, verify_list}, NetCommands.net_switch_count, NetOutcomes.{net_command, net_link}}
use Rattle.c104_tools.specs.{NetOutcomes.{net_outcome, net_table, net_verify}, Outcomes.{Judge, any_value, due_value_only, link_made}}
use Rattle.c104_tools.specs.Outcomes.{link_peeks, nothing_made, peeks_at, run_steps, step_result, table_made, table_peeks, unless_failed}
use Rattle.{c104_tools.specs.{Steps.Step, Tables.table_addresses, declared.faults.LoadFault.LoadFault}, std.proofs.Common.{Bool, Err, List}}
use Rattle.std.proofs.Common.{Ok, Result, Some, [], append-nil, arith, if◌then◌else◌, length, nat_eq, nat_lt, refl, subst, sym, ℕ, ◌++◌}
use Rattle.std.{proofs.Common.{◌+◌, ◌∷◌, ◌≡◌}, specs.List.{AllByRecursion, range_with_len}}
use Rattle.c104_control.specs.declared.replies.Answer.TheVariants as answer

-- a peek is no reset
no_reset : (a : ℕ) → read_command (command_bytes (Command.CPeek a)) ≡ Ok Command.Reset → ⊥
no_reset a is = cc

-- and isn't answered that a register was set
not_poked : (x : Result ℕ RegFault) → reply_bytes (peek_answer x) ≡ reply_bytes answer.Poked → ⊥
not_poked x is = search arith

module _ (net : NetRecord) (s a : ℕ) where
  abbrev bytes : List ℕ
  bytes = command_bytes (Command.CPeek a)

  answered : (n : Node Token) (y : List ℕ × Node Token) → node_control bytes n ≡ Some y → y.0 ≡ reply_bytes answer.Poked → ⊥
  answered n y is poked = search (arith, not_poked)

  stepped : (after : Network Token) → network_step plain_kind net.network (Event.Control s bytes) ≡ Some (ReplyOf.Control (reply_bytes answer.Poked), after) → ⊥
  stepped after is = search (arith, given, control_named, from_place_made)

  abbrev or_full : Bool → Applied (Network Token)
  or_full full = if full then (Err EventFault.TraceFull, net.network) else network_apply plain_kind net.network (Event.Control s bytes)

  by_full : (full : Bool) → (or_full full).0 ≡ Ok (ReplyOf.Control (reply_bytes answer.Poked)) → ⊥
  by_full full is = search (arith, stepped, done_made)

  peek_harmless : (r : Reply) → (record_apply net (Event.Control s bytes)).0 ≡ Ok r → IsHarmless bytes r
  peek_harmless r is = search (arith, no_reset, by_full)

-- steps that are peeks
abbrev IsPeek : Step → Type 0
IsPeek t = (a : ℕ) × (t.command ≡ Command.CPeek a)

all_at : (switch : ℕ) (addresses : List ℕ) → AllByRecursion IsPeek (peeks_at switch addresses)
all_at switch [] = tt
all_at switch (a ∷ addresses) = ((a, refl), all_at switch addresses)

all_peeks : (switch : ℕ) (values : List (ℕ × ℕ)) → AllByRecursion IsPeek (peeks switch values)
all_peeks switch [] = tt
all_peeks switch (x ∷ values) = ((x.0, refl), all_peeks switch values)

all_verified : (n : ℕ) (image : List (List Settings)) → AllByRecursion IsPeek (steps_from switch_peeks n image)
all_verified n [] = tt
all_verified n (settings ∷ image) = each_append IsPeek (switch_peeks n settings) (steps_from switch_peeks (n + 1) image) (all_peeks n (due_values settings address_end)) (all_verified (n + 1) image)

module _ (routes : Routes) (plan : Plan) (is_plan : IsPlan plan) (starts : List NodeStart) (fact : Fact) (keeps : Keeps routes plan starts fact) (sends : List (ℕ × Packet)) where
  abbrev Is : NetRecord → Type 0
  Is net = IsUnchangedNet routes plan starts fact sends net

  nothing_sent : (b : Bool) (s : ℕ) (c : List ℕ) → sends ++ sends_if b (Event.Control s c) ≡ sends
  nothing_sent b s c = search (arith, append-nil)

  peek_leaves : (net : NetRecord) (s a : ℕ) → Is net → Is (net_command net s (command_bytes (Command.CPeek a))).1
  peek_leaves net s a was =
      let e = Event.Control s (command_bytes (Command.CPeek a)) in
      subst (λ (l : List (ℕ × Packet)). IsUnchangedNet routes plan starts fact l (record_apply net e).1) (nothing_sent (is_done (record_apply net e).0) s (command_bytes (Command.CPeek a)))
      (event_leaves routes plan is_plan starts fact keeps sends net e tt was (peek_harmless net s a))

  steps_leave : (judge : Judge) (steps : List Step) (net : NetRecord) → AllByRecursion IsPeek steps → Is net → Is (run_steps net_command judge net steps).1
  steps_leave judge [] net all was = was
  steps_leave judge (t ∷ steps) net all was =
      let first : Is (net_command net t.switch (command_bytes t.command)).1 = subst (λ c. Is (net_command net t.switch (command_bytes c)).1) (sym all.0.1) (peek_leaves net t.switch all.0.0 was) in
      by_result (λ next left. steps_leave judge steps next all.1 left) (step_result judge t (net_command net t.switch (command_bytes t.command)).0) (net_command net t.switch (command_bytes t.command)).1 first
    where
      by_result : ((next : NetRecord) → Is next → Is (run_steps net_command judge next steps).1) → (r : Result ℕ LoadFault) (next : NetRecord) → Is next → Is (unless_failed r next (λ n. run_steps net_command judge n steps)).1
      by_result more r next left = search arith

  by_test : {X : Type 0} (b : Bool) (due : Result X LoadFault × NetRecord) (net : NetRecord) → Is due.1 → Is net → Is (if◌then◌else◌ {A = Result X LoadFault × NetRecord} b due (Err LoadFault.NoSwitch, net)).1
  by_test b due net left was = search arith

  link_leaves : (net : NetRecord) (switch link : ℕ) → Is net → Is (net_link net switch link).1
  unfolding net_link
  link_leaves net switch link was = by_test (nat_lt switch (net_switch_count net)) (net_outcome any_value link_made net (link_peeks switch link)) net (steps_leave any_value (link_peeks switch link) net (all_at switch (range_with_len (address_number (AtLink link Sunk)) 7)) was) was

  table_leaves : (net : NetRecord) (switch link : ℕ) → Is net → Is (net_table net switch link).1
  unfolding net_table
  table_leaves net switch link was = by_test (nat_lt switch (net_switch_count net)) (net_outcome any_value (table_made switch) net (table_peeks switch link)) net (steps_leave any_value (table_peeks switch link) net (all_at switch (table_addresses link)) was) was

  verify_leaves : (net : NetRecord) (image : Image) → Is net → Is (net_verify net image).1
  unfolding net_verify
  verify_leaves net image was = by_test (nat_eq (net_switch_count net) (length image.settings)) (net_outcome due_value_only nothing_made net (verify_list image.settings)) net (steps_leave due_value_only (verify_list image.settings) net (all_verified 0 image.settings) was) was

  by_link : (b : Bool) (due : Answer × NetRecord) (net : NetRecord) → Is due.1 → Is net → Is (if◌then◌else◌ {A = Answer × NetRecord} b due (Refused EventFault.NoLink, net)).1
  by_link b due net left was = search arith

  abbrev link_outcome_of : NetRecord → ℕ → ℕ → Answer × NetRecord
  link_outcome_of net switch link = tool_outcome link_answer (net_link net switch link)

  abbrev table_outcome_of : NetRecord → ℕ → ℕ → Answer × NetRecord
  table_outcome_of net switch link = tool_outcome table_answer (net_table net switch link)

  -- the debugger pokes nothing
  abbrev pub IsNoPoke : Probe → Type 0
  IsNoPoke (Probe.Poke switch addr value) = ⊥
  IsNoPoke it = Unit {0}

  pub probe_leaves : (net : NetRecord) (image : Image) (it : Probe) → IsNoPoke it → Is net → Is (probe_answer net image it).1
  probe_leaves net image (Probe.Peek switch addr) fine was = was
  probe_leaves net image (Probe.Poke switch addr value) fine was = absurd fine
  probe_leaves net image (Probe.Link switch link) fine was = by_link (nat_lt link LINKS) (link_outcome_of net switch link) net (link_leaves net switch link was) was
  probe_leaves net image (Probe.Table switch link) fine was = by_link (nat_lt link LINKS) (table_outcome_of net switch link) net (table_leaves net switch link was) was
  probe_leaves net image Probe.Verify fine was = verify_leaves net image was
  probe_leaves net image Probe.VerifyAll fine was = was
  probe_leaves net image (Probe.Dump switch) fine was = was
