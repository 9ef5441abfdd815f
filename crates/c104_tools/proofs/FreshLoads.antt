-- A load of a new network of a plan never meets a full trace: all its steps are fewer than a trace holds.
use Rattle.{c104_control.specs.{Table.command_bytes, declared.commands.Command.Command}, c104_event.specs.declared.events.Event.Event}
use Rattle.{c104_event.specs.declared.faults.EventFault.EventFault, c104_node.specs.{Places.is_kept_full, Traces.{full_at, kept_of}}}
use Rattle.c104_node.specs.{Traces.{lone_deed, noted_all, noted_in, seatless, trace_limit}, declared.acts.{ActOf.ActOf, Entry.Entry}}
use Rattle.{c104_node.specs.declared.{node.NodeOf.NodeOf, stamps.Stamp.Stamp}, c104_plan.specs.{PlanImage.{Fits, Image}, Plans.IsPlan}}
use Rattle.{c104_plan.specs.Plans.Plan, c104_regs.specs.{KeptValues.{kept_entry, kept_values}, declared.settings.Settings.Settings}}
use Rattle.c104_run.{proofs.EventSteps.control_applied, specs.{Balance.AreInPlace, EventDeeds.event_deeds, NetRecords.NetRecord}}
use Rattle.c104_run.specs.{NetRecords.fresh_record, Network.{Network, network_apply, new_network, with_nodes}, Stages.unless_full}
use Rattle.c104_switch.specs.{Actions.{Reply, is_ready}, Control.switch_control, declared.actions.{ActionOf.ActionOf, ReplyOf.ReplyOf}}
use Rattle.{c104_token.specs.{Kinds.plain_kind, declared.tokens.Token.Token}, c104_tools.proofs.LoadSteps.{IsReplied, StepsBelow}}
use Rattle.c104_tools.proofs.{LoadSteps.{below_load, judged_replied}, NetLoads.{command_keeps, still_placed}, NetSwitches.stands_at}
use Rattle.c104_tools.specs.{Loaded.IsUnansweredFault, Loads.{load_list, order, steps_from, switch_pokes}, NetOutcomes.EndsSo}
use Rattle.c104_tools.specs.{NetOutcomes.{control_given, net_command, net_load}, Outcomes.{and_then, any_value, nothing_made, run_steps}}
use Rattle.c104_tools.specs.{Outcomes.{step_result, unless_failed, with_value}, Steps.Step, declared.faults.LoadFault.LoadFault}
use Rattle.std.proofs.Common.{Bool, Err, List, MatchResult, Ok, Option, Result, Some, [], ap, arith, false, length, map, nat_eq, nat_le}
use Rattle.std.proofs.Common.{nat_lt, refl, slice_get, slice_set, subst, suc, sym, true, zero, ℕ, ◌*◌, ◌++◌, ◌+◌, ◌<◌, ◌∷◌, ◌≡◌, ◌≤◌}
use Rattle.std.{proofs.lemmas.{Bool.Decides.nat_tests, List.{length-append, length-map}}, specs.List.{cons_option, filter_map}}
use Rattle.std.specs.List.{range_with_len}

-- a reply to each command of a run is one to the run
with_replied : (v : ℕ) (rest : Result (List ℕ) LoadFault) → IsReplied rest → IsReplied (with_value v rest)
with_replied v rest is = search arith

made_replied : (read : Result (List ℕ) LoadFault) → IsReplied read → IsReplied (and_then read nothing_made)
made_replied read is = search arith

goes_replied : (x : Result ℕ LoadFault) (s : NetRecord) (f : NetRecord → Result (List ℕ) LoadFault × NetRecord) → IsReplied x → IsReplied (f s).0 → IsReplied (unless_failed x s f).0
goes_replied x s f is rest = search (arith, with_replied)

-- traces have no more than n entries
abbrev AreShort : ℕ → List (List Entry) → Type 0
AreShort n [] = Unit {0}
AreShort n (trace ∷ traces) = (length trace ≤ n) × AreShort n traces

still_short : (n : ℕ) (traces : List (List Entry)) → AreShort n traces → AreShort (n + 1) traces
still_short n [] short = tt
still_short n (trace ∷ traces) short = let few = short.0 in (omega (arith, few), still_short n traces short.1)

none_yet : {X : Type 0} (nodes : List X) → AreShort 0 (map (λ x. []) nodes)
none_yet [] = tt
none_yet (x ∷ nodes) = (omega arith, none_yet nodes)

set_short : (n : ℕ) (traces : List (List Entry)) (k : ℕ) (trace : List Entry) (e : Entry) → slice_get traces k ≡ Some trace → AreShort n traces → AreShort (n + 1) (slice_set traces k (trace ++ e ∷ []))
set_short n [] k trace e is short = tt
set_short n (t ∷ traces) zero trace e is short = search (arith, length-append, still_short)
set_short n (t ∷ traces) (suc k) trace e is short = let few = short.0 in (omega (arith, few), set_short n traces k trace e is short.1)

noted_short : (n : ℕ) (traces : List (List Entry)) (k : ℕ) (e : Entry) (o : Option (List Entry)) → slice_get traces k ≡ o → AreShort n traces → AreShort (n + 1) (noted_in true traces k e o)
noted_short n traces k e o is short = search (arith, still_short, set_short)

lone_short : (n : ℕ) (traces : List (List Entry)) (stamp : Stamp) (k : ℕ) (a : ActOf Token) (r : Reply) (ready : Bool) → is_ready r ≡ ready → AreShort n traces → AreShort (n + 1) (noted_all true traces (lone_deed stamp k a r))
lone_short n traces stamp k a r ready is short = search (arith, noted_short, still_short)

kept_short : (n : ℕ) (r : NetRecord) (k : ℕ) (bytes : List ℕ) (answer : Result Reply EventFault) → AreShort n r.traces → AreShort (n + 1) (noted_all true r.traces (kept_of (event_deeds r.network.plan (seatless r.count) (Event.Control k bytes)) answer))
kept_short n r k bytes (Ok told) short = lone_short n r.traces (seatless r.count) k (ActOf.Step (ActionOf.Control bytes)) told (is_ready told) refl short
kept_short n r k bytes (Err f) short = still_short n r.traces short

command_short : (n : ℕ) (r : NetRecord) (k : ℕ) (bytes : List ℕ) → AreShort n r.traces → AreShort (n + 1) (net_command r k bytes).1.traces
command_short n r k bytes short = kept_short n r k bytes _ short

-- so none is full
not_full : (trace : List Entry) (n : ℕ) → length trace ≤ n → n < trace_limit → nat_le trace_limit (length trace) ≡ false
not_full trace n few low = grind (arith, nat_tests)

none_full : (n : ℕ) (traces : List (List Entry)) (k : ℕ) → n < trace_limit → AreShort n traces → full_at (map (is_kept_full true) traces) k ≡ false
none_full n [] k low short = refl
none_full n (trace ∷ traces) zero low short = not_full trace n short.0 low
none_full n (trace ∷ traces) (suc k) low short = none_full n traces k low short.1

-- a command of a switch is replied to
abbrev Answered : Type 0
Answered = Result Reply EventFault × Network Token

module _ (r : NetRecord) (k : ℕ) (bytes : List ℕ) (are : AreInPlace r.network.plan r.network.nodes) (inside : k < length r.network.plan.switches) (n : ℕ) (low : n < trace_limit) (short : AreShort n r.traces) where
  replied : (told : List ℕ) × ((net_command r k bytes).0 ≡ Ok told)
  replied =
      let net = r.network in
      let at = stands_at (length net.plan.switches) (length net.plan.terminals) net.nodes are k inside in
      let done = switch_control at.switch bytes in
      let here : nat_lt k (length net.plan.switches) ≡ true = grind (arith, nat_tests) in
      let made : network_apply plain_kind net (Event.Control k bytes) ≡ (Ok (ReplyOf.Control done.0), with_nodes net (slice_set net.nodes k (NodeOf.Switch done.1))) = control_applied plain_kind net k bytes at.switch here at.there in
      (done.0, by_due (network_apply plain_kind net (Event.Control k bytes)) done.0 (ap (λ (t : Answered). t.0) made) _ (none_full n r.traces k low short))
    where
      by_due : (due : Answered) (told : List ℕ) → due.0 ≡ Ok (ReplyOf.Control told) → (full : Bool) → full ≡ false → control_given (unless_full full r.network due).0 ≡ Ok told
      by_due due told is full not = search arith

-- so a run of such steps, of few enough, is replied to throughout
told_replied : (t : Step) (given : Result (List ℕ) EventFault) (bytes : List ℕ) → given ≡ Ok bytes → IsReplied (step_result any_value t given)
told_replied t given bytes is = search (arith, judged_replied)

run_replied : (steps : List Step) (r : NetRecord) (n : ℕ) → AreInPlace r.network.plan r.network.nodes → AreShort n r.traces → n + length steps ≤ trace_limit → StepsBelow (length r.network.plan.switches) steps → IsReplied (run_steps net_command any_value r steps).0
run_replied [] r n are short room below = tt
run_replied (t ∷ steps) r n are short room below =
    let bytes = command_bytes t.command in
    let given = net_command r t.switch bytes in
    let kept = command_keeps r t.switch bytes are in
    let low : n < trace_limit = omega (arith, room) in
    let left : n + 1 + length steps ≤ trace_limit = omega (arith, room) in
    let told = replied r t.switch bytes are below.0 n low short in
    goes_replied (step_result any_value t given.0) given.1 (λ next. run_steps net_command any_value next steps)
    (told_replied t given.0 told.0 told.1)
    (run_replied steps given.1 (n + 1) (still_placed r.network given.1.network are kept) (command_short n r t.switch bytes short) left
    (subst (λ (p : Plan). StepsBelow (length p.switches) steps) (sym kept.plan) below.1))

-- the steps of a load are few
length_each : (c : Command) (a n : ℕ) → length (map (λ switch. order switch c) (range_with_len a n)) ≡ n
length_each c a zero = refl
length_each c a (suc n) = let rest = length_each c (a + 1) n in omega (arith, rest)

few_entries : (h : ℕ → Option (ℕ × ℕ)) (a n : ℕ) → length (filter_map h (range_with_len a n)) ≤ n
few_entries h a zero = omega arith
few_entries h a (suc n) = by_one (h a) (few_entries h (a + 1) n)
  where
    by_one : (o : Option (ℕ × ℕ)) → length (filter_map h (range_with_len (a + 1) n)) ≤ n → length (cons_option o (filter_map h (range_with_len (a + 1) n))) ≤ suc n
    by_one o few = search arith

few_kept : (settings : List Settings) → length (kept_values settings) ≤ 8448
unfolding kept_values
few_kept settings = few_entries (kept_entry settings) 0 8448

few_from : (n : ℕ) (image : List (List Settings)) → length (steps_from switch_pokes n image) ≤ length image * 8448
few_from n [] = omega arith
few_from n (settings ∷ image) = search (arith, length-map, few_kept, length-append, few_from (n + 1) image)

few_steps : (image : List (List Settings)) → length image ≤ 64 → 0 + length (load_list image) ≤ 1048576
few_steps image few = search (arith, length_each, few_from, length-append)

module _ (plan : Plan) (image : Image) (is_plan : IsPlan plan) (fits : Fits image plan) (in_place : AreInPlace plan (new_network {A = Token} plan).nodes) where
  -- a load of a new network is replied to throughout
  pub fresh_replied : IsReplied (net_load (fresh_record (new_network plan)) image).0
  unfolding net_load
  fresh_replied =
      let same = fits.settings in
      let few : length plan.switches ≤ 64 = is_plan.few_switches in
      let counted : nat_eq (length plan.switches) (length image.settings) ≡ true = grind (arith, nat_tests) in
      rw counted
      (made_replied (run_steps net_command any_value (fresh_record (new_network plan)) (load_list image.settings)).0
      (run_replied (load_list image.settings) (fresh_record (new_network plan)) 0 in_place (none_yet (new_network {A = Token} plan).nodes) (few_steps image.settings (omega (arith, same, few)))
      (subst (λ n. StepsBelow n (load_list image.settings)) same (below_load image.settings))))

  -- so it is done, or out of memory
  pub fresh_load : (result : Result (Unit {0}) LoadFault) (after : NetRecord) → EndsSo (net_load (fresh_record (new_network plan)) image) result after → MatchResult result (λ _. Unit {0}) IsUnansweredFault → MatchResult result (λ u. ◌≡◌ {A = Result (Unit {0}) LoadFault × NetRecord} (Ok u, after) (net_load (fresh_record (new_network plan)) image)) (λ f. f ≡ LoadFault.Port EventFault.NoMemory)
  fresh_load result after due answered = search (arith, fresh_replied)
