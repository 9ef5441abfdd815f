-- A new network into which an image is loaded is the network that is placed with the image.
use Rattle.{c104_control.specs.Table.command_bytes, c104_event.specs.declared.{events.Event.Event, faults.EventFault.EventFault}}
use Rattle.{c104_link.specs.Buffers.empty_outgoing, c104_node.specs.{Nodes.{Node, is_switch}, Quiet.{IsQuietInput, IsQuietNode}}}
use Rattle.c104_node.specs.{Quiet.{IsQuietOutput, IsQuietSwitch, node_begin}, Terminals.{Terminal, new_terminal}}
use Rattle.{c104_node.specs.declared.node.NodeOf.NodeOf, c104_plan.specs.{PlanImage.{Fits, Image}, Plans.Plan}}
use Rattle.{c104_plan.specs.declared.plans.Terminal.Terminal as PlanTerminal, c104_regs.specs.declared.settings.Settings.Settings}
use Rattle.c104_run.{proofs.{BalancePlaces.still_in_place, EventSteps.control_applied, FirstRecords.map_twice}, specs.Balance.AreInPlace}
use Rattle.c104_run.specs.{NetRecords.{NetRecord, fresh_record, record_begun_if}, Network.{Network, network_apply, network_of, new_network}}
use Rattle.c104_run.specs.{Network.{new_switch_nodes, placed_network, switch_nodes, terminal_nodes, with_nodes}, QuietNets.IsQuiet}
use Rattle.c104_switch.specs.{Actions.Reply, Control.switch_control, Switch.{Switch, new_input, new_switch, new_switch_with}}
use Rattle.{c104_switch.specs.declared.actions.ReplyOf.ReplyOf, c104_token.specs.{Kinds.plain_kind, declared.tokens.Token.Token}}
use Rattle.c104_tools.{proofs.NetSwitches.stands_at, specs.{Loaded.{each_with, loaded}, Loads.load_list, NetCommands.net_switches}}
use Rattle.c104_tools.specs.{NetCommands.switches_of, NetOutcomes.{net_command, net_load, net_outcome}, Outcomes.{Judge, any_value}}
use Rattle.c104_tools.specs.{Outcomes.{nothing_made, run_steps, step_result, unless_failed}, Ports.Switches, Steps.Step}
use Rattle.{c104_tools.specs.declared.faults.LoadFault.LoadFault, std.proofs.Common.{All, Bool, Err, IsTrue, List, Ok, Option, Result}}
use Rattle.std.proofs.Common.{Some, [], ap, arith, false, if◌then◌else◌, length, map, nat_eq, nat_lt, refl, replicate, slice_get, slice_set}
use Rattle.std.proofs.{Common.{subst, suc, sym, true, zero, ℕ, ◌++◌, ◌<◌, ◌↔◌, ◌∙◌, ◌∷◌, ◌≡◌}, lemmas.Bool.Decides.nat_tests}

-- the terminals among nodes, in order
abbrev pub terminals_of : List (Node Token) → List (Terminal Token)
terminals_of [] = []
terminals_of (NodeOf.Switch s ∷ nodes) = terminals_of nodes
terminals_of (NodeOf.Terminal t ∷ nodes) = t ∷ terminals_of nodes

-- nodes in their places are the switches, and then the terminals
only_terminals : (b : ℕ) (nodes : List (Node Token)) → map is_switch nodes ≡ replicate b false → (switches_of nodes ≡ []) × (nodes ≡ map NodeOf.Terminal (terminals_of nodes))
only_terminals b [] are = (refl, refl)
only_terminals (suc b) (NodeOf.Terminal t ∷ nodes) are =
    let rest : map is_switch nodes ≡ replicate b false = cc in
    let more = only_terminals b nodes rest in
    (more.0, ap (λ ns. NodeOf.Terminal t ∷ ns) more.1)
only_terminals b nodes are = absurd (cc are)

nodes_are : (a b : ℕ) (nodes : List (Node Token)) → map is_switch nodes ≡ replicate a true ++ replicate b false → nodes ≡ map NodeOf.Switch (switches_of nodes) ++ map NodeOf.Terminal (terminals_of nodes)
nodes_are zero b nodes are = search (arith, only_terminals)
nodes_are (suc a) b (NodeOf.Switch s ∷ nodes) are =
    let rest : map is_switch nodes ≡ replicate a true ++ replicate b false = cc in
    ap (λ ns. NodeOf.Switch s ∷ ns) (nodes_are a b nodes rest)
nodes_are a b nodes are = absurd (cc are)

-- what a command keeps of a network: all but its switches
pub record Keeps (old new : Network Token) : Type 0 where
  pub plan : new.plan ≡ old.plan
  pub kinds : map is_switch new.nodes ≡ map is_switch old.nodes
  pub terminals : terminals_of new.nodes ≡ terminals_of old.nodes

keeps_all : (net : Network Token) → Keeps net net
keeps_all net = record { plan = refl; kinds = refl; terminals = refl }

keeps_on : (old mid new : Network Token) → Keeps old mid → Keeps mid new → Keeps old new
keeps_on old mid new one other = record { plan = other.plan ∙ one.plan; kinds = other.kinds ∙ one.kinds; terminals = other.terminals ∙ one.terminals }

pub still_placed : (old new : Network Token) → AreInPlace old.plan old.nodes → Keeps old new → AreInPlace new.plan new.nodes
still_placed old new are kept = kept.kinds ∙ are ∙ ap (λ (p : Plan). replicate (length p.switches) true ++ replicate (length p.terminals) false) (sym kept.plan)

terminals_set : (nodes : List (Node Token)) (k : ℕ) (s t : Switch Token) → slice_get nodes k ≡ Some (NodeOf.Switch s) → terminals_of (slice_set nodes k (NodeOf.Switch t)) ≡ terminals_of nodes
terminals_set [] k s t is = refl
terminals_set (NodeOf.Switch x ∷ nodes) zero s t is = refl
terminals_set (NodeOf.Terminal x ∷ nodes) zero s t is = absurd (cc is)
terminals_set (NodeOf.Switch x ∷ nodes) (suc k) s t is = terminals_set nodes k s t is
terminals_set (NodeOf.Terminal x ∷ nodes) (suc k) s t is = ap (λ ts. x ∷ ts) (terminals_set nodes k s t is)

abbrev Answered : Type 0
Answered = Result Reply EventFault × Network Token

apply_keeps : (net : Network Token) (k : ℕ) (bytes : List ℕ) → AreInPlace net.plan net.nodes → Keeps net (network_apply plain_kind net (Event.Control k bytes)).1
apply_keeps net k bytes are = by_inside (nat_lt k (length net.plan.switches)) refl
  where
    by_inside : (b : Bool) → nat_lt k (length net.plan.switches) ≡ b → Keeps net (network_apply plain_kind net (Event.Control k bytes)).1
    by_inside false is =
        let none : network_apply plain_kind net (Event.Control k bytes) ≡ (Err EventFault.NoNode, net) = rw is refl in
        subst (λ (t : Answered). Keeps net t.1) (sym none) (keeps_all net)
    by_inside true is =
        let inside : k < length net.plan.switches = grind (arith, nat_tests) in
        let at = stands_at (length net.plan.switches) (length net.plan.terminals) net.nodes are k inside in
        let done = switch_control at.switch bytes in
        let made : network_apply plain_kind net (Event.Control k bytes) ≡ (Ok (ReplyOf.Control done.0), with_nodes net (slice_set net.nodes k (NodeOf.Switch done.1))) = control_applied plain_kind net k bytes at.switch is at.there in
        subst (λ (t : Answered). Keeps net t.1) (sym made)
        (record { plan = refl; kinds = still_in_place net.nodes k (NodeOf.Switch at.switch) (NodeOf.Switch done.1) at.there refl; terminals = terminals_set net.nodes k at.switch done.1 at.there })

full_keeps : (net : Network Token) (b : Bool) (due : Answered) → Keeps net due.1 → Keeps net (if b then (Err EventFault.TraceFull, net) else due).1
full_keeps net b due kept = search (arith, keeps_all)

pub command_keeps : (r : NetRecord) (k : ℕ) (bytes : List ℕ) → AreInPlace r.network.plan r.network.nodes → Keeps r.network (net_command r k bytes).1.network
command_keeps r k bytes are = full_keeps r.network _ (network_apply plain_kind r.network (Event.Control k bytes)) (apply_keeps r.network k bytes are)

module _ (judge : Judge) where
  failed_or_on : (x : Result ℕ LoadFault) (net : Network Token) (s : NetRecord) (f : NetRecord → Result (List ℕ) LoadFault × NetRecord) → Keeps net s.network → Keeps s.network (f s).1.network → Keeps net (unless_failed x s f).1.network
  failed_or_on x net s f one other = search (arith, keeps_on)

  run_keeps : (steps : List Step) (r : NetRecord) → AreInPlace r.network.plan r.network.nodes → Keeps r.network (run_steps net_command judge r steps).1.network
  run_keeps [] r are = keeps_all r.network
  run_keeps (t ∷ steps) r are =
      let given = net_command r t.switch (command_bytes t.command) in
      let kept = command_keeps r t.switch (command_bytes t.command) are in
      failed_or_on (step_result judge t given.0) r.network given.1 (λ next. run_steps net_command judge next steps) kept
      (run_keeps steps given.1 (still_placed r.network given.1.network are kept))

-- the nodes of a new network
module _ (cap : ℕ) where
  terminals_made : (terminals : List PlanTerminal) → (switches_of (terminal_nodes cap terminals) ≡ []) × (terminals_of (terminal_nodes cap terminals) ≡ map (λ (t : PlanTerminal). new_terminal cap) terminals)
  terminals_made [] = (refl, refl)
  terminals_made (t ∷ terminals) = let more = terminals_made terminals in (more.0, ap (λ ts. new_terminal cap ∷ ts) more.1)

  switches_made : (names : List (List ℕ)) (terminals : List PlanTerminal) → switches_of (new_switch_nodes cap names ++ terminal_nodes cap terminals) ≡ map (λ name. new_switch cap) names
  switches_made [] terminals = (terminals_made terminals).0
  switches_made (name ∷ names) terminals = ap (λ (ss : Switches). new_switch cap ∷ ss) (switches_made names terminals)

  terminals_after : (names : List (List ℕ)) (terminals : List PlanTerminal) → terminals_of (new_switch_nodes cap names ++ terminal_nodes cap terminals) ≡ map (λ (t : PlanTerminal). new_terminal cap) terminals
  terminals_after [] terminals = (terminals_made terminals).1
  terminals_after (name ∷ names) terminals = terminals_after names terminals

  loaded_new : (settings : List Settings) → loaded (new_switch cap) settings ≡ new_switch_with cap settings true
  loaded_new settings = refl

  each_loaded : (names : List (List ℕ)) (image : List (List Settings)) → length image ≡ length names → each_with loaded (map (λ name. new_switch cap) names) image ≡ map (λ settings. new_switch_with cap settings true) image
  each_loaded [] [] same = refl
  each_loaded (name ∷ names) (settings ∷ image) same = ap (λ (s : Switch Token). s ∷ each_with loaded (map (λ name. new_switch cap) names) image) (loaded_new settings) ∙ ap (λ (ss : Switches). new_switch_with cap settings true ∷ ss) (each_loaded names image (omega arith))
  each_loaded names image same = absurd (omega arith)

  -- a placed network is quiet, and begins as it is
  all_same : {X : Type 0} (P : X → Type 0) (n : ℕ) (x : X) → P x → All P (replicate n x)
  all_same P zero x is i d inside = absurd (omega arith)
  all_same P (suc n) x is zero d inside = is
  all_same P (suc n) x is (suc i) d inside = all_same P n x is i d (omega arith)

  switch_quiet : (settings : List Settings) → IsQuietSwitch (new_switch_with {A = Token} cap settings true)
  switch_quiet settings = (all_same IsQuietInput 32 (new_input cap) (refl, refl), all_same IsQuietOutput 32 empty_outgoing refl)

  nodes_quiet : (image : List (List Settings)) (terminals : List PlanTerminal) → All IsQuietNode (switch_nodes {A = Token} cap image ++ terminal_nodes cap terminals)
  nodes_quiet [] [] i d inside = absurd (omega arith)
  nodes_quiet [] (t ∷ terminals) zero d inside = (refl, refl)
  nodes_quiet [] (t ∷ terminals) (suc i) d inside = nodes_quiet [] terminals i d (omega arith)
  nodes_quiet (settings ∷ image) terminals zero d inside = switch_quiet settings
  nodes_quiet (settings ∷ image) terminals (suc i) d inside = nodes_quiet image terminals i d (omega arith)

  nodes_begin : (image : List (List Settings)) (terminals : List PlanTerminal) → map node_begin (switch_nodes {A = Token} cap image ++ terminal_nodes cap terminals) ≡ switch_nodes cap image ++ terminal_nodes cap terminals
  nodes_begin [] [] = refl
  nodes_begin [] (t ∷ terminals) = ap (λ ns. NodeOf.Terminal (new_terminal cap) ∷ ns) (nodes_begin [] terminals)
  nodes_begin (settings ∷ image) terminals = ap (λ ns. NodeOf.Switch (new_switch_with cap settings true) ∷ ns) (nodes_begin image terminals)

abbrev Ended : Type 0
Ended = Result (Unit {0}) LoadFault × NetRecord

-- an image that was loaded into a new network of its plan
module _ (plan : Plan) (image : Image) (fits : Fits image plan) (in_place : AreInPlace plan (new_network {A = Token} plan).nodes) (u : Unit {0}) (after : NetRecord) (came : ◌≡◌ {A = Ended} (Ok u, after) (net_load (fresh_record (new_network plan)) image)) (shown : net_switches after ≡ Some (each_with loaded (switches_of (new_network plan).nodes) image.settings)) where
  counted : nat_eq (length plan.switches) (length image.settings) ≡ true
  counted = let same = fits.settings in grind (arith, nat_tests)

  asked : net_load (fresh_record (new_network plan)) image ≡ net_outcome any_value nothing_made (fresh_record (new_network plan)) (load_list image.settings)
  unfolding net_load
  asked = rw counted refl

  kept : Keeps (new_network plan) after.network
  kept = search (arith, asked, run_keeps)

  nodes_loaded : after.network.nodes ≡ switch_nodes plan.cap image.settings ++ terminal_nodes plan.cap plan.terminals
  nodes_loaded =
      let switches : switches_of after.network.nodes ≡ map (λ settings. new_switch_with plan.cap settings true) image.settings =
      some_same shown ∙ ap (λ (ss : Switches). each_with loaded ss image.settings) (switches_made plan.cap plan.switches plan.terminals) ∙ each_loaded plan.cap plan.switches image.settings fits.settings in
      let terminals : terminals_of after.network.nodes ≡ map (λ (t : PlanTerminal). new_terminal plan.cap) plan.terminals =
      kept.terminals ∙ terminals_after plan.cap plan.switches plan.terminals in
      nodes_are (length plan.switches) (length plan.terminals) after.network.nodes (kept.kinds ∙ in_place)
      ∙ ap (λ (ss : Switches). map NodeOf.Switch ss ++ map NodeOf.Terminal (terminals_of after.network.nodes)) switches
      ∙ ap (λ (ts : List (Terminal Token)). map NodeOf.Switch (map (λ settings. new_switch_with plan.cap settings true) image.settings) ++ map NodeOf.Terminal ts) terminals
      ∙ ap (λ (ns : List (Node Token)). ns ++ map NodeOf.Terminal (map (λ (t : PlanTerminal). new_terminal plan.cap) plan.terminals)) (map_twice NodeOf.Switch (λ settings. new_switch_with plan.cap settings true) image.settings)
      ∙ ap (λ (ns : List (Node Token)). switch_nodes plan.cap image.settings ++ ns) (map_twice NodeOf.Terminal (λ (t : PlanTerminal). new_terminal plan.cap) plan.terminals)
    where
      some_same : {X : Type 0} {x y : X} → ◌≡◌ {A = Option X} (Some x) (Some y) → x ≡ y
      some_same is = cc

  -- it is the placed network
  pub loaded_network : after.network ≡ placed_network plan image
  loaded_network = ap (λ (p : Plan). network_of p after.network.nodes) kept.plan ∙ ap (network_of plan) nodes_loaded

  pub loaded_quiet : IsQuiet after.network
  loaded_quiet = subst IsQuiet (sym loaded_network) (nodes_quiet plan.cap image.settings plan.terminals)

  -- so a run begins there as it does in that network
  pub begun_loaded : record_begun_if true after ≡ fresh_record (placed_network plan image)
  begun_loaded = search (arith, loaded_network, nodes_begin)

  pub begun_so : (began : Bool) → IsTrue began ↔ IsQuiet after.network → (began ≡ true) × (record_begun_if began after ≡ fresh_record (placed_network plan image))
  begun_so began quiet = search (arith, begun_loaded, loaded_quiet)
