-- A network that is placed starts a run: nobody changed it, and nothing was sent.
use Rattle.{c104_check.specs.Routes.{Routes, settings_in}, c104_link.{proofs.MadeSteps.All-place, specs.Buffers.{Outgoing, empty_outgoing}}}
use Rattle.{c104_net.specs.{Deliveries.sent_packets, Unchanged.AreStartsOf}, c104_node.specs.{Nodes.Node, Starts.{start_node, start_of}}}
use Rattle.c104_node.specs.{Terminals.new_terminal, Traces.part, declared.{acts.Entry.Entry, node.NodeOf.NodeOf}}
use Rattle.{c104_node.specs.declared.starts.NodeStart.NodeStart, c104_plan.specs.{PlanImage.{Fits, Image}, Plans.{IsPlan, Plan}}}
use Rattle.{c104_plan.specs.{Plans.is_buffer_size, declared.plans.Terminal.Terminal}, c104_regs.specs.declared.registers.TheConstants.LINKS}
use Rattle.{c104_regs.specs.declared.settings.Settings.Settings, c104_run.proofs.{BalancePlaced.steady_made, FreshRecords.fresh_kept}}
use Rattle.c104_run.specs.{Balance.IsSteady, NetRecords.{IsNetRecord, fresh_record}, Network.{Network, network_of, placed_network}}
use Rattle.c104_run.specs.{Network.{switch_nodes, terminal_nodes, terminal_place}, Standstill.{IsStarted, IsStartedNode, IsStartedSwitch}}
use Rattle.{c104_session.proofs.UnchangedNets.{Fact, IsUnchangedNet}, c104_switch.specs.Starts.{SwitchStart, link_start, link_starts}}
use Rattle.c104_switch.specs.{Starts.{start_input, start_output}, Switch.{Input, new_input, new_switch_with}}
use Rattle.{c104_token.specs.declared.tokens.Token.Token, std.proofs.Common.{All, IsTrue, List, Some, [], ap, arith, length, map, refl}}
use Rattle.std.proofs.Common.{replicate, slice_get, subst, suc, sym, true, zero, ℕ, ◌++◌, ◌∙◌, ◌∷◌, ◌≡◌, ◌≤◌}
use Rattle.std.proofs.lemmas.{Bool.Decides.nat_tests, List.{Elements.{All-head, All-replicate, All-tail}, length-replicate, map-append}}
use Rattle.std.{proofs.lemmas.Option.slice_get-map, specs.Option.option_map}

-- a new switch stands at its start
inputs_back : (n : ℕ) (p : Input Token) (q : Outgoing Token) → start_input (link_start p q) ≡ p → map start_input (link_starts (replicate n p) (replicate n q)) ≡ replicate n p
inputs_back zero p q is = refl
inputs_back (suc n) p q is = ap (λ x. x ∷ map start_input (link_starts (replicate n p) (replicate n q))) is ∙ ap (λ xs. p ∷ xs) (inputs_back n p q is)

outputs_back : (n : ℕ) (p : Input Token) (q : Outgoing Token) → start_output (link_start p q) ≡ q → map start_output (link_starts (replicate n p) (replicate n q)) ≡ replicate n q
outputs_back zero p q is = refl
outputs_back (suc n) p q is = ap (λ x. x ∷ map start_output (link_starts (replicate n p) (replicate n q))) is ∙ ap (λ xs. q ∷ xs) (outputs_back n p q is)

switches_back : (cap : ℕ) (all : List (List Settings)) → map (start_node {A = Token}) (map start_of (switch_nodes {A = Token} cap all)) ≡ switch_nodes cap all
switches_back cap [] = refl
switches_back cap (x ∷ all) = ap (λ n. n ∷ map (start_node {A = Token}) (map start_of (switch_nodes {A = Token} cap all))) one ∙ ap (λ ns. NodeOf.Switch (new_switch_with cap x true) ∷ ns) (switches_back cap all)
  where
    one : start_node {A = Token} (start_of {A = Token} (NodeOf.Switch (new_switch_with cap x true))) ≡ NodeOf.Switch (new_switch_with cap x true)
    one = refl

terminals_back : (cap : ℕ) (terminals : List Terminal) → map (start_node {A = Token}) (map start_of (terminal_nodes {A = Token} cap terminals)) ≡ terminal_nodes cap terminals
terminals_back cap [] = refl
terminals_back cap (t ∷ terminals) = ap (λ ns. NodeOf.Terminal (new_terminal cap) ∷ ns) (terminals_back cap terminals)

-- no terminal has sent anything
none_at : (nodes : List (Node Token)) → ((n : Node Token) (k : ℕ) → slice_get nodes k ≡ Some n → sent_packets n ≡ []) → (k : ℕ) → part [] sent_packets (slice_get nodes k) ≡ []
none_at nodes none k = search arith

terminals_none : (cap : ℕ) (terminals : List Terminal) (n : Node Token) (k : ℕ) → slice_get (terminal_nodes cap terminals) k ≡ Some n → sent_packets n ≡ []
terminals_none cap [] n k is = cc
terminals_none cap (t ∷ terminals) n zero is = let same : NodeOf.Terminal (new_terminal cap) ≡ n = cc in sym (ap sent_packets same)
terminals_none cap (t ∷ terminals) n (suc k) is = terminals_none cap terminals n k is

all_none : (cap : ℕ) (all : List (List Settings)) (terminals : List Terminal) (n : Node Token) (k : ℕ) → slice_get (switch_nodes cap all ++ terminal_nodes cap terminals) k ≡ Some n → sent_packets n ≡ []
all_none cap [] terminals n k is = terminals_none cap terminals n k is
all_none cap (x ∷ all) terminals n zero is = let same : NodeOf.Switch (new_switch_with cap x true) ≡ n = cc in sym (ap sent_packets same)
all_none cap (x ∷ all) terminals n (suc k) is = all_none cap all terminals n k is

no_switch : (cap : ℕ) (terminals : List Terminal) (k : ℕ) (s : SwitchStart) → slice_get (map (start_of {A = Token}) (terminal_nodes cap terminals)) k ≡ Some (NodeStart.Switch s) → ⊥
no_switch cap [] k s is = cc
no_switch cap (t ∷ terminals) zero s is = cc
no_switch cap (t ∷ terminals) (suc k) s is = no_switch cap terminals k s is

set_first : (cap : ℕ) (all : List (List Settings)) (terminals : List Terminal) (k : ℕ) (s : SwitchStart) → slice_get (map (start_of {A = Token}) (switch_nodes cap all ++ terminal_nodes cap terminals)) k ≡ Some (NodeStart.Switch s) → s.settings ≡ settings_in all k
set_first cap [] terminals k s is = absurd (no_switch cap terminals k s is)
set_first cap (x ∷ all) terminals zero s is = cc
set_first cap (x ∷ all) terminals (suc k) s is = set_first cap all terminals k s is

-- there are settings for each link
abbrev pub IsOfLinks : List Settings → Type 0
IsOfLinks settings = length settings ≡ LINKS

roomy : (cap : ℕ) → IsTrue (is_buffer_size cap) → 8 ≤ cap
roomy cap is = grind (arith, nat_tests)

switch_started : (cap : ℕ) → 8 ≤ cap → (x : List Settings) → IsOfLinks x → IsStartedSwitch {A = Token} (new_switch_with cap x true)
switch_started cap room x sized = record {
  started = refl;
  settings = sized;
  inputs = length-replicate 32 (new_input {A = Token} cap);
  outputs = length-replicate 32 (empty_outgoing {A = Token});
  room = λ l p at. All-place (λ (q : Input Token). 8 ≤ q.buffer.cap) (replicate 32 (new_input {A = Token} cap)) l p at (All-replicate (λ (q : Input Token). 8 ≤ q.buffer.cap) 32 (new_input {A = Token} cap) room);
}

terminals_started : (cap : ℕ) → 8 ≤ cap → (terminals : List Terminal) (n : Node Token) (k : ℕ) → slice_get (terminal_nodes cap terminals) k ≡ Some n → IsStartedNode n
terminals_started cap room [] n k is = absurd (cc)
terminals_started cap room (t ∷ terminals) n zero is = let same : NodeOf.Terminal (new_terminal cap) ≡ n = cc in subst IsStartedNode same room
terminals_started cap room (t ∷ terminals) n (suc k) is = terminals_started cap room terminals n k is

all_started : (cap : ℕ) → 8 ≤ cap → (all : List (List Settings)) (terminals : List Terminal) → All IsOfLinks all → (n : Node Token) (k : ℕ) → slice_get (switch_nodes cap all ++ terminal_nodes cap terminals) k ≡ Some n → IsStartedNode n
all_started cap room [] terminals sized n k is = terminals_started cap room terminals n k is
all_started cap room (x ∷ all) terminals sized n zero is = let same : NodeOf.Switch (new_switch_with cap x true) ≡ n = cc in subst IsStartedNode same (switch_started cap room x (All-head IsOfLinks x all sized))
all_started cap room (x ∷ all) terminals sized n (suc k) is = all_started cap room all terminals (All-tail IsOfLinks x all sized) n k is

module _ (plan : Plan) (image : Image) (is_plan : IsPlan plan) (fits : Fits image plan) where
  abbrev net : Network Token
  net = placed_network plan image

  abbrev pub placed_starts : List NodeStart
  placed_starts = map start_of net.nodes

  steady : IsSteady net
  steady = steady_made {A = Token} plan plan image net.nodes refl refl fits is_plan

  stands : map (start_node {A = Token}) (map start_of net.nodes) ≡ net.nodes
  stands = search (arith, map-append, switches_back, terminals_back)

  kept : IsNetRecord (fresh_record net)
  kept = fresh_kept net steady stands

  pub placed_steady : IsSteady {A = Token} (network_of plan (map start_node placed_starts))
  placed_steady = subst (λ ns. IsSteady {A = Token} (network_of plan ns)) (sym stands) steady

  pub placed_started : All IsOfLinks image.settings → IsStarted {A = Token} (network_of plan (map start_node placed_starts))
  placed_started sized = subst (λ ns. IsStarted {A = Token} (network_of plan ns)) (sym stands) (λ k n at. all_started plan.cap (roomy plan.cap is_plan.cap) image.settings plan.terminals sized n k at)

  pub placed_set : AreStartsOf plan image placed_starts
  placed_set = record { in_place = kept.started.in_place; set = set_first plan.cap image.settings plan.terminals }

  abbrev no_entries : Node Token → List Entry
  no_entries n = []

  pub placed_unchanged : (routes : Routes) (fact : Fact) → fact [] net.nodes → IsUnchangedNet routes plan placed_starts fact [] (fresh_record net)
  placed_unchanged routes fact holds = record {
    same_plan = refl;
    same_starts = refl;
    kept = kept;
    events = [];
    told = record {
      run = ap (network_of plan) (sym stands);
      told = λ k. slice_get-map no_entries net.nodes k ∙ ap (λ ns. option_map no_entries (slice_get ns k)) (sym stands);
      counted = refl;
      ordered = tt;
    };
    bytes = tt;
    unchanged = tt;
    sent = λ t. none_at net.nodes (all_none plan.cap image.settings plan.terminals) (terminal_place plan t);
    holds = holds;
  }
