-- Inputs at which packets are blocked: from each dependencies lead into a cycle.
use Rattle.c104_check.specs.{ChannelDependencies.{Depends, IsRanking}, FirstCycles.{LeadsOver, LeadsToCycle}, Routes.{Routes, to_port}}
use Rattle.{c104_check.specs.declared.ports.SwitchPort.SwitchPort, c104_deadlock.specs.BlockedInputs.{HoldsTokens, IsBlockedBy}}
use Rattle.{c104_deadlock.specs.BlockedInputs.{input_phase, input_tokens, phase_at, tokens_at}, c104_net.proofs.NodeViews.{ins, node_in}}
use Rattle.{c104_net.proofs.NodeViews.{node_phase, phases}, c104_node.specs.{MappedNodes.{map_input, map_node}, Nodes.Node, Traces.part}}
use Rattle.{c104_node.specs.declared.node.NodeOf.NodeOf, c104_plan.specs.{Plans.Plan, declared.ports.Port.Port}}
use Rattle.c104_switch.specs.{Phases.with_header, Switch.Input, declared.phase.Phase.{Phase, TheVariants.{Fresh, Head, Sinking, Stream}}}
use Rattle.{c104_switch.specs.declared.phase.Phase.TheVariants.Want, std.proofs.Common.{List, None, Option, Some, [], ap, arith, length}}
use Rattle.std.proofs.{Common.{map, option_map, refl, slice_get, suc, zero, ℕ, ◌<◌, ◌∙◌, ◌∷◌, ◌≡◌, ◌≢◌, ◌≤◌}, lemmas.List.length-map}
use Rattle.std.proofs.lemmas.Option.{slice_get-map}

-- of inputs of which each depends on another one dependencies lead on for ever
module _ (routes : Routes) (H : SwitchPort → Type 0) (next : (p : SwitchPort) → H p → (q : SwitchPort) × Depends routes p q × H q) where
  pub lead_on : (p : SwitchPort) → H p → (k : ℕ) → LeadsOver routes k p
  lead_on p here zero = tt
  lead_on p here (suc k) = let n = next p here in (n.0, n.1, lead_on n.0 n.2 k)

-- where ranks fall along the dependencies, none leads into a cycle
module _ (routes : Routes) (rank : SwitchPort → ℕ) (falls : IsRanking routes rank) where
  few_over : (k : ℕ) (p : SwitchPort) → LeadsOver routes k p → k ≤ rank p
  few_over zero p leads = omega arith
  few_over (suc k) p leads = let less = falls p leads.0 leads.1 in let rest = few_over k leads.0 leads.2 in omega (arith, less, rest)

  pub none_leads : (p : SwitchPort) → LeadsToCycle routes p → ⊥
  none_leads p leads = let few = few_over (suc (rank p)) p (leads (suc (rank p))) in omega (arith, few)

-- what an input holds, and where it is with its packet, as it is seen at its port
module _ {A : Type 0} (plan : Plan) (nodes : List (Node A)) (p : SwitchPort) where
  pub tokens_seen : tokens_at nodes p ≡ ins plan nodes (to_port p)
  tokens_seen = by_node (slice_get nodes p.switch)
    where
      by_node : (n : Option (Node A)) → part [] (input_tokens p.link) n ≡ part [] (node_in (Port.Switch p.switch p.link)) n
      by_node None = refl
      by_node (Some (NodeOf.Switch S)) = refl
      by_node (Some (NodeOf.Terminal T)) = refl

  pub phase_seen : phase_at nodes p ≡ phases plan nodes (to_port p)
  phase_seen = by_node (slice_get nodes p.switch)
    where
      by_node : (n : Option (Node A)) → part Fresh (input_phase p.link) n ≡ part Fresh (node_phase (Port.Switch p.switch p.link)) n
      by_node None = refl
      by_node (Some (NodeOf.Switch S)) = refl
      by_node (Some (NodeOf.Terminal T)) = refl

  some_there : (xs : List A) → xs ≢ [] → 0 < length xs
  some_there [] some = absurd (some refl)
  some_there (x ∷ xs) some = omega arith

  -- there are tokens exactly where some are seen
  pub tokens_of : ins plan nodes (to_port p) ≢ [] → HoldsTokens nodes p
  tokens_of some = let there = some_there (ins plan nodes (to_port p)) some in let same : length (tokens_at nodes p) ≡ length (ins plan nodes (to_port p)) = ap length tokens_seen in omega (arith, there, same)

  pub seen_of : HoldsTokens nodes p → ins plan nodes (to_port p) ≢ []
  seen_of there = λ none. (let same : length (tokens_at nodes p) ≡ 0 = ap length (tokens_seen ∙ none) in omega (arith, there, same))

-- over other tokens there are as many, and the phase is that of the same tokens
module _ {A B : Type 0} (f : A → B) (nodes : List (Node A)) (p : SwitchPort) where
  pub tokens_map : length (tokens_at (map (map_node f) nodes) p) ≡ length (tokens_at nodes p)
  tokens_map = ap (λ (n : Option (Node B)). length (part [] (input_tokens p.link) n)) (slice_get-map (map_node f) nodes p.switch) ∙ by_node (slice_get nodes p.switch)
    where
      by_input : (i : Option (Input A)) → length (part [] (λ (q : Input B). q.buffer.items) (option_map (map_input f) i)) ≡ length (part [] (λ (q : Input A). q.buffer.items) i)
      by_input None = refl
      by_input (Some q) = length-map q.buffer.items f

      by_node : (n : Option (Node A)) → length (part [] (input_tokens p.link) (option_map (map_node f) n)) ≡ length (part [] (input_tokens p.link) n)
      by_node None = refl
      by_node (Some (NodeOf.Switch S)) = ap (λ (i : Option (Input B)). length (part [] (λ (q : Input B). q.buffer.items) i)) (slice_get-map (map_input f) S.inputs p.link) ∙ by_input (slice_get S.inputs p.link)
      by_node (Some (NodeOf.Terminal T)) = refl

  pub phase_map : phase_at (map (map_node f) nodes) p ≡ with_header (map f) (phase_at nodes p)
  phase_map = ap (λ (n : Option (Node B)). part Fresh (input_phase p.link) n) (slice_get-map (map_node f) nodes p.switch) ∙ by_node (slice_get nodes p.switch)
    where
      by_input : (i : Option (Input A)) → part Fresh (λ (q : Input B). q.phase) (option_map (map_input f) i) ≡ with_header (map f) (part Fresh (λ (q : Input A). q.phase) i)
      by_input None = refl
      by_input (Some q) = refl

      by_node : (n : Option (Node A)) → part Fresh (input_phase p.link) (option_map (map_node f) n) ≡ with_header (map f) (part Fresh (input_phase p.link) n)
      by_node None = refl
      by_node (Some (NodeOf.Switch S)) = ap (λ (i : Option (Input B)). part Fresh (λ (q : Input B). q.phase) i) (slice_get-map (map_input f) S.inputs p.link) ∙ by_input (slice_get S.inputs p.link)
      by_node (Some (NodeOf.Terminal T)) = refl

-- what blocks a packet blocks it over other tokens, and by a larger set
pub blocked_map : {A B : Type 0} (f : A → B) (routes : Routes) (H K : SwitchPort → Type 0) → ((p : SwitchPort) → H p → K p) → (p : SwitchPort) (phase : Phase (List A)) → IsBlockedBy routes H p phase → IsBlockedBy routes K p (with_header (map f) phase)
blocked_map f routes H K on p Fresh is = absurd is
blocked_map f routes H K on p (Head b) is = absurd is
blocked_map f routes H K on p (Want b g) is = λ o group. let q = is o group in (q.0, q.1, on q.0 q.2)
blocked_map f routes H K on p (Stream o) is = (is.0, is.1, on is.0 is.2)
blocked_map f routes H K on p Sinking is = absurd is
