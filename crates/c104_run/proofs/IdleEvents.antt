-- Events of a round whose near end isn't ready: they do nothing.
use Rattle.{c104_event.specs.declared.events.Event.Event, c104_link.specs.Steps.step_at, c104_node.specs.{Acts.nodes_act, Nodes.node_claim}}
use Rattle.c104_node.specs.{PortActs.near_act, declared.{acts.ActOf.ActOf, crossings.Crossing.TheVariants.{Grant, Token}}}
use Rattle.{c104_plan.specs.{Plans.Plan, Wiring.{IsPlanPort, peer}, declared.ports.Port.Port}, c104_run.proofs.ActSteps.joint_unready}
use Rattle.c104_run.proofs.{EventSteps.{claim_named, done_step}, NoFaults.{link_there, node_there, past_node}, RoundLists.links_passed}
use Rattle.c104_run.specs.{EventActs.port_place, Network.{Network, event_fault, network_step, terminal_place, wired_fault}}
use Rattle.c104_run.specs.{RoundParts.{AreIdle, EachIdle, output_walk}, Rounds.link_numbers}
use Rattle.{c104_switch.specs.declared.actions.ActionOf.ActionOf, c104_token.specs.Kinds.Kind, std.proofs.Common.{List, None, Option, Some}}
use Rattle.std.proofs.Common.{[], arith, false, is_some, length, refl, subst, suc, zero, ℕ, ◌++◌, ◌+◌, ◌-◌, ◌<◌, ◌∷◌, ◌≡◌}
use Rattle.std.{proofs.lemmas.Bool.Decides.nat_tests, specs.List.{flat_map, range_with_len}}

pub none_of : {X : Type 0} (o : Option X) → is_some o ≡ false → o ≡ None
none_of o is = search arith

-- a port of the plan that has a wire
module _ (plan : Plan) where
  pub port_inside : (p : Port) → wired_fault plan p ≡ None → IsPlanPort plan p
  port_inside p wired = search (arith, node_there, link_there, past_node)

  pub wired_inside : (p q : Port) → IsPlanPort plan p → peer plan p ≡ Some q → wired_fault plan p ≡ None
  wired_inside p q inside is = search (arith, nat_tests)

module _ {A : Type 0} (kind : Kind A) (net : Network A) where
  -- an event that could happen and isn't ready
  idle_event : (e : Event) → event_fault net.plan e ≡ None → network_step kind net e ≡ None → AreIdle kind net (e ∷ [])
  idle_event e possible unready = search arith

  -- nothing crosses from a port whose node isn't ready
  pub idle_credit : (p : Port) → wired_fault net.plan p ≡ None → is_some (nodes_act kind net.nodes (port_place net.plan p) 0 (near_act Grant p)) ≡ false → AreIdle kind net (Event.Credit p ∷ [])
  idle_credit p wired unready = idle_event (Event.Credit p) wired (joint_unready kind net Grant p (none_of _ unready) (peer net.plan p))

  pub idle_cross : (p : Port) → wired_fault net.plan p ≡ None → is_some (nodes_act kind net.nodes (port_place net.plan p) 0 (near_act Token p)) ≡ false → AreIdle kind net (Event.Cross p ∷ [])
  idle_cross p wired unready = idle_event (Event.Cross p) wired (joint_unready kind net Token p (none_of _ unready) (peer net.plan p))

  pub idle_turn : (k l : ℕ) → wired_fault net.plan (Port.Switch k l) ≡ None → is_some (nodes_act kind net.nodes k 0 (ActOf.Step (ActionOf.Input l 0))) ≡ false → AreIdle kind net (Event.Input k l 0 ∷ [])
  idle_turn k l wired unready = search (arith, port_inside, nat_tests, idle_event, none_of)

  pub idle_claim : (k i o : ℕ) → k < length net.plan.switches → i < 32 → o < 32 → step_at net.nodes k (node_claim i o) ≡ None → AreIdle kind net (Event.Claim k i o ∷ [])
  idle_claim k i o switch input output none = search (arith, nat_tests, idle_event, claim_named, done_step)

  pub idle_drain : (t : ℕ) → t < length net.plan.terminals → is_some (nodes_act kind net.nodes (terminal_place net.plan t) (terminal_place net.plan t - length net.plan.switches) ActOf.Drain) ≡ false → AreIdle kind net (Event.Drain t ∷ [])
  idle_drain t inside unready = search (arith, nat_tests, idle_event, none_of)

  -- events in turn, and those of the numbers below n, and of links
  idle_append : (es fs : List Event) → EachIdle kind net es → EachIdle kind net fs → EachIdle kind net (es ++ fs)
  idle_append [] fs first next = next
  idle_append (e ∷ es) fs first next = (first.0, idle_append es fs first.1 next)

  idle_numbers : (part : ℕ → List Event) (n a : ℕ) → ((k : ℕ) → k < a + n → AreIdle kind net (part k)) → EachIdle kind net (flat_map part (range_with_len a n))
  idle_numbers part zero a idle = tt
  idle_numbers part (suc n) a idle = idle_append (part a) (flat_map part (range_with_len (a + 1) n)) (idle a (omega arith)).each (idle_numbers part n (a + 1) (λ k below. idle k (omega arith)))

  pub idle_links : (part : ℕ → List Event) → ((l : ℕ) → l < 32 → AreIdle kind net (part l)) → AreIdle kind net (flat_map part link_numbers)
  idle_links part idle = record { each = subst (λ ns. EachIdle kind net (flat_map part ns)) (links_passed 32 refl) (idle_numbers part 32 0 (λ l below. idle l (omega arith))) }

  -- all claims of an input, where none of them can be made
  pub idle_outputs : (k i : ℕ) → k < length net.plan.switches → i < 32 → ((o : ℕ) → o < 32 → step_at net.nodes k (node_claim i o) ≡ None) → AreIdle kind net (output_walk k i)
  idle_outputs k i switch input none = idle_links (λ o. Event.Claim k i o ∷ []) (λ o output. idle_claim k i o switch input output (none o output))
