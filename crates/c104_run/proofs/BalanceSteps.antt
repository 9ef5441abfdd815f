-- What crosses a wire keeps every network in balance, and so does each step of one node.
use Rattle.c104_link.{proofs.MadeSteps.{at_place_made, from_place_made, given}, specs.Steps.{step_at, yield_step_at}}
use Rattle.c104_node.{proofs.NamedWires.{nodes_credit, nodes_cross}, specs.Nodes.{Node, node_credit_in, node_credit_out, node_enter}}
use Rattle.{c104_node.specs.{Nodes.node_leave, declared.ends.End.End}, c104_plan.specs.{Plans.{IsPlan, Plan}, Wiring.peer}}
use Rattle.{c104_plan.specs.declared.ports.Port.Port, c104_run.proofs.BalanceNodes.{credit_in_acts, credit_out_acts, enter_acts}}
use Rattle.c104_run.proofs.{BalanceNodes.leave_acts, BalancePlaces.{ActsAt, Reading, Rests, acts_at, changed, lower, raise, read_at}}
use Rattle.c104_run.proofs.{BalancePlaces.{seen_kept, still_in_place, switches_first}, BalanceWires.{ends_apart, peer_back, peer_one}}
use Rattle.c104_run.{proofs.BalanceWires.port_cases, specs.{Balance.{AreInPlace, IsSteady, credit_of, granted_of}, Ends.end_of}}
use Rattle.{c104_run.specs.Network.network_of, std.proofs.Common.{List, Option, Some, ap, arith, inl, inr, length, slice_get, slice_set}}
use Rattle.std.proofs.{Common.{subst, sym, ℕ, ◌∙◌, ◌≡◌, ◌≢◌}, lemmas.Option.same_Some}

module _ {A : Type 0} (plan : Plan) where
  -- a step of one node that keeps both numbers
  rest_steady : (nodes : List (Node A)) (i : ℕ) (n m : Node A) → slice_get nodes i ≡ Some n → Rests n m → IsSteady (network_of plan nodes) → IsSteady (network_of plan (slice_set nodes i m))
  rest_steady nodes i n m is rests steady = search (arith, still_in_place, seen_kept)

  -- a step at one place
  pub steady_at : (nodes after : List (Node A)) (i : ℕ) (f : Node A → Option (Node A)) → step_at nodes i f ≡ Some after → ((n m : Node A) → f n ≡ Some m → Rests n m) → IsSteady (network_of plan nodes) → IsSteady (network_of plan after)
  steady_at nodes after i f is rests steady = at_place_made nodes i f after is (λ n m here made set. subst (λ ns. IsSteady (network_of plan ns)) set (rest_steady nodes i n m here (rests n m made) steady))

  -- the same, where something comes of it
  pub steady_from : {Y : Type 0} (nodes : List (Node A)) (i : ℕ) (f : Node A → Option (Y × Node A)) (r : Y × List (Node A)) → yield_step_at nodes i f ≡ Some r → ((n : Node A) (v : Y × Node A) → f n ≡ Some v → Rests n v.1) → IsSteady (network_of plan nodes) → IsSteady (network_of plan r.1)
  steady_from {Y} nodes i f r is rests steady = from_place_made nodes i f r is (λ n v here made set. subst (λ (r : Y × List (Node A)). IsSteady (network_of plan r.1)) set (rest_steady nodes i n v.1 here (rests n v made) steady))

  -- two numbers that are read at the ends of a wire are one, and so they are at every wire, seen from either end
  abbrev IsEven : Reading A → Reading A → List (Node A) → End → End → Type 0
  IsEven f g nodes from to = (n : ℕ) × (read_at f nodes from ≡ Some n) × (read_at g nodes to ≡ Some n)

  abbrev AreEven : Reading A → Reading A → List (Node A) → Type 0
  AreEven f g nodes = (p q : Port) → peer plan p ≡ Some q → IsEven f g nodes (end_of plan p) (end_of plan q)

  turned : IsPlan plan → (f g : Reading A) (nodes : List (Node A)) → AreEven f g nodes → AreEven g f nodes
  turned is_plan f g nodes even p q wired = let was = even q p (peer_back plan is_plan p q wired) in (was.0, was.2, was.1)

  module _ (is_plan : IsPlan plan) (p q : Port) (wired : peer plan p ≡ Some q) (change : ℕ → ℕ) (nodes mid after : List (Node A)) where
    abbrev count : ℕ
    count = length plan.switches

    abbrev near : End
    near = end_of plan p

    abbrev far : End
    far = end_of plan q

    -- one number changes at one end, and then the other one at the other end
    both_changed : (moved kept : Reading A) → ActsAt kept moved change count near nodes mid → ActsAt moved kept change count far mid after → AreInPlace plan nodes → AreEven moved kept nodes → AreEven moved kept after
    both_changed moved kept first second placed even p' q' wired' =
        elim (port_cases p p') [
          | inl same ↦
              let one : q ≡ q' = same_Some _ _ (sym wired ∙ ap (peer plan) same ∙ wired') in
              let was : IsEven moved kept nodes near far = even p q wired in
              let both : IsEven moved kept after near far = (
                change was.0,
                second.keeps near ∙ first.here ∙ ap (changed change) was.1,
                second.here ∙ ap (changed change) (first.keeps far ∙ was.2),
              ) in
              subst (λ r. IsEven moved kept after (end_of plan r) (end_of plan q')) same (subst (λ r. IsEven moved kept after near (end_of plan r)) one both)
          | inr differs ↦
              let differs_far : q ≢ q' = λ one. differs (peer_one plan is_plan p p' q wired (wired' ∙ ap Some (sym one))) in
              let was : IsEven moved kept nodes (end_of plan p') (end_of plan q') = even p' q' wired' in (
                was.0,
                second.keeps (end_of plan p') ∙ first.elsewhere (switches_first plan nodes placed) (end_of plan p') (ends_apart plan is_plan p q p' q' wired wired' differs) ∙ was.1,
                second.elsewhere (switches_first plan mid (first.in_place ∙ placed)) (end_of plan q') (ends_apart plan is_plan q p q' p' (peer_back plan is_plan p q wired) (peer_back plan is_plan p' q' wired') differs_far) ∙ first.keeps (end_of plan q') ∙ was.2,
              )
        ]

    -- the credit changes at one end, and then what is granted at the other
    credit_then_granted : ActsAt granted_of credit_of change count near nodes mid → ActsAt credit_of granted_of change count far mid after → IsSteady (network_of plan nodes) → IsSteady (network_of plan after)
    credit_then_granted first second steady = record { in_place = second.in_place ∙ first.in_place ∙ steady.in_place; balanced = both_changed credit_of granted_of first second steady.in_place steady.balanced }

    -- what is granted changes at one end, and then the credit at the other
    granted_then_credit : ActsAt credit_of granted_of change count near nodes mid → ActsAt granted_of credit_of change count far mid after → IsSteady (network_of plan nodes) → IsSteady (network_of plan after)
    granted_then_credit first second steady = record {
      in_place = second.in_place ∙ first.in_place ∙ steady.in_place;
      balanced = turned is_plan granted_of credit_of after (both_changed granted_of credit_of first second steady.in_place (turned is_plan credit_of granted_of nodes steady.balanced));
    }

  module _ (is_plan : IsPlan plan) (p q : Port) (wired : peer plan p ≡ Some q) (nodes : List (Node A)) where
    -- a token crosses a wire
    pub steady_crossed : (r : A × List (Node A)) → nodes_cross nodes (end_of plan p) (end_of plan q) ≡ Some r → IsSteady (network_of plan nodes) → IsSteady (network_of plan r.1)
    steady_crossed r is steady =
        let from : End = end_of plan p in
        let to : End = end_of plan q in
        given (yield_step_at nodes from.node (node_leave from.link)) _ r is (λ v left more. given (step_at v.1 to.node (node_enter v.0 to.link)) _ r more (λ after came last.
        from_place_made nodes from.node (node_leave from.link) v left (λ n y here gone set. at_place_made v.1 to.node (node_enter v.0 to.link) after came (λ o m there entered made.
        let first : ActsAt granted_of credit_of lower (length plan.switches) from nodes v.1 = subst (λ (v : A × List (Node A)). ActsAt granted_of credit_of lower (length plan.switches) from nodes v.1) set (acts_at granted_of credit_of lower (length plan.switches) from nodes n y.1 here (leave_acts from.link n y gone)) in
        let second : ActsAt credit_of granted_of lower (length plan.switches) to v.1 after = subst (ActsAt credit_of granted_of lower (length plan.switches) to v.1) made (acts_at credit_of granted_of lower (length plan.switches) to v.1 o m there (enter_acts v.0 to.link o m entered)) in
        let same : ◌≡◌ {A = A × List (Node A)} (v.0, after) r = cc in
        subst (λ (r : A × List (Node A)). IsSteady (network_of plan r.1)) same (credit_then_granted is_plan p q wired lower nodes v.1 after first second steady)))))

    -- credit crosses a wire
    pub steady_credited : (after : List (Node A)) → nodes_credit nodes (end_of plan p) (end_of plan q) ≡ Some after → IsSteady (network_of plan nodes) → IsSteady (network_of plan after)
    steady_credited after is steady =
        let from : End = end_of plan p in
        let to : End = end_of plan q in
        given (step_at nodes from.node (node_credit_out from.link)) _ after is (λ mid out more.
        at_place_made nodes from.node (node_credit_out from.link) mid out (λ n y here gone set. at_place_made mid to.node (node_credit_in to.link) after more (λ o m there came made.
        let first : ActsAt credit_of granted_of raise (length plan.switches) from nodes mid = subst (ActsAt credit_of granted_of raise (length plan.switches) from nodes) set (acts_at credit_of granted_of raise (length plan.switches) from nodes n y here (credit_out_acts from.link n y gone)) in
        let second : ActsAt granted_of credit_of raise (length plan.switches) to mid after = subst (ActsAt granted_of credit_of raise (length plan.switches) to mid) made (acts_at granted_of credit_of raise (length plan.switches) to mid o m there (credit_in_acts to.link o m came)) in
        granted_then_credit is_plan p q wired raise nodes mid after first second steady)))
