-- The port at the far end of a wire, found again from its place.
use Rattle.{c104_node.specs.declared.ends.End.End, c104_plan.specs.{Plans.{IsPlan, Plan}, Wiring.peer, declared.ports.Port.Port}}
use Rattle.{c104_run.{proofs.BalanceWires.{peer_back, switch_inside}, specs.{Ends.end_of, FarEnds.far_end}}, std.proofs.Common.None}
use Rattle.std.proofs.Common.{Option, Some, ap, arith, length, option_map, refl, ◌+◌, ◌-◌, ◌<◌, ◌≡◌, ◌≤◌}

-- behind the switches stands a terminal
pub far_terminal : (plan : Plan) → IsPlan plan → (p : Port) (far : End) → far_end plan p ≡ Some far → length plan.switches ≤ far.node → peer plan p ≡ Some (Port.Terminal (far.node - length plan.switches))
far_terminal plan is_plan p far is behind = by_peer (peer plan p) refl is
  where
    by_peer : (o : Option Port) → peer plan p ≡ o → option_map (end_of plan) o ≡ Some far → o ≡ Some (Port.Terminal (far.node - length plan.switches))
    by_peer None wired at = absurd (cc)
    by_peer (Some (Port.Switch s l)) wired at =
        let same : s ≡ far.node = (let one : end_of plan (Port.Switch s l) ≡ far = cc in ap (λ (e : End). e.node) one) in
        let inside : s < length plan.switches = (switch_inside plan is_plan s l p (peer_back plan is_plan p (Port.Switch s l) wired)).0 in
        absurd (let no : ⊥ = omega (arith, same, inside, behind) in no)
    by_peer (Some (Port.Terminal t)) wired at =
        let same : length plan.switches + t ≡ far.node = (let one : end_of plan (Port.Terminal t) ≡ far = cc in ap (λ (e : End). e.node) one) in
        ap (λ k. Some (Port.Terminal k)) (let number : t ≡ far.node - length plan.switches = omega (arith, same) in number)
