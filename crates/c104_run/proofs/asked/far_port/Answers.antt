use Rattle.{c104_plan.specs.{Plans.Plan, declared.ports.Port.Port}, c104_run.proofs.FarPorts.far_terminal, std.proofs.Common.{Some, ap}}
use Rattle.std.proofs.Common.{arith, length, ◌-◌, ◌∙◌, ◌≡◌}

pub returns-else-far-switches : Rattle.c104_run.proofs.asked.far_port.Goals.returns-else-far-switches
returns-else-far-switches c =
    let same = ap length c.switches-switches.ensures.switches in
    let plan = ap (λ (p : Plan). length p.switches) c.plan.ensures.plan in
    far_terminal c.args.wires.now c.plan.ensures.kept c.args.port c.args.far c.requires (let past = c.if-far-switches.false in omega (arith, same, plan, past))
    ∙ ap (λ n. Some (Port.Terminal (c.args.far.node - n))) (let one : length c.args.wires.now.switches ≡ length c.switches-switches.result.now = omega (arith, same, plan) in one)
