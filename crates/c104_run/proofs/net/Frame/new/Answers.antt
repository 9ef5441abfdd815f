use Rattle.{c104_plan.specs.declared.plans.Terminal.Terminal, c104_run.specs.FinishedRecords.HaveRunRoom, std.proofs.Common.{List, ap}}
use Rattle.std.{proofs.Common.{arith, length, subst, sym, ℕ, ◌∙◌, ◌≡◌}, specs.Vec.vec_capacity}

-- as many nodes as the plan has are left at the end
pub returns-clause-room : Rattle.c104_run.proofs.net.Frame.new.Goals.returns-clause-room
returns-clause-room c =
    let same : c.in_ok-wires.wires ≡ c.args.plan.now = c.in_ok-wires.ensures ∙ c.in_ok-copy.ensures.cases in
    let switches = ap (length {A = List ℕ}) c.switches.ensures.switches in
    let terminals = ap (length {A = Terminal}) c.terminals-terminals.ensures.terminals in
    subst (λ p. HaveRunRoom p c.in_ok-room.room.starts.items c.in_ok-room.room.traces.items c.in_ok-room.room.terminals.items (vec_capacity c.in_ok-room.room.starts) (vec_capacity c.in_ok-room.room.traces) (vec_capacity c.in_ok-room.room.terminals)) (sym same)
    (record {
      no_start = c.in_ok-room.ensures.starts.0;
      no_trace = c.in_ok-room.ensures.traces.0;
      no_terminal = c.in_ok-room.ensures.terminals.0;
      starts_fit = omega (arith, switches, terminals, c.in_ok-room.ensures.starts.1);
      traces_fit = omega (arith, switches, terminals, c.in_ok-room.ensures.traces.1);
      terminals_fit = omega (arith, terminals, c.in_ok-room.ensures.terminals.1);
    })
