use Rattle.c104_plan.{proofs.Wires.{peer_inside, peer_of_terminal, peer_of_wire, wiring}, specs.{Ports.other_end, Wiring.terminal_wires}}
use Rattle.std.proofs.Common.{None, Some, ap, sym, ◌∙◌, ◌≡◌}
use Rattle.c104_plan.proofs.plans.Plan.peer.Goals as goal

pub returns-in-Some-clause-value : goal.returns-in-Some-clause-value
returns-in-Some-clause-value c =
    let told : other_end (terminal_wires 0 c.args.self.now.terminals) c.args.port ≡ Some c.in-Some.other =
    ap (λ ts. other_end (terminal_wires 0 ts) c.args.port) (sym c.terminals.ensures.terminals) ∙ sym c.end_of_terminal_wire.ensures ∙ c.in-Some.is in
    sym (peer_of_terminal c.args.self.now c.args.port c.in-Some.other told)

pub returns-in-Some-clause-inside : goal.returns-in-Some-clause-inside
returns-in-Some-clause-inside c = peer_inside c.args.self.now c.terminals.ensures.kept c.args.port (Some c.in-Some.other) (returns-in-Some-clause-value c)

pub returns-in-Some-clause-wiring : goal.returns-in-Some-clause-wiring
returns-in-Some-clause-wiring c = wiring c.args.self.now c.terminals.ensures.kept

pub returns-in-None-clause-value : goal.returns-in-None-clause-value
returns-in-None-clause-value c =
    let none : other_end (terminal_wires 0 c.args.self.now.terminals) c.args.port ≡ None =
    ap (λ ts. other_end (terminal_wires 0 ts) c.args.port) (sym c.terminals.ensures.terminals) ∙ sym c.end_of_terminal_wire.ensures ∙ c.in-None.is in
    c.end_of_wire.ensures ∙ ap (λ ws. other_end ws c.args.port) c.wires.ensures.wires ∙ sym (peer_of_wire c.args.self.now c.args.port none)

pub returns-in-None-clause-inside : goal.returns-in-None-clause-inside
returns-in-None-clause-inside c = peer_inside c.args.self.now c.terminals.ensures.kept c.args.port c.end_of_wire.result (returns-in-None-clause-value c)

pub returns-in-None-clause-wiring : goal.returns-in-None-clause-wiring
returns-in-None-clause-wiring c = wiring c.args.self.now c.terminals.ensures.kept
