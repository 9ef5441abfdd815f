use Rattle.{c104_plan.specs.{Wiring.terminal_wires, declared.plans.Terminal.Terminal}, c104_run.proofs.EndTables.{all_added, ends_counted}}
use Rattle.c104_run.{proofs.EndTables.{from_terminal, none_left, terminal_added}, specs.FarEnds.{end_by, ends_by, with_end}}
use Rattle.std.proofs.Common.{List, ap, arith, length, sym, ◌++◌, ◌+◌, ◌-◌, ◌<◌, ◌∙◌, ◌≡◌}
use Rattle.c104_run.proofs.wires.tables.add_terminals.Goals as goal

pub loop-done-init : goal.loop-done-init
loop-done-init c = c.requires ∙ ap (λ (ts : List Terminal). ends_by (end_by c.args.plan.now (terminal_wires (length c.terminals-terminals.result.now - 0) ts ++ c.args.plan.now.wires)) (length c.args.plan.now.switches)) (sym (none_left c.terminals-terminals.result.now))

pub loop-done-preserved : goal.loop-done-preserved
loop-done-preserved c =
    let ts = c.terminals-terminals.result.now in
    let ws = c.args.plan.now.wires in
    let n = length c.args.plan.now.switches in
    let k = length ts - 1 - c.loop-done.done in
    let below : c.loop-done.done < length ts = c.loop-done-test.true in
    let next : length ts - c.loop-done.done ≡ k + 1 = omega (arith, below) in
    let down : k ≡ length ts - (c.loop-done.done + 1) = omega arith in
    terminal_added c.args.plan.now ts ws k (length ts - c.loop-done.done) c.index-terminals-number.result c.host_port-host.result n _ (omega (arith, below)) next c.index-terminals-number.is c.host_port-host.ensures
    (c.set_end.ensures.set (from_terminal c.args.plan.now ts ws (length ts - c.loop-done.done)) c.loop-done.invariant ∙ ap (λ e. ends_by (with_end (from_terminal c.args.plan.now ts ws (length ts - c.loop-done.done)) c.host_port-host.result e) n) c.end_of.ensures)
    ∙ ap (λ j. ends_by (from_terminal c.args.plan.now ts ws j) n) down

pub set_end-requires-clause-room : goal.set_end-requires-clause-room
set_end-requires-clause-room c =
    ap length c.loop-done.invariant
    ∙ ends_counted (from_terminal c.args.plan.now c.terminals-terminals.result.now c.args.plan.now.wires (length c.terminals-terminals.result.now - c.loop-done.done)) (length c.args.plan.now.switches)

pub returns : goal.returns
returns c =
    let zero : length c.terminals-terminals.result.now - c.loop-done.done ≡ 0 = omega (arith, c.loop-done-test.false) in
    all_added c.args.plan.now _
    (c.loop-done.invariant
    ∙ ap (λ m. ends_by (from_terminal c.args.plan.now c.terminals-terminals.result.now c.args.plan.now.wires m) (length c.args.plan.now.switches)) zero
    ∙ ap (λ (xs : List Terminal). ends_by (end_by c.args.plan.now (terminal_wires 0 xs ++ c.args.plan.now.wires)) (length c.args.plan.now.switches)) c.terminals-terminals.ensures.terminals)
