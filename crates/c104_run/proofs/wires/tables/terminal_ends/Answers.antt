use Rattle.{c104_plan.specs.declared.{plans.Terminal.Terminal, ports.Port.Port}, c104_run.proofs.EndTables.terminal_far}
use Rattle.{c104_run.{proofs.RoundLists.map_next, specs.{Ends.end_of, FarEnds.far_end}}, std.proofs.Common.{List, Some, [], ap, arith}}
use Rattle.std.proofs.Common.{get_or, length, ◌++◌, ◌<◌, ◌∙◌, ◌∷◌, ◌≡◌}

pub loop-number-preserved : Rattle.c104_run.proofs.wires.tables.terminal_ends.Goals.loop-number-preserved
loop-number-preserved c =
    let t = c.index-terminals-number.result in
    let n = c.loop-number.number in
    let all = c.terminals-terminals.ensures.terminals in
    let below : n < length c.terminals-terminals.result.now = c.loop-number-test.true in
    let inside : n < length c.args.plan.now.terminals = let same = ap length all in omega (arith, same, below) in
    let here : t ≡ get_or c.args.plan.now.terminals n t = c.index-terminals-number.is ∙ ap (λ (ts : List Terminal). get_or ts n t) all in
    let far : Some c.end_of.result ≡ far_end c.args.plan.now (Port.Terminal n) =
    ap Some (c.end_of.ensures ∙ ap (end_of c.args.plan.now) c.host_port.ensures) ∙ terminal_far c.args.plan.now c.terminals-terminals.ensures.kept n t inside here in
    map_next (λ k. far_end c.args.plan.now (Port.Terminal k)) n [] _ _ c.loop-number.invariant (c.in_ok-push.ensures.items ∙ ap (λ e. c.loop-number.ends.items ++ e ∷ []) far)
