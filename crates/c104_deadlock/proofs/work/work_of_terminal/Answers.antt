use Rattle.{c104_check.specs.declared.ports.SwitchPort.SwitchPort, c104_deadlock.proofs.WorkBounds.{added_told, incoming_told}}
use Rattle.c104_deadlock.{proofs.WorkBounds.{plain_output, weigh_is}, specs.HeaderWork.{ahead_at, full_incoming, full_output, none_ahead}}
use Rattle.{c104_deadlock.specs.Work.{level, told_work, weigh}, c104_node.specs.Terminals.Terminal}
use Rattle.{c104_node.specs.declared.terminal.views.TerminalView.TerminalView, c104_plan.specs.{Plans.Plan, Wiring.peer}}
use Rattle.{c104_plan.specs.declared.ports.Port.Port, c104_switch.specs.Rooms.room_left, std.proofs.Common.{ap, arith, length, ℕ, ◌*◌, ◌+◌}}
use Rattle.std.proofs.Common.{◌-◌, ◌∙◌, ◌≡◌}

pub returns : Rattle.c104_deadlock.proofs.work.work_of_terminal.Goals.returns
returns g c =
    let plan : Plan = c.args.plan.now in
    let rank : SwitchPort → ℕ = g.R.Ranking.rank c.args.ranks.now in
    let t : Terminal g.row.T.Denot = c.args.terminal.now in
    let counted = ap length c.switches.ensures.switches in
    let number : c.saturating_sub-number.result ≡ c.args.place - length plan.switches = omega (arith, counted, c.saturating_sub-number.ensures) in
    let far : ℕ = level plan rank (peer plan (Port.Terminal (c.args.place - length plan.switches))) in
    let ahead : ℕ = ahead_at plan rank none_ahead (peer plan (Port.Terminal (c.args.place - length plan.switches))) in
    let away : c.level-far.result ≡ far = c.level-far.ensures.level ∙ ap (λ n. level plan rank (peer plan (Port.Terminal n))) number in
    let items : c.view-view.result.undrained ≡ length t.input.items = ap (λ (w : TerminalView). w.undrained) c.view-view.ensures in
    let first : c.weight.result ≡ told_work (weigh 2 t.input.items) = c.weight.ensures ∙ ap (λ n. told_work (n * 2)) items ∙ ap told_work (weigh_is 2 t.input.items) in
    let input : c.added-input.result ≡ told_work (full_incoming plan rank none_ahead 0 0 t.input) = incoming_told (weigh 2 t.input.items) (room_left t.input) c.weight.result c.added-input.result first (c.added-input.ensures ∙ ap (λ n. told_work (c.weight.result + n)) c.room.ensures) in
    let waiting : c.view-view.result.waiting ≡ length t.output.items = ap (λ (w : TerminalView). w.waiting) c.view-view.ensures in
    let output : c.weight-output.result ≡ told_work (full_output plan rank none_ahead far ahead t.output) = c.weight-output.ensures ∙ ap (λ n. told_work (n * (8 * c.level-far.result + 4))) waiting ∙ ap (λ k. told_work (length t.output.items * (8 * k + 4))) away ∙ ap told_work (weigh_is (8 * far + 4) t.output.items ∙ plain_output plan rank (peer plan (Port.Terminal (c.args.place - length plan.switches))) t.output) in
    added_told (full_incoming plan rank none_ahead 0 0 t.input) (full_output plan rank none_ahead far ahead t.output) c.added-input.result c.weight-output.result c.added.result input output c.added.ensures
