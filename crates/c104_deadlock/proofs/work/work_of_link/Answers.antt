use Rattle.{c104_check.specs.{Walks.port_of, declared.ports.SwitchPort.SwitchPort}, c104_deadlock.proofs.WorkBounds.added_told}
use Rattle.c104_deadlock.proofs.WorkBounds.{held_length, incoming_told, plain_input, plain_output, view_parts, weigh_is}
use Rattle.c104_deadlock.specs.{HeaderWork.{full_input, full_link, none_ahead}, Work.{header_held, level, told_work, weigh}}
use Rattle.{c104_link.specs.Buffers.Outgoing, c104_node.specs.Traces.part, c104_plan.specs.{Plans.Plan, Wiring.peer}}
use Rattle.{c104_plan.specs.declared.ports.Port.Port, c104_switch.specs.{Rooms.room_left, Switch.{Input, Switch}, Views.link_view}}
use Rattle.{c104_switch.specs.declared.actions.LinkView.LinkView, c104_token.specs.Tokens.byte_of, std.proofs.Common.{Some, ap, length}}
use Rattle.std.proofs.Common.{option_map, slice_get, sym, ℕ, ◌*◌, ◌+◌, ◌∙◌, ◌≡◌}

pub returns : Rattle.c104_deadlock.proofs.work.work_of_link.Goals.returns
returns g c =
    let plan : Plan = c.args.plan.now in
    let rank : SwitchPort → ℕ = g.R.Ranking.rank c.args.ranks.now in
    let s : ℕ = c.args.place in
    let l : ℕ = c.args.link in
    let S : Switch g.row.T.Denot = c.args.switch.now in
    let v : LinkView = c.in-Some-Some.view in
    let a = c.in-Some-Some.ensures in
    let b = c.in-Some-Some.ensures' in
    let seen : link_view g.T.TokenKind.kind S l ≡ Some v = sym a in
    let parts = view_parts g.T.TokenKind.kind S l v seen in
    let p : Input g.row.T.Denot = parts.0 in
    let q : Outgoing g.row.T.Denot = parts.1 in
    let own : ℕ = rank (port_of s l) + 1 in
    let far : ℕ = level plan rank (peer plan (Port.Switch s l)) in
    let items : length p.buffer.items ≡ v.input_level = ap (λ (w : LinkView). w.input_level) parts.4 in
    let first : c.weight.result ≡ told_work (weigh (8 * own + 2) p.buffer.items) = c.weight.ensures ∙ ap (λ n. told_work (n * (8 * c.level_at-own.result + 2))) (sym items) ∙ ap (λ k. told_work (length p.buffer.items * (8 * k + 2))) c.level_at-own.ensures.level ∙ ap told_work (weigh_is (8 * own + 2) p.buffer.items) in
    let roomy : Some (room_left p.buffer) ≡ Some c.in-Some-Some.room = ap (option_map (λ (p : Input g.row.T.Denot). room_left p.buffer)) (sym parts.2) ∙ sym b in
    let room : c.in-Some-Some.room ≡ room_left p.buffer = cc in
    let came : c.added-came_in.result ≡ told_work (weigh (8 * own + 2) p.buffer.items + room_left p.buffer) = incoming_told (weigh (8 * own + 2) p.buffer.items) (room_left p.buffer) c.weight.result c.added-came_in.result first (c.added-came_in.ensures ∙ ap (λ n. told_work (c.weight.result + n)) room) in
    let header : c.header_length-header.result ≡ length (header_held p.phase) = c.header_length-header.ensures ∙ ap (λ (w : LinkView). length (header_held w.phase)) (sym parts.4) ∙ held_length (λ (x : g.row.T.Denot). byte_of (g.T.TokenKind.kind.plain x)) p.phase in
    let second : c.weight-2.result ≡ told_work (weigh (8 * own) (header_held p.phase)) = c.weight-2.ensures ∙ ap (λ n. told_work (n * (8 * c.level_at-own.result))) header ∙ ap (λ k. told_work (length (header_held p.phase) * (8 * k))) c.level_at-own.ensures.level ∙ ap told_work (weigh_is (8 * own) (header_held p.phase)) in
    let input : c.added-input.result ≡ told_work (full_input plan rank none_ahead s l p) = added_told (weigh (8 * own + 2) p.buffer.items + room_left p.buffer) (weigh (8 * own) (header_held p.phase)) c.added-came_in.result c.weight-2.result c.added-input.result came second c.added-input.ensures ∙ ap told_work (plain_input plan rank s l p) in
    let waiting : length q.items ≡ v.output_level = ap (λ (w : LinkView). w.output_level) parts.4 in
    let output : c.weight-output.result ≡ told_work (full_link plan rank none_ahead s l q) = c.weight-output.ensures ∙ ap (λ n. told_work (n * (8 * c.level-far.result + 4))) (sym waiting) ∙ ap (λ k. told_work (length q.items * (8 * k + 4))) c.level-far.ensures.level ∙ ap told_work (weigh_is (8 * far + 4) q.items ∙ plain_output plan rank (peer plan (Port.Switch s l)) q) in
    added_told (full_input plan rank none_ahead s l p) (full_link plan rank none_ahead s l q) c.added-input.result c.weight-output.result c.added.result input output c.added.ensures
    ∙ ap (λ o. told_work (part 0 (full_input plan rank none_ahead s l) o + full_link plan rank none_ahead s l q)) (sym parts.2)
    ∙ ap (λ o. told_work (part 0 (full_input plan rank none_ahead s l) (slice_get S.inputs l) + part 0 (full_link plan rank none_ahead s l) o)) (sym parts.3)
