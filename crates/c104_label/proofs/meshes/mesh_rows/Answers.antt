use Rattle.{c104_label.{proofs.MeshRows.{front_last, mesh_front}, specs.LabelRows.{label_row, with_row}}, std.proofs.Common.{ap, arith}}
use Rattle.std.proofs.Common.{refl, ◌*◌, ◌+◌, ◌/◌, ◌∙◌, ◌≡◌}

pub returns : Rattle.c104_label.proofs.meshes.mesh_rows.Goals.returns
returns c =
    let w = c.args.width in
    let h = c.args.height in
    let p = c.args.terminals in
    let s = c.args.switch in
    let front : c.loop-terminal.rows.items ≡ mesh_front (s / w * w * p) (s * p) c.loop-terminal.terminal = c.loop-terminal.invariant ∙ ap (λ above. mesh_front above c.first_limits-above.result.1 c.loop-terminal.terminal) c.first_limits-above.ensures.above ∙ ap (λ own. mesh_front (s / w * w * p) own c.loop-terminal.terminal) c.first_limits-above.ensures.own in
    let end : c.loop-terminal.terminal ≡ p = omega (arith, c.loop-terminal.auto.terminal-end, c.loop-terminal-test.false) in
    let right : c.add_row-3.new.rows.items ≡ with_row c.loop-terminal.rows.items (label_row ((s / w * w + w) * p) 2) = c.in_ok-add_row-4.ensures {u = tt} ∙ ap (λ limit. with_row c.loop-terminal.rows.items (label_row limit 2)) c.last_limits-row.ensures.row in
    let below : c.add_row-4.new.rows.items ≡ with_row c.add_row-3.new.rows.items (label_row (w * h * p) 3) = c.in_ok-add_row-5.ensures {u = tt} ∙ ap (λ limit. with_row c.add_row-3.new.rows.items (label_row limit 3)) c.last_limits-row.ensures.mesh in
    below ∙ ap (λ rows. with_row rows (label_row (w * h * p) 3)) (right ∙ ap (λ rows. with_row rows (label_row ((s / w * w + w) * p) 2)) (front ∙ ap (mesh_front (s / w * w * p) (s * p)) end)) ∙ front_last w h p s (s / w * w + w) refl
