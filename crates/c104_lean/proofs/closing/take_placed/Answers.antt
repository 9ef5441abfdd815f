use Rattle.{c104_lean.{proofs.TakenNodes.one_placed, specs.Nodes.IsHeld}, c104_node.specs.TracedRecords.TracedRecord}
use Rattle.{c104_tickets.specs.declared.views.View.View, std.proofs.Common.{Some, [], ap, arith, length, length-append, subst, sym, ℕ, ◌+◌}}
use Rattle.std.proofs.Common.{◌∙◌, ◌∷◌, ◌≡◌}

pub loop-lock-preserved : Rattle.c104_lean.proofs.closing.take_placed.Goals.loop-lock-preserved
loop-lock-preserved g c =
    let parts = c.into_parts-place.result in
    let word = g.N.Sharing.word in
    let before = g.N.Sharing.before in
    let held : IsHeld word before parts.0 parts.1 (Some parts.2) =
    subst (λ (n : TracedRecord). IsHeld word before parts.0 n (Some parts.2)) (sym c.into_parts-place.ensures.parts.1)
    (subst (λ (k : ℕ). IsHeld word before k c.into_inner.result.node (Some parts.2)) (sym c.into_parts-place.ensures.parts.0)
    c.into_parts-place.ensures.held) in
    let longer : length c.push_reserved.new.self.items ≡ length c.loop-lock.room.items + 1 =
    ap length c.push_reserved.ensures.items ∙ length-append c.loop-lock.room.items ((record { place = parts.0; node = parts.1 }) ∷ []) in
    let fewer : length c.loop-lock.locks.items ≡ length c.pop.new.self.items + 1 =
    ap length c.in-Some.ensures.items ∙ length-append c.pop.new.self.items (c.in-Some.lock ∷ []) in
    record {
      word = c.join.ensures.joined.0 ∙ c.loop-lock.invariant.word;
      counted = omega (arith, longer, fewer, c.loop-lock.invariant.counted);
      room = omega (arith, longer, fewer, c.push_reserved.ensures.capacity, c.loop-lock.invariant.room);
      taken = one_placed word before parts.0 parts.1 parts.2 c.loop-lock.room.items c.push_reserved.new.self.items
          c.args.pass.now.view.tracks c.loop-lock.pass.view.tracks c.join.new.pass.view.tracks c.loop-lock.invariant.taken held
          c.push_reserved.ensures.items (ap (λ (v : View). v.tracks) c.join.ensures.joined.1);
    }
