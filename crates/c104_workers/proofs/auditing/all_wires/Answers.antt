use Rattle.{c104_workers.proofs.AuditedLeft.wire_next, std.proofs.{Common.{Some, refl, slice_get, ◌≡◌}, lemmas.Option.slice_get_read}}

pub loop-number-preserved : Rattle.c104_workers.proofs.auditing.all_wires.Goals.loop-number-preserved
loop-number-preserved c =
    let at : slice_get c.terminals-terminals.result.now c.loop-number.number ≡ Some c.index-terminals-number.result = slice_get_read c.terminals-terminals.result.now _ c.loop-number.number c.index-terminals-number.result refl c.loop-number-test.true c.index-terminals-number.is in
    wire_next c.loop-number.number c.terminals-terminals.result.now c.index-terminals-number.result c.host_port.result c.loop-number.list.items c.push.new.self.items at c.host_port.ensures c.loop-number.invariant c.in_ok-push.ensures.items
