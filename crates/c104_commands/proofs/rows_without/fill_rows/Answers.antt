use Rattle.{c104_commands.proofs.WithoutKept.has_room, c104_plan.specs.Plans.Plan, std.proofs.Common.ap}

pub push-requires-clause-room : Rattle.c104_commands.proofs.rows_without.fill_rows.Goals.push-requires-clause-room
push-requires-clause-room c =
    has_room c.args.plan.now c.args.wire (c.loop-row.parts).rows c.rows-row-items.result.now c.loop-row.row-index c.row_past_both-past.result _ c.rows-row-items.ensures.kept c.rows-row-items.ensures.rows (ap (λ (p : Plan). p.rows) c.loop-row.invariant) c.loop-row-test.true c.row_past_both-past.ensures
