use Rattle.{c104_rows.specs.Lanes.lane_settled, std.proofs.{Common.{ap, arith, slice_set, sym, ◌∙◌}, lemmas.List.Edits.map_over_more}}

pub loop-lane-preserved : Rattle.c104_rows.proofs.timelines.settle_all.Goals.loop-lane-preserved
loop-lane-preserved c =
    ap (slice_set c.loop-lane.lane-items c.loop-lane.lane-index) (c.in_ok-settle.ensures ∙ ap lane_settled (sym c.lane-item.is))
    ∙ map_over_more lane_settled c.deref_mut-lane-items.result.now c.loop-lane.lane-items c.loop-lane.lane-index c.lane-item.result (omega arith) c.loop-lane.invariant c.lane-item.is
