use Rattle.{c104_plan.proofs.RangeLists.map_next, c104_workers.specs.Audited.seat_list, std.proofs.Common.◌∙◌}

pub loop-number-preserved : Rattle.c104_workers.proofs.auditing.seat_lists.Goals.loop-number-preserved
loop-number-preserved c = map_next (λ number. seat_list number c.args.seats.now) c.loop-number.number _ _ _ c.loop-number.invariant (c.new.ensures ∙ c.in_ok-calls.ensures) c.in_ok-push.ensures.items
