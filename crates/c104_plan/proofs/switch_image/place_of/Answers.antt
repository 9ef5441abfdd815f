use Rattle.{c104_plan.proofs.KeptUpdates.{parted_at, point_at}, std.proofs.Common.{nat_lt, rules}}
use Rattle.std.proofs.lemmas.List.Sorted.{IsPartitionPoint-from_clause}

pub returns-clause-place : Rattle.c104_plan.proofs.switch_image.place_of.Goals.returns-clause-place
returns-clause-place c front rest below above is =
    let values = c.args.values.now in
    let parted = parted_at values front rest c.args.addr below above is in
    let point = IsPartitionPoint-from_clause (λ x. nat_lt x.0 c.args.addr) values c.partition_point.result c.partition_point.ensures.partitioned parted (λ a r f k. search rules) in
    point_at values front rest c.args.addr c.partition_point.result below above is c.partition_point.ensures.bound point
