use Rattle.{c104_switch.proofs.KeptSets.{kept_all, kept_next, none_after}, std.proofs.Common.{arith, length, refl}}
use Rattle.std.proofs.lemmas.Option.{slice_get_read}
use Rattle.c104_switch.proofs.input_sets.sets_of.Goals as goal

pub returns : goal.returns
returns g c = kept_all c.args.list.now c.loop-link.link c.loop-link.sets (omega arith) c.loop-link.invariant.so_far c.loop-link.invariant.others

pub loop-link-preserved : goal.loop-link-preserved
loop-link-preserved g c = record {
  so_far = kept_next c.args.list.now c.loop-link.link c.index-list-link.result c.loop-link.sets c.keep.new.self c.keep.ensures.others (slice_get_read c.args.list.now (length c.args.list.now) c.loop-link.link c.index-list-link.result refl (omega arith) c.index-list-link.is) c.loop-link.invariant.so_far c.keep.ensures.here;
  others = none_after c.args.list.now c.loop-link.link c.index-list-link.result c.loop-link.sets c.keep.new.self c.keep.ensures.others c.loop-link.invariant.others;
}
