use Rattle.{c104_link.specs.Buffers.outgoing_emit, c104_switch.proofs.KeptSets.{tested_all, tested_next, untested_after}}
use Rattle.std.proofs.{Common.{arith, is_some, length, refl, ◌∙◌}, lemmas.Option.slice_get_read}
use Rattle.c104_switch.proofs.outputs.sending_of.Goals as goal

pub loop-link-preserved : goal.loop-link-preserved
loop-link-preserved g c = record {
  so_far = tested_next (λ q. is_some (outgoing_emit q)) c.args.list.now c.loop-link.link c.index-list-link.result c.loop-link.sending c.set.new.self c.set.ensures.others (slice_get_read c.args.list.now (length c.args.list.now) c.loop-link.link c.index-list-link.result refl (omega arith) c.index-list-link.is) c.loop-link.invariant.so_far (λ inside. c.set.ensures.here inside ∙ c.can_emit.ensures);
  others = untested_after (λ q. is_some (outgoing_emit q)) c.args.list.now c.loop-link.link c.index-list-link.result c.loop-link.sending c.set.new.self c.set.ensures.others c.loop-link.invariant.others;
}

pub returns : goal.returns
returns g c = tested_all (λ q. is_some (outgoing_emit q)) c.args.list.now c.loop-link.link c.loop-link.sending (omega arith) c.loop-link.invariant.so_far c.loop-link.invariant.others
