use Rattle.{c104_link.specs.Buffers.outgoing_clear, std.proofs.{Common.{ap, arith, slice_set, sym, ◌∙◌}, lemmas.List.Edits.map_over_more}}

pub loop-output-preserved : Rattle.c104_switch.proofs.outputs.OutputsOf.clear.Goals.loop-output-preserved
loop-output-preserved g c =
    ap (slice_set c.loop-output.output-items c.loop-output.output-index) (c.clear.ensures ∙ ap outgoing_clear (sym c.output-item.is))
    ∙ map_over_more outgoing_clear c.deref_mut-output-items.result.now c.loop-output.output-items c.loop-output.output-index c.output-item.result (omega arith) c.loop-output.invariant c.output-item.is
