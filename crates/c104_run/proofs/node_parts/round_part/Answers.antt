use Rattle.{c104_event.specs.declared.events.Event.Event, c104_plan.specs.declared.ports.Port.Port, c104_run.proofs.NodeParts.round_part_is}
use Rattle.{c104_run.specs.NodeParts.events_of, std.proofs.Common.{List, ap, sym, ◌++◌, ◌∙◌}}

pub returns : Rattle.c104_run.proofs.node_parts.round_part.Goals.returns
returns c =
    c.in_ok-add_events.ensures
    ∙ ap (λ (es : List Event). es ++ events_of c.args.wires.now c.args.node c.deref.result.now) c.new-events.ensures.items
    ∙ ap (λ (ps : List Port). events_of c.args.wires.now c.args.node ps) (c.deref.ensures.value ∙ c.in_ok-ports.ensures)
    ∙ sym (round_part_is c.args.wires.now c.args.node)
