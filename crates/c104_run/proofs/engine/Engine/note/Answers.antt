use Rattle.c104_node.{proofs.PartFrames.may_not, specs.{PortParts.part_act, declared.port_part.PortPart.PortPart}}
use Rattle.{c104_run.proofs.NotedSwitches.{claimed_here, not_noted, ready_here}, c104_switch.proofs.Wanting.{first_isnt, twice}}
use Rattle.std.proofs.Common.{arith, sym, ◌∙◌}
use Rattle.c104_run.proofs.engine.Engine.note.Goals as goal

pub returns-clause-claims : goal.returns-clause-claims
returns-clause-claims g c = λ none n here i o input.
    let nothing = not_noted c.next_wanting_at-wanting.result _ _ c.is_some.ensures c.add_if.ensures.here none in
    claimed_here _ c.args.switch n here i o (rw (sym c.places-places.ensures.places) (c.next_wanting_at-wanting.ensures.passed i o (omega arith) (rw nothing input)))

pub returns-clause-grants : goal.returns-clause-grants
returns-clause-grants g c = λ none n here l below is.
    let nothing = not_noted c.next-granting.result _ _ c.is_some-2.ensures c.add_if-2.ensures.here none in
    let unready = sym (c.ready_links-ready.ensures.ready l (omega arith) below) ∙ sym (twice _) ∙ c.next-granting.ensures.0 l (omega arith) (rw nothing below) in
    ready_here _ c.args.switch n here g.T.TokenKind.kind (part_act PortPart.Credit l) (may_not g.T.TokenKind.kind l PortPart.Credit c.args.switch _ (first_isnt _ _ unready is))
