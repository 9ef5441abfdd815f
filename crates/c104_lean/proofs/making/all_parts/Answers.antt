use Rattle.{c104_lean.{proofs.SeatWork.own_place, specs.Shared.ArePartsOf}, c104_turns.specs.Working.{IsPartOf, PartView}}
use Rattle.std.proofs.{Common.{subst, sym}, lemmas.List.Elements.All-push}

pub loop-node-preserved : Rattle.c104_lean.proofs.making.all_parts.Goals.loop-node-preserved
loop-node-preserved c =
    subst (ArePartsOf c.args.wires.now) (sym c.in_ok-push.ensures.items)
    (All-push (λ (part : PartView). IsPartOf c.args.wires.now part.node part) c.loop-node.parts.items c.in_ok-of_round.field-0
    c.loop-node.invariant
    (own_place c.args.wires.now c.loop-node.node c.in_ok-of_round.field-0 c.in_ok-of_round.ensures))
