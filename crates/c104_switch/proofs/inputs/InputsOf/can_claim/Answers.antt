use Rattle.{c104_crossbar.specs.Marks.ArePartition, c104_link.proofs.Lifts.{can_with_place, cannot_with_place}}
use Rattle.c104_switch.{proofs.ClaimSteps.{claimable_there, unclaimable}, specs.{Claims.input_claim, Holding.held_claims, Switch.Input}}
use Rattle.std.proofs.{Common.{List, Some, ap, is_some, length, refl, slice_get, subst, sym, ◌∙◌, ◌≡◌}, lemmas.Option.slice_get_past}
use Rattle.std.proofs.lemmas.Option.{slice_get_read}
use Rattle.c104_switch.proofs.inputs.InputsOf.can_claim.Goals as goal

pub returns-then-not-free : goal.returns-then-not-free
returns-then-not-free g c =
    let partition : ArePartition (held_claims c.args.self.now) c.self.inside.crossbar = subst (λ ps. ArePartition (held_claims ps) c.self.inside.crossbar) c.self.view_is c.self.invariant.0 in
    sym (ap is_some (unclaimable c.args.registers.now.settings c.args.self.now c.args.outputs.now c.args.link c.args.output c.self.inside.crossbar partition (sym c.free.ensures.free ∙ c.if-not-free.true) c.requires))

pub returns-in-Some : goal.returns-in-Some
returns-in-Some g c =
    let list : List (Input g.row.T.Denot) = c.deref.result.now in
    let partition : ArePartition (held_claims c.args.self.now) c.self.inside.crossbar = subst (λ ps. ArePartition (held_claims ps) c.self.inside.crossbar) c.self.view_is c.self.invariant.0 in
    let found = c.in-Some.ensures.lookup in
    let is : slice_get list c.args.link ≡ Some c.in-Some.input.now = slice_get_read list (length list) c.args.link c.in-Some.input.now refl found.3.0 found.1 in
    c.can_claim.ensures
    ∙ can_with_place list c.args.link c.in-Some.input.now (λ p. input_claim c.args.registers.now.settings p c.args.outputs.now c.args.output p.phase) is
    ∙ claimable_there c.args.registers.now.settings c.args.self.now c.args.outputs.now c.args.link c.args.output list c.self.inside.crossbar (c.deref.ensures.value ∙ c.self.view_is) partition (sym c.free.ensures.free ∙ c.if-not-free.false)

pub returns-in-None : goal.returns-in-None
returns-in-None g c =
    let list : List (Input g.row.T.Denot) = c.deref.result.now in
    let partition : ArePartition (held_claims c.args.self.now) c.self.inside.crossbar = subst (λ ps. ArePartition (held_claims ps) c.self.inside.crossbar) c.self.view_is c.self.invariant.0 in
    let found = c.in-None.ensures.lookup in
    cannot_with_place list c.args.link (λ p. input_claim c.args.registers.now.settings p c.args.outputs.now c.args.output p.phase) (slice_get_past list c.args.link found.3)
    ∙ claimable_there c.args.registers.now.settings c.args.self.now c.args.outputs.now c.args.link c.args.output list c.self.inside.crossbar (c.deref.ensures.value ∙ c.self.view_is) partition (sym c.free.ensures.free ∙ c.if-not-free.false)
