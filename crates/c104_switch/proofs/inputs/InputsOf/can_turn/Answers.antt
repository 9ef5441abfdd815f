use Rattle.{c104_link.{proofs.Lifts.{can_with_place, cannot_with_place}, specs.Steps.joint_step_at}, c104_switch.specs.Switch.Input}
use Rattle.{c104_switch.specs.Turns.input_turn, std.proofs.Common.{List, Some, ap, is_some, length, refl, slice_get, ◌∙◌, ◌≡◌}}
use Rattle.std.proofs.lemmas.Option.{slice_get_past, slice_get_read}
use Rattle.c104_switch.proofs.inputs.InputsOf.can_turn.Goals as goal

pub returns-in-Some : goal.returns-in-Some
returns-in-Some g c = λ settings word.
    let found = c.in-Some.ensures.lookup in
    let list : List (Input g.row.T.Denot) = c.deref.result.now in
    let is : slice_get list c.args.link ≡ Some c.in-Some.input.now = slice_get_read list (length list) c.args.link c.in-Some.input.now refl found.3.0 found.1 in
    c.can_turn.ensures settings word
    ∙ can_with_place list c.args.link c.in-Some.input.now (λ p. input_turn g.T.TokenKind.kind settings word p c.args.outputs.now) is
    ∙ ap (λ (xs : List (Input g.row.T.Denot)). is_some (joint_step_at xs c.args.link (λ p. input_turn g.T.TokenKind.kind settings word p c.args.outputs.now))) (c.deref.ensures.value ∙ c.self.view_is)

pub returns-in-None : goal.returns-in-None
returns-in-None g c = λ settings word.
    let found = c.in-None.ensures.lookup in
    let list : List (Input g.row.T.Denot) = c.deref.result.now in
    cannot_with_place list c.args.link (λ p. input_turn g.T.TokenKind.kind settings word p c.args.outputs.now) (slice_get_past list c.args.link found.3)
    ∙ ap (λ (xs : List (Input g.row.T.Denot)). is_some (joint_step_at xs c.args.link (λ p. input_turn g.T.TokenKind.kind settings word p c.args.outputs.now))) (c.deref.ensures.value ∙ c.self.view_is)
