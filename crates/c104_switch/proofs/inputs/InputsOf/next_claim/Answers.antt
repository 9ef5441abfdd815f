use Rattle.{c104_switch.{proofs.Wanting.{after_last, before_first, unclaimed_at}, specs.Switch.Input}, std.proofs.Common.{List, Some, ap}}
use Rattle.std.proofs.{Common.{arith, inl, inr, is_some, length, refl, slice_get, sym, ◌<◌, ◌∙◌, ◌≡◌}, lemmas.Bool.cases_lt}
use Rattle.std.proofs.lemmas.Option.{slice_get_read}
use Rattle.c104_switch.proofs.inputs.InputsOf.next_claim.Goals as goal

pub loop-output-init : goal.loop-output-init
loop-output-init g c =
    let found = c.in-Some.ensures.lookup in
    let list : List (Input g.row.T.Denot) = c.deref.result.now in
    let there : slice_get list c.args.link ≡ Some c.in-Some.input.now = slice_get_read list (length list) c.args.link c.in-Some.input.now refl found.3.0 found.1 in
    let is : slice_get c.args.self.now c.args.link ≡ Some c.in-Some.input.now = ap (λ (xs : List (Input g.row.T.Denot)). slice_get xs c.args.link) (sym (c.deref.ensures.value ∙ c.self.view_is)) ∙ there in
    record {
      begun = c.later-output.ensures.after;
      passed = λ o from below. ap is_some (unclaimed_at c.args.registers.now.settings c.args.self.now c.args.outputs.now c.args.link o c.in-Some.input.now is
          (c.in-Some-wanted_group.ensures.others c.args.outputs.now o (before_first c.in-Some-wanted_group.group.first c.in-Some-wanted_group.group.last o (c.later-output.ensures.between o from below))));
    }

pub returns : goal.returns
returns g c =
    let found = c.in-Some.ensures.lookup in
    let list : List (Input g.row.T.Denot) = c.deref.result.now in
    let there : slice_get list c.args.link ≡ Some c.in-Some.input.now = slice_get_read list (length list) c.args.link c.in-Some.input.now refl found.3.0 found.1 in
    let is : slice_get c.args.self.now c.args.link ≡ Some c.in-Some.input.now = ap (λ (xs : List (Input g.row.T.Denot)). slice_get xs c.args.link) (sym (c.deref.ensures.value ∙ c.self.view_is)) ∙ there in (
      λ l from below. elim (cases_lt l c.loop-output.output) [
        | inl passed ↦ c.loop-output.invariant.passed l from passed
        | inr beyond ↦
            let outside : c.in-Some-wanted_group.group.last < l = omega arith in
            ap is_some (unclaimed_at c.args.registers.now.settings c.args.self.now c.args.outputs.now c.args.link l c.in-Some.input.now is
            (c.in-Some-wanted_group.ensures.others c.args.outputs.now l (after_last c.in-Some-wanted_group.group.first c.in-Some-wanted_group.group.last l outside)))
      ],
      tt,
    )
