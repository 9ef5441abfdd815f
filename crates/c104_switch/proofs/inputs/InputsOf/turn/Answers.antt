use Rattle.{c104_link.proofs.Lifts.lift_beside, c104_switch.proofs.{HeldClaims.claimed_not_free, HeldSteps.partition_spent}}
use Rattle.c104_switch.proofs.{KeptInputs.{kept_same, kept_streamed, unmade}, KeptSets.{few_set, kept_set}, OwnersKept.owners_freed}
use Rattle.{c104_switch.{proofs.OwnersKept.owners_kept, specs.{Owners.AreOwners, Switch.Input, Turns.IsTurnAt}}, std.proofs.Common.List}
use Rattle.std.proofs.{Common.{None, [], ap, arith, false, slice_set, subst, sym, true, ◌∙◌, ◌∷◌}, lemmas.List.set-get_or}
use Rattle.c104_switch.proofs.inputs.InputsOf.turn.Goals as goal

pub invariant_of-self-in-NotReady : goal.invariant_of-self-in-NotReady
invariant_of-self-in-NotReady g c = (
  partition_spent c.self.inside.list.items c.args.link c.index_mut-input.result.now c.stream.new.self (omega arith) c.index_mut-input.ensures.value [] c.self.inside.crossbar c.in-NotReady.ensures.claims c.self.invariant.0,
  kept_same c.self.inside.list.items c.args.link c.index_mut-input.result.now c.stream.new.self c.self.inside.sets c.index_mut-input.ensures.value (unmade _ _ _ _ _ (c.in-NotReady.ensures.turned c.args.settings.now c.args.word)) c.self.invariant.1,
  owners_kept c.self.inside.owners c.self.inside.list.items c.args.link c.index_mut-input.result.now c.stream.new.self (omega arith) c.index_mut-input.ensures.value c.self.invariant.2 c.in-NotReady.ensures.claims,
  few_set c.self.inside.list.items c.args.link c.stream.new.self c.self.invariant.3,
)

pub invariant_of-self-in-Streamed : goal.invariant_of-self-in-Streamed
invariant_of-self-in-Streamed g c = (
  partition_spent c.self.inside.list.items c.args.link c.index_mut-input.result.now c.stream.new.self (omega arith) c.index_mut-input.ensures.value [] c.self.inside.crossbar c.in-Streamed.ensures.claims c.self.invariant.0,
  kept_streamed c.self.inside.list.items c.args.link c.index_mut-input.result.now c.stream.new.self c.self.inside.sets c.keep_streamed.new.self (omega arith) c.index_mut-input.ensures.value c.in-Streamed.ensures.streamed c.self.invariant.1
      c.keep_streamed.ensures.grants c.keep_streamed.ensures.turns c.keep_streamed.ensures.others c.keep_streamed.ensures.wants,
  owners_kept c.self.inside.owners c.self.inside.list.items c.args.link c.index_mut-input.result.now c.stream.new.self (omega arith) c.index_mut-input.ensures.value c.self.invariant.2 c.in-Streamed.ensures.claims,
  few_set c.self.inside.list.items c.args.link c.stream.new.self c.self.invariant.3,
)

pub release-requires : goal.release-requires
release-requires g c = claimed_not_free c.in-Freed.claim _ c.self.inside.crossbar (partition_spent c.self.inside.list.items c.args.link c.index_mut-input.result.now c.stream.new.self (omega arith) c.index_mut-input.ensures.value (c.in-Freed.claim ∷ []) c.self.inside.crossbar c.in-Freed.ensures.claims c.self.invariant.0)

pub invariant_of-self-in-Freed : goal.invariant_of-self-in-Freed
invariant_of-self-in-Freed g c = (
  c.release.ensures.partition _ (partition_spent c.self.inside.list.items c.args.link c.index_mut-input.result.now c.stream.new.self (omega arith) c.index_mut-input.ensures.value (c.in-Freed.claim ∷ []) c.self.inside.crossbar c.in-Freed.ensures.claims c.self.invariant.0),
  kept_set c.self.inside.list.items c.args.link c.stream.new.self c.self.inside.sets c.keep.new.self (omega arith) c.self.invariant.1 c.keep.ensures.here c.keep.ensures.others,
  subst (λ k. AreOwners (slice_set c.self.inside.owners k None) (slice_set c.self.inside.list.items c.args.link c.stream.new.self)) (sym c.output.ensures.value)
      (owners_freed c.self.inside.owners c.self.inside.list.items c.args.link c.index_mut-input.result.now c.stream.new.self (omega arith) c.index_mut-input.ensures.value c.self.invariant.2 c.in-Freed.claim c.self.inside.crossbar c.in-Freed.ensures.claims
      (partition_spent c.self.inside.list.items c.args.link c.index_mut-input.result.now c.stream.new.self (omega arith) c.index_mut-input.ensures.value (c.in-Freed.claim ∷ []) c.self.inside.crossbar c.in-Freed.ensures.claims c.self.invariant.0)),
  few_set c.self.inside.list.items c.args.link c.stream.new.self c.self.invariant.3,
)

pub returns-in-NotReady : goal.returns-in-NotReady
returns-in-NotReady g c = rw (sym c.self.view_is) (lift_beside c.self.inside.list.items c.args.link c.index_mut-input.result.now c.stream.new.self (omega arith) c.index_mut-input.ensures.value false _ _ _ (c.in-NotReady.ensures.turned c.args.settings.now c.args.word))

pub returns-in-Streamed : goal.returns-in-Streamed
returns-in-Streamed g c = rw (sym c.self.view_is) (lift_beside c.self.inside.list.items c.args.link c.index_mut-input.result.now c.stream.new.self (omega arith) c.index_mut-input.ensures.value true _ _ _ (c.in-Streamed.ensures.turned c.args.settings.now c.args.word))

pub returns-in-Freed : goal.returns-in-Freed
returns-in-Freed g c = rw (sym c.self.view_is) (lift_beside c.self.inside.list.items c.args.link c.index_mut-input.result.now c.stream.new.self (omega arith) c.index_mut-input.ensures.value true _ _ _ (c.in-Freed.ensures.turned c.args.settings.now c.args.word))

pub returns-in_default : goal.returns-in_default
returns-in_default g c =
    let same = ap (slice_set c.self.inside.list.items c.args.link) c.index_mut-input.ensures.value ∙ set-get_or c.self.inside.list.items c.args.link c.index_mut-input.result.now ∙ c.self.view_is in
    subst (λ (ps : List (Input g.row.T.Denot)). IsTurnAt g.T.TokenKind.kind c.args.settings.now c.args.word c.args.link ps c.args.outputs.now c.turn_called.result c.turn_called.new.self c.args.outputs.now) same (c.turn_called.ensures c.args.outputs.now)
