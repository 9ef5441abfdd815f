use Rattle.{c104_crossbar.specs.Marks.ArePartition, c104_switch.proofs.{HeldClaims.held_first, OwnersKept.{few_first, owners_none}}}
use Rattle.{c104_switch.specs.{Holding.held_claims, Readiness.AreKept, Switch.{Input, new_input}}, std.proofs.Common.{List, [], ap, arith}}
use Rattle.std.proofs.{Common.{replicate, subst, sym, ◌++◌, ◌∙◌, ◌∷◌}, lemmas.Grind.replicate_next}
use Rattle.c104_switch.proofs.inputs.InputsOf.new.Goals as goal

-- one more input was made
pub loop-preserved : goal.loop-preserved
loop-preserved g c =
    let first : Input g.row.T.Denot = new_input c.args.cap in
    c.push_reserved.ensures.items ∙ ap (λ (ps : List (Input g.row.T.Denot)). ps ++ c.in-Ok.input ∷ []) c.loop.invariant
    ∙ ap (λ (p : Input g.row.T.Denot). replicate c.loop.counter first ++ p ∷ []) c.in-Ok.ensures ∙ sym (replicate_next c.loop.counter first)

pub retire-requires : goal.retire-requires
retire-requires g c = subst (λ claims. ArePartition claims c.new-in-Err.result) (sym (ap held_claims c.loop.invariant ∙ held_first g.row.T.Denot c.loop.counter c.args.cap)) c.new-in-Err.ensures.partition

pub invariant_of-result : goal.invariant_of-result
invariant_of-result g c = (
  subst (λ claims. ArePartition claims c.new-2.result) (sym (ap held_claims c.loop.invariant ∙ held_first g.row.T.Denot c.loop.counter c.args.cap)) c.new-2.ensures.partition,
  subst (λ (ps : List (Input g.row.T.Denot)). AreKept c.sets_of-sets.result ps) c.as_slice.ensures.value c.sets_of-sets.ensures,
  owners_none _ (ap held_claims c.loop.invariant ∙ held_first g.row.T.Denot c.loop.counter c.args.cap),
  few_first c.args.cap c.loop.counter _ (omega arith) c.loop.invariant,
)
