use Rattle.{c104_crossbar.specs.Marks.ArePartition, c104_switch.proofs.{OwnersKept.{few_start, owners_none}, StartLinks.none_held}}
use Rattle.{c104_switch.specs.{Holding.held_claims, Readiness.AreKept, Starts.start_input, Switch.Input}, std.proofs.Common.{List, [], ap}}
use Rattle.std.proofs.{Common.{arith, map, subst, sym, take, ◌++◌, ◌∙◌, ◌∷◌}, lemmas.List.map_more}
use Rattle.c104_switch.proofs.inputs.InputsOf.from_start.Goals as goal

-- one more input was made
pub loop-link-preserved : goal.loop-link-preserved
loop-link-preserved g c =
    let made : List (Input g.row.T.Denot) = map start_input (take c.loop-link.link-index c.args.links.now) in
    record {
      made = c.push_reserved.ensures.items ∙ ap (λ (ps : List (Input g.row.T.Denot)). ps ++ c.in-Ok.input ∷ []) c.loop-link.invariant.made
          ∙ ap (λ (p : Input g.row.T.Denot). made ++ p ∷ []) c.in-Ok.ensures ∙ sym (map_more start_input c.args.links.now c.loop-link.link-index _ c.loop-link-test.true);
      room = omega (arith, c.push_reserved.ensures.capacity, c.loop-link.invariant.room);
    }

pub retire-requires : goal.retire-requires
retire-requires g c = subst (λ claims. ArePartition claims c.new.result) (sym (ap held_claims c.loop-link.invariant.made ∙ none_held g.row.T.Denot (take c.loop-link.link-index c.args.links.now))) c.new.ensures.partition

pub invariant_of-result : goal.invariant_of-result
invariant_of-result g c = (
  subst (λ claims. ArePartition claims c.new-2.result) (sym (ap held_claims c.loop-link.invariant.made ∙ none_held g.row.T.Denot (take c.loop-link.link-index c.args.links.now))) c.new-2.ensures.partition,
  subst (λ (ps : List (Input g.row.T.Denot)). AreKept c.sets_of-sets.result ps) c.as_slice.ensures.value c.sets_of-sets.ensures,
  owners_none _ (ap held_claims c.loop-link.invariant.made ∙ none_held g.row.T.Denot (take c.loop-link.link-index c.args.links.now)),
  few_start c.loop-link.link-index c.args.links.now _ c.requires.count c.loop-link.invariant.made,
)
