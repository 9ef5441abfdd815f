use Rattle.{c104_plan.proofs.RangeLists.flat_next, c104_run.{proofs.RoundLists.links_passed, specs.Rounds.claims_of}}
use Rattle.std.{proofs.Common.{List, ap, arith, ℕ, ◌++◌, ◌∙◌}, specs.List.flat_map}
use Rattle.c104_run.proofs.node_parts.add_claims.Goals as goal

pub loop-input-preserved : goal.loop-input-preserved
loop-input-preserved c = flat_next (claims_of c.args.switch) c.loop-input.input c.args.events.now.items c.loop-input.events.items _ c.loop-input.invariant c.in_ok-add_claims_of.ensures

pub returns : goal.returns
returns c = c.loop-input.invariant ∙ ap (λ (ns : List ℕ). c.args.events.now.items ++ flat_map (claims_of c.args.switch) ns) (links_passed c.loop-input.input (omega arith))
