use Rattle.{c104_plan.proofs.RangeLists.flat_next, c104_rows.specs.States.wish_of, c104_run.proofs.RoundLists.links_passed}
use Rattle.std.{proofs.Common.{List, ap, arith, ℕ, ◌++◌, ◌∙◌}, specs.List.flat_map}
use Rattle.c104_rows.proofs.seen.add_wanted.Goals as goal

pub loop-output-preserved : goal.loop-output-preserved
loop-output-preserved c = flat_next (wish_of c.args.net.now c.args.round c.args.input c.args.packet c.args.locked) c.loop-output.output c.args.list.now.items c.loop-output.list.items _ c.loop-output.invariant c.in_ok-add_wish.ensures

pub returns : goal.returns
returns c = c.loop-output.invariant ∙ ap (λ (ns : List ℕ). c.args.list.now.items ++ flat_map (wish_of c.args.net.now c.args.round c.args.input c.args.packet c.args.locked) ns) (links_passed c.loop-output.output (omega arith))
