use Rattle.{c104_node.{proofs.EachSoFar.each_next, specs.Starts.IsStartedStart}, std.proofs.Common.{arith, refl, subst, sym, ◌∙◌}}
use Rattle.c104_node.proofs.starts.all_started.Goals as goal

-- this node is started too
pub loop-start-preserved : goal.loop-start-preserved
loop-start-preserved c = each_next IsStartedStart c.args.starts.now c.loop-start.start-index c.start-item.result (omega arith) c.start-item.is (c.is_started.ensures.0 c.if-not-is_started.false) c.loop-start.invariant

pub returns-then-not-is_started : goal.returns-then-not-is_started
returns-then-not-is_started c = (
  λ yes. absurd (cc yes),
  λ all. sym c.if-not-is_started.true ∙ c.is_started.ensures.1 (subst IsStartedStart (sym c.start-item.is) (all c.loop-start.start-index c.start-item.result (omega arith))),
)

pub returns : goal.returns
returns c = (λ yes k d inside. c.loop-start.invariant k d (omega (arith, inside)), λ all. refl)
