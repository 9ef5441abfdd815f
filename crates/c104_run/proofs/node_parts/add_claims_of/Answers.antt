use Rattle.{c104_event.specs.declared.events.Event.Event, c104_run.proofs.RoundLists.{links_passed, map_next}, std.proofs.Common.{List, ap}}
use Rattle.std.proofs.Common.{arith, map, ℕ, ◌++◌, ◌∙◌}
use Rattle.c104_run.proofs.node_parts.add_claims_of.Goals as goal

pub loop-output-preserved : goal.loop-output-preserved
loop-output-preserved c = map_next (Event.Claim c.args.switch c.args.input) c.loop-output.output c.args.events.now.items c.loop-output.events.items _ c.loop-output.invariant c.in_ok-push.ensures.items

pub returns : goal.returns
returns c = c.loop-output.invariant ∙ ap (λ (ns : List ℕ). c.args.events.now.items ++ map (Event.Claim c.args.switch c.args.input) ns) (links_passed c.loop-output.output (omega arith))
