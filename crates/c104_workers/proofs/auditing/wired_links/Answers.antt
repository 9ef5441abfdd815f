use Rattle.{c104_node.specs.Records.has_link, c104_plan.proofs.RangeLists.map_next, c104_run.proofs.RoundLists.links_passed}
use Rattle.std.proofs.Common.{List, ap, arith, map, ℕ, ◌∙◌}
use Rattle.c104_workers.proofs.auditing.wired_links.Goals as goal

pub loop-link-preserved : goal.loop-link-preserved
loop-link-preserved c = map_next (has_link c.args.node.now.0.wired) c.loop-link.link _ _ _ c.loop-link.invariant c.wired.ensures c.in_ok-push.ensures.items

pub returns : goal.returns
returns c = c.loop-link.invariant ∙ ap (λ (ns : List ℕ). map (has_link c.args.node.now.0.wired) ns) (links_passed c.loop-link.link (omega arith))
