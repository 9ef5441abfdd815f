use Rattle.c104_run.{proofs.{NodeRuns.run_is_kept, RunPartLists.finish_is}, specs.FinishedRecords.{FinishedRecord, IsFinishedRecord}}
use Rattle.{c104_run.specs.NodeRuns.nodes_run, std.proofs.Common.{subst, sym, ◌≡◌}}
use Rattle.c104_run.proofs.run.Run.of_nodes.Goals as goal

-- what was copied is what is left of the nodes
copied : (c : goal.In_ok-copy) → ◌≡◌ {A = FinishedRecord} (record { finished = record { plan = c.in_ok-copy.copy; terminals = c.in_ok-parts.parts.terminals.items }; starts = c.in_ok-parts.parts.starts.items; traces = c.in_ok-parts.parts.traces.items; count = c.args.count }) (nodes_run c.args.plan.now c.args.nodes.now c.args.count)
copied c = finish_is c.args.plan.now c.in_ok-copy.copy c.args.nodes.now c.args.count c.in_ok-parts.parts.terminals.items c.in_ok-parts.parts.starts.items c.in_ok-parts.parts.traces.items c.in_ok-copy.ensures.cases c.in_ok-parts.ensures.terminals c.in_ok-parts.ensures.starts c.in_ok-parts.ensures.traces

pub invariant_of-result : goal.invariant_of-result
invariant_of-result c = subst IsFinishedRecord (sym (copied c)) (run_is_kept c.args.plan.now c.switches-switches.ensures.kept c.args.nodes.now c.args.count c.requires c.in_ok-parts.ensures.kept)

pub returns : goal.returns
returns c = copied c
