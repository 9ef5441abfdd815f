use Rattle.{c104_node.specs.{Starts.IsStartedStart, declared.starts.NodeStart.NodeStart}, std.proofs.Common.{get_or, ℕ, ◌<◌}}

-- the starts so far are started
abbrev pub invariant-loop-start : Rattle.c104_node.proofs.starts.all_started.Given.invariant-loop-start
invariant-loop-start l = (k : ℕ) (d : NodeStart) → k < l.start-index → IsStartedStart (get_or l.starts k d)
