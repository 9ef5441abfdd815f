use Rattle.c104_run.proofs.PartCounts.{few_events}

pub returns-clause-few : Rattle.c104_run.proofs.net_parts.NetParts.count.Goals.returns-clause-few
returns-clause-few c = few_events (record { plan = c.self.inside.wires; nodes = c.self.inside.nodes.items; count = c.self.inside.count }) c.plan-plan.ensures.kept c.self.invariant
