use Rattle.c104_run.proofs.PartCounts.{are_parts, few_events}

pub returns-clause-few : Rattle.c104_run.proofs.net.nodes.Net.count.Goals.returns-clause-few
returns-clause-few c =
    rw c.count.ensures
    (few_events (record { plan = c.self.inside.engine.plan; nodes = c.self.inside.engine.places; count = c.self.inside.engine.count }) c.places-nodes.ensures.planned
    (are_parts c.self.inside.engine.plan c.self.inside.engine.places c.self.inside.engine.count c.self.invariant.0.kept c.places-nodes.ensures.knows))
