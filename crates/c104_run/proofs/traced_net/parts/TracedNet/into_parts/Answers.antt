use Rattle.c104_run.proofs.PartCounts.{places_counted}
use Rattle.c104_run.specs.RecordedPlaces.{counted_reading}
use Rattle.c104_run.proofs.traced_net.parts.TracedNet.into_parts.Goals as goal

pub returns-clause-nodes : goal.returns-clause-nodes
returns-clause-nodes c =
    rw (c.into_parts.ensures.places, c.into_parts.ensures.plan)
    (places_counted counted_reading c.self.inside.engine.plan c.self.inside.engine.places c.self.inside.engine.count
    c.into_parts.ensures.planned c.self.invariant.0).nodes

pub returns-clause-few : goal.returns-clause-few
returns-clause-few c =
    rw c.into_parts.ensures.count
    (places_counted counted_reading c.self.inside.engine.plan c.self.inside.engine.places c.self.inside.engine.count
    c.into_parts.ensures.planned c.self.invariant.0).few
