use Rattle.c104_run.proofs.PartCounts.{places_counted}
use Rattle.c104_run.specs.RecordedPlaces.{counted_reading}

pub returns-clause-few : Rattle.c104_run.proofs.traced_net.parts.TracedNet.count.Goals.returns-clause-few
returns-clause-few c =
    rw c.count.ensures
    (places_counted counted_reading c.self.inside.engine.plan c.self.inside.engine.places c.self.inside.engine.count
    c.places-nodes.ensures.planned c.self.invariant.0).few
