use Rattle.{c104_node.specs.Places.states, c104_run.proofs.NotedSwitches.ends_noted, std.proofs.Common.map}

pub returns-clause-others : Rattle.c104_run.proofs.engine.Engine.attempt_grant.Goals.returns-clause-others
returns-clause-others g c =
    ends_noted c.args.self.now.plan c.args.switch c.args.link c.args.granting.now c.add.new.self (states (map g.P.Place.shown c.args.self.now.places)) (states (map g.P.Place.shown c.attempt_part.new.self.places)) c.wired_ends.result.far (rw c.wires.ensures at c.wired_ends.ensures.far) c.attempt_part.ensures.others c.add.ensures.here c.add.ensures.others
