use Rattle.{c104_node.{proofs.PlaceSteps.{read_none, read_some}, specs.Places.Shown}, std.proofs.Common.{Some, ap, sym, ◌∙◌}}
use Rattle.c104_node.proofs.places.node_at.Goals as goal

pub returns-in-Some : goal.returns-in-Some
returns-in-Some g c = ap Some c.node.ensures ∙ sym (read_some (λ (s : Shown g.row.T.Denot). s.state) g.P.Place.shown c.args.places.now c.args.place c.in-Some.found.now c.in-Some.ensures.lookup.0 c.in-Some.ensures.lookup.1)

pub returns-in-None : goal.returns-in-None
returns-in-None g c = sym (read_none (λ (s : Shown g.row.T.Denot). s.state) g.P.Place.shown c.args.places.now c.args.place c.in-None.ensures.lookup.0)
