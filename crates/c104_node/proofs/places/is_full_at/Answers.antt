use Rattle.{c104_node.{proofs.PlaceSteps.{read_none, read_some}, specs.Places.Shown}, std.proofs.Common.{Bool, Option, ap, false, sym}}
use Rattle.std.proofs.Common.{unwrap_or, ◌∙◌}
use Rattle.c104_node.proofs.places.is_full_at.Goals as goal

pub returns-in-Some : goal.returns-in-Some
returns-in-Some g c = c.is_full.ensures ∙ ap (λ (o : Option Bool). unwrap_or o false) (sym (read_some (λ (s : Shown g.row.T.Denot). s.full) g.P.Place.shown c.args.places.now c.args.place c.in-Some.found.now c.in-Some.ensures.lookup.0 c.in-Some.ensures.lookup.1))

pub returns-in-None : goal.returns-in-None
returns-in-None g c = ap (λ (o : Option Bool). unwrap_or o false) (sym (read_none (λ (s : Shown g.row.T.Denot). s.full) g.P.Place.shown c.args.places.now c.args.place c.in-None.ensures.lookup.0))
