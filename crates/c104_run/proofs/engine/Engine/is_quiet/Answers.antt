use Rattle.{c104_node.specs.{Nodes.Node, Places.states, Quiet.IsQuietNode}, std.proofs.Common.{All, IsTrue, List, map, subst, ◌↔◌}}

pub returns : Rattle.c104_run.proofs.engine.Engine.is_quiet.Goals.returns
returns g c = subst (λ (ps : List g.row.P.Denot). IsTrue c.are_quiet.result ↔ All (λ (n : Node g.row.T.Denot). IsQuietNode n) (states (map g.P.Place.shown ps))) c.places.ensures.places c.are_quiet.ensures
