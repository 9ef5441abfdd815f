use Rattle.{c104_node.specs.Places.bases, c104_run.proofs.{Engines.put_back, KnownWires.known_by, LiveRounds.live_all}}
use Rattle.c104_run.{proofs.RecordedBegins.wires_begun, specs.{KnownWires.KnowWires, RecordedNets.{Reading, begun_told, place_told}}}
use Rattle.{c104_run.specs.RecordedNets.reading, std.proofs.{Common.{List, map, sym, ◌∙◌, ◌≡◌}, lemmas.List.with_items_is}}
use Rattle.std.specs.Vec.{with_items}
use Rattle.c104_run.proofs.engine.Engine.begin.Goals as goal

pub invariant_of-self : goal.invariant_of-self
invariant_of-self g c =
    let v : Reading g.row.T.Denot g.row.P.Denot = reading g.T.TokenKind.kind g.P.Place.shown g.P.RecordedPlace.plain g.P.RecordedPlace.begun_at in
    let put_is = with_items_is c.self.inside.places c.begin_all.new.places (c.begin_all.auto.places ∙ c.as_mut_slice.ensures.len) in
    record {
      knows =
          put_back (λ (olds news : List g.row.P.Denot). KnowWires c.self.inside.wires (bases (map g.P.Place.shown olds)) → KnowWires c.self.inside.wires (bases (map g.P.Place.shown news)))
          c.self.inside.places.items c.as_mut_slice.result.now c.begin_all.new.places (with_items c.self.inside.places c.begin_all.new.places).items c.as_mut_slice.ensures.value put_is
          (known_by (bases (map v.shown c.begin_all.new.places)) (bases (map v.shown c.as_mut_slice.result.now)) (wires_begun v c.begin_all.new.places c.as_mut_slice.result.now c.begin_all.ensures.begun) c.self.inside.wires) c.self.invariant.knows;
      live = live_all g.T.TokenKind.kind c.self.inside.wires c.fill.new.self _ c.self.invariant.live.planned c.fill.ensures;
    }

pub returns-clause-begun : goal.returns-clause-begun
returns-clause-begun g c =
    let put_is = with_items_is c.self.inside.places c.begin_all.new.places (c.begin_all.auto.places ∙ c.as_mut_slice.ensures.len) in
    rw (sym c.self.view_is)
    (put_back (λ (olds news : List g.row.P.Denot). map (place_told g.P.Place.shown g.P.RecordedPlace.begun_at) news ≡ map begun_told (map (place_told g.P.Place.shown g.P.RecordedPlace.begun_at) olds))
    c.self.inside.places.items c.as_mut_slice.result.now c.begin_all.new.places (with_items c.self.inside.places c.begin_all.new.places).items c.as_mut_slice.ensures.value put_is c.begin_all.ensures.begun)
