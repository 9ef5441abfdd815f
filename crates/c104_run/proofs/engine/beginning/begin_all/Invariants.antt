use Rattle.{c104_run.{proofs.RecordedBegins.{Stand, Waits}, specs.RecordedNets.{begun_told, place_told}}, std.proofs.Common.{drop, map}}
use Rattle.std.proofs.Common.{take, ◌++◌, ◌≡◌}

-- the places so far have begun, and their nodes stand at their starts; and the others are quiet
abbrev pub invariant-loop-place : Rattle.c104_run.proofs.engine.beginning.begin_all.Given.invariant-loop-place
invariant-loop-place g l = record {
  begun : map (place_told g.P.Place.shown g.P.RecordedPlace.begun_at) l.places ≡ map begun_told (take l.place-index (map (place_told g.P.Place.shown g.P.RecordedPlace.begun_at) l.initial.places)) ++ drop l.place-index (map (place_told g.P.Place.shown g.P.RecordedPlace.begun_at) l.initial.places);
  waits : Waits g.P.Place.shown g.P.RecordedPlace.begun_at l.places l.place-index;
  stand : Stand g.P.Place.shown g.P.RecordedPlace.begun_at l.places l.place-index;
}
