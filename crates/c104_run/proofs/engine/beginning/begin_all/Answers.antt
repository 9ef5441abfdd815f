use Rattle.c104_run.{proofs.RecordedBegins.{all_stand, stand_on, waits_first, waits_on}, specs.RecordedNets.{Told, begun_told, place_told}}
use Rattle.std.proofs.Common.{List, ap, arith, get_or, length, map, refl, slice_set, sym, take, ◌++◌, ◌∙◌, ◌≡◌, ◌≤◌}
use Rattle.std.proofs.lemmas.List.{Edits.map_over_more, append-nil, drop_all, get_or-map, length-map, map-set, take_all}
use Rattle.std.proofs.lemmas.Option.{slice_get-get_or, slice_get_within}
use Rattle.c104_run.proofs.engine.beginning.begin_all.Goals as goal

pub loop-place-init : goal.loop-place-init
loop-place-init g c = record {
  begun = refl;
  waits = waits_first g.P.Place.shown g.P.RecordedPlace.begun_at c.args.places.now c.requires;
  stand = λ k p below here. absurd (let no : ⊥ = omega (arith, below) in no);
}

pub begin-requires : goal.begin-requires
begin-requires g c = c.loop-place.invariant.waits c.loop-place.place-index (get_or c.loop-place.places c.loop-place.place-index c.place-item.result) (omega arith) (slice_get-get_or c.loop-place.places c.loop-place.place-index c.place-item.result (omega arith))

pub loop-place-preserved : goal.loop-place-preserved
loop-place-preserved g c =
    let told : g.row.P.Denot → Told g.row.T.Denot = place_told g.P.Place.shown g.P.RecordedPlace.begun_at in
    let old : List (Told g.row.T.Denot) = map told c.args.places.now in
    let same = length-map c.args.places.now told in
    let item : told c.place-item.result ≡ get_or (map told c.loop-place.places) c.loop-place.place-index (told c.place-item.result) = ap told c.place-item.is ∙ sym (get_or-map told c.loop-place.places c.loop-place.place-index c.place-item.result (told c.place-item.result) (omega arith)) in
    let began : told c.begin.new.self ≡ begun_told (told c.place-item.result) =
    c.begin.ensures.begun ∙ ap (λ p. begun_told (told p)) (sym c.place-item.is) in
    record {
      begun = map-set told c.loop-place.places c.loop-place.place-index c.begin.new.self ∙ ap (slice_set (map told c.loop-place.places) c.loop-place.place-index) began
          ∙ map_over_more begun_told old (map told c.loop-place.places) c.loop-place.place-index (told c.place-item.result) (omega (arith, same)) c.loop-place.invariant.begun item;
      waits = waits_on g.P.Place.shown g.P.RecordedPlace.begun_at c.loop-place.places c.loop-place.place-index c.begin.new.self c.loop-place.invariant.waits;
      stand = stand_on g.P.Place.shown g.P.RecordedPlace.begun_at c.loop-place.places c.loop-place.place-index c.begin.new.self c.begin.ensures.stands c.loop-place.invariant.stand;
    }

pub returns-clause-begun : goal.returns-clause-begun
returns-clause-begun g c =
    let told : g.row.P.Denot → Told g.row.T.Denot = place_told g.P.Place.shown g.P.RecordedPlace.begun_at in
    let old : List (Told g.row.T.Denot) = map told c.args.places.now in
    let same = length-map c.args.places.now told in
    let past : length old ≤ c.loop-place.place-index = omega (arith, same) in
    c.loop-place.invariant.begun ∙ ap (λ ys. map begun_told (take c.loop-place.place-index old) ++ ys) (drop_all c.loop-place.place-index old past) ∙ append-nil _
    ∙ ap (map begun_told) (take_all c.loop-place.place-index old past)

pub returns-clause-stand : goal.returns-clause-stand
returns-clause-stand g c = all_stand g.P.Place.shown g.P.RecordedPlace.begun_at c.loop-place.places (λ k p here. let inside = slice_get_within c.loop-place.places k p here in c.loop-place.invariant.stand k p (omega (arith, inside)) here)
