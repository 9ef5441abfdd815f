use Rattle.c104_net.{proofs.TracedOrigins.{arrived_origins, fit_on, origins_on, origins_past, traced_origins}, specs.RunOrigins.AreOrigins}
use Rattle.{c104_node.specs.{TracedRecords.{IsFit, TracedRecord}, declared.origins.Origin.Origin}, c104_plan.specs.Plans.IsPlan}
use Rattle.{c104_run.specs.{FinishedRecords.record_finish, NetRecords.NetRecord}, std.proofs.Common.{All, List, Some, [], ap, arith}}
use Rattle.std.proofs.{Common.{length, map, slice_get, subst, sym, ℕ, ◌<◌, ◌∙◌, ◌∷◌, ◌≡◌, ◌≤◌}, lemmas.List.{map-append, take_all}}
use Rattle.std.{proofs.lemmas.Option.{slice_get-get_or, slice_get_within}, specs.Global.Vec as Kept}
use Rattle.c104_net.proofs.traced_origins.TracedNetOrigins.origins.Goals.{in-Some+in_ok-told_origins+in_ok-push, in_default}
use Rattle.c104_net.proofs.traced_origins.TracedNetOrigins.origins.Goals as goal

abbrev items_of : Kept Origin → List Origin
items_of list = list.items

-- the lists of this node too
pub loop-place-preserved : goal.loop-place-preserved
loop-place-preserved c =
    let nodes : List TracedRecord = c.places-places.result.now in
    let inside : c.loop-place.place-index < length nodes = omega arith in
    let there : slice_get nodes c.loop-place.place-index ≡ Some c.place-item.result = slice_get-get_or nodes c.loop-place.place-index c.place-item.result inside ∙ ap Some (sym c.place-item.is) in
    record {
      lists = elim c.match-arrived.branch [
        | in-Some+in_ok-told_origins+in_ok-push w ↦ origins_on nodes c.loop-place.place-index c.place-item.result (map items_of c.loop-place.lists.items) (map items_of c.match-arrived.lists.items) w.in-Some.arrived.now w.in_ok-told_origins.field-0.items inside c.place-item.is w.in-Some.ensures.arrived w.in_ok-told_origins.ensures
            (ap (λ (v : Kept (Kept Origin)). map items_of v.items) w.lists-is ∙ ap (map items_of) w.in_ok-push.ensures.items ∙ map-append items_of c.loop-place.lists.items (w.in_ok-told_origins.field-0 ∷ [])) c.loop-place.invariant.lists
        | in_default w ↦ origins_past nodes c.loop-place.place-index c.place-item.result (map items_of c.match-arrived.lists.items) inside c.place-item.is w.in_default.ensures.arrived
            (ap (λ (v : Kept (Kept Origin)). map items_of v.items) w.lists-is ∙ c.loop-place.invariant.lists)
      ];
      fit = fit_on nodes c.loop-place.place-index c.place-item.result there c.arrived.ensures.fit c.loop-place.invariant.fit;
    }

pub returns : goal.returns
returns c =
    let is_plan : IsPlan c.args.self.now.network.plan = subst IsPlan c.plan-plan.ensures c.switches-switches.ensures.kept in
    let nodes : List TracedRecord = c.places-places.result.now in
    let past : length nodes ≤ c.loop-place.place-index = omega arith in
    let all : map (λ (list : Kept Origin). list.items) c.loop-place.lists.items ≡ arrived_origins nodes = c.loop-place.invariant.lists ∙ ap arrived_origins (take_all c.loop-place.place-index nodes past) in
    let fit : (k : ℕ) (n : TracedRecord) → slice_get nodes k ≡ Some n → All IsFit n.trace = λ k n here. let within = slice_get_within nodes k n here in c.loop-place.invariant.fit k n (omega (arith, within, past)) here in
    subst (λ (r : NetRecord). AreOrigins (record_finish r) (map (λ (list : Kept Origin). list.items) c.loop-place.lists.items)) c.places-places.ensures.shown
    (traced_origins c.args.self.now.network.plan is_plan nodes c.args.self.now.count c.places-places.ensures.kept fit (map (λ (list : Kept Origin). list.items) c.loop-place.lists.items) all)
