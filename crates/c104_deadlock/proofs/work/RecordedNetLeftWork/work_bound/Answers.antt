use Rattle.c104_deadlock.{proofs.PlainWork.places_work, specs.{HeaderWork.{work, work_bound}, Work.told_work}}
use Rattle.{c104_node.specs.Places.states, c104_plan.specs.Plans.Plan, c104_run.specs.{NetRecords.NetRecord, RecordedNets.Reading}}
use Rattle.{c104_run.specs.RecordedNets.reading, std.proofs.Common.{ap, length, map, ◌*◌, ◌∙◌, ◌≡◌}}

pub returns : Rattle.c104_deadlock.proofs.work.RecordedNetLeftWork.work_bound.Goals.returns
returns g c =
    let v : Reading g.row.T.Denot g.row.P.Denot = reading g.T.TokenKind.kind g.P.Place.shown g.P.RecordedPlace.plain g.P.RecordedPlace.begun_at in
    let plan : Plan = c.args.self.now.network.plan in
    let rank : c.highest_rank-rank.result ≡ 32 * length plan.switches = c.highest_rank-rank.ensures ∙ ap (λ (p : Plan). 32 * length p.switches) c.plan-plan.ensures in
    c.work_of_nodes.ensures
    ∙ ap (λ p. told_work (work p (λ input. c.highest_rank-rank.result) (states (map g.P.Place.shown c.places.result.now)))) c.plan-plan.ensures
    ∙ ap (λ r. told_work (work plan (λ input. r) (states (map g.P.Place.shown c.places.result.now)))) rank
    ∙ ap told_work (places_work plan (λ input. 32 * length plan.switches) v g.met.P.RecordedPlace.keeps_record.reads c.places.result.now)
    ∙ ap (λ (r : NetRecord). told_work (work_bound plan r.network.nodes)) c.places.ensures.shown
