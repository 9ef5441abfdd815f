use Rattle.{c104_check.specs.{Ranks.rank_in, declared.ports.SwitchPort.SwitchPort}, c104_deadlock.proofs.PlainWork.places_work}
use Rattle.{c104_deadlock.specs.{HeaderWork.work, Work.told_work}, c104_node.specs.Places.states, c104_run.specs.NetRecords.NetRecord}
use Rattle.{c104_run.specs.RecordedNets.{Reading, reading}, std.proofs.Common.{ap, map, ℕ, ◌∙◌}}

pub returns : Rattle.c104_deadlock.proofs.work.RecordedNetLeftWork.work.Goals.returns
returns g c =
    let v : Reading g.row.T.Denot g.row.P.Denot = reading g.T.TokenKind.kind g.P.Place.shown g.P.RecordedPlace.plain g.P.RecordedPlace.begun_at in
    let rank : SwitchPort → ℕ = rank_in c.args.ranks.now.by_place in
    c.work_of_nodes.ensures
    ∙ ap (λ p. told_work (work p rank (states (map g.P.Place.shown c.places.result.now)))) c.plan.ensures
    ∙ ap told_work (places_work c.args.self.now.network.plan rank v g.met.P.RecordedPlace.keeps_record.reads c.places.result.now)
    ∙ ap (λ (r : NetRecord). told_work (work c.args.self.now.network.plan rank r.network.nodes)) c.places.ensures.shown
