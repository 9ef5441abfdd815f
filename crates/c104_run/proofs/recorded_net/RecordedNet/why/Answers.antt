use Rattle.{c104_plan.specs.Plans.IsPlan, c104_run.proofs.{EventReasons.event_reason_holds, RecordedNets.seen_plain}}
use Rattle.c104_run.{proofs.{RecordedViews.network_why_plain, UnreadyEvents.unready_answered}, specs.NetRecords.{IsNetRecord, NetRecord}}
use Rattle.c104_run.specs.{Network.{Network, network_apply}, ReasonMeanings.IsEventReason, Reasons.{is_unready, network_why}}
use Rattle.{c104_run.specs.RecordedNets.{Reading, reading}, c104_token.specs.{Kinds.plain_kind, declared.tokens.Token.Token}}
use Rattle.std.proofs.Common.{IfSome, is_some, subst, sym, ◌∙◌, ◌≡◌}
use Rattle.c104_run.proofs.recorded_net.RecordedNet.why.Goals as goal

pub returns-clause-why : goal.returns-clause-why
returns-clause-why g c =
    let v : Reading g.row.T.Denot g.row.P.Denot = reading g.T.TokenKind.kind g.P.Place.shown g.P.RecordedPlace.plain g.P.RecordedPlace.begun_at in
    c.why.ensures ∙ seen_plain v g.met.P.RecordedPlace.keeps_record.reads (λ (net : Network g.row.T.Denot). network_why net c.args.event.now) (λ (net : Network Token). network_why net c.args.event.now) (λ net. network_why_plain v.kind net c.args.event.now) c.self.inside.engine c.args.self.now c.self.view_is

pub returns-clause-ready : goal.returns-clause-ready
returns-clause-ready g c =
    let v : Reading g.row.T.Denot g.row.P.Denot = reading g.T.TokenKind.kind g.P.Place.shown g.P.RecordedPlace.plain g.P.RecordedPlace.begun_at in
    let why : c.why.result ≡ network_why c.args.self.now.network c.args.event.now =
    c.why.ensures ∙ seen_plain v g.met.P.RecordedPlace.keeps_record.reads (λ (net : Network g.row.T.Denot). network_why net c.args.event.now) (λ (net : Network Token). network_why net c.args.event.now) (λ net. network_why_plain v.kind net c.args.event.now) c.self.inside.engine c.args.self.now c.self.view_is in
    let kept : IsNetRecord c.args.self.now = subst IsNetRecord c.self.view_is c.self.invariant.0.kept in
    let is_plan : IsPlan c.args.self.now.network.plan = subst (λ (r : NetRecord). IsPlan r.network.plan) c.self.view_is c.plan-plan.ensures.kept in
    subst (λ told. is_some told ≡ is_unready (network_apply plain_kind c.args.self.now.network c.args.event.now).0) (sym why) (unready_answered plain_kind c.args.self.now.network is_plan kept.steady c.args.event.now)

pub returns-clause-holds : goal.returns-clause-holds
returns-clause-holds g c =
    let v : Reading g.row.T.Denot g.row.P.Denot = reading g.T.TokenKind.kind g.P.Place.shown g.P.RecordedPlace.plain g.P.RecordedPlace.begun_at in
    let why : c.why.result ≡ network_why c.args.self.now.network c.args.event.now =
    c.why.ensures ∙ seen_plain v g.met.P.RecordedPlace.keeps_record.reads (λ (net : Network g.row.T.Denot). network_why net c.args.event.now) (λ (net : Network Token). network_why net c.args.event.now) (λ net. network_why_plain v.kind net c.args.event.now) c.self.inside.engine c.args.self.now c.self.view_is in
    subst (λ told. IfSome told (IsEventReason c.args.self.now.network c.args.event.now)) (sym why) (event_reason_holds c.args.self.now.network c.args.event.now)
