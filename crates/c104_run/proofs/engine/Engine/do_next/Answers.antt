use Rattle.c104_node.{proofs.IdleNodes.alone_stays, specs.{PlaceActs.AloneDone, Places.states, Traces.seatless}}
use Rattle.c104_run.{proofs.{Engines.{acted_kept, put_back}, LiveRounds.{idle_stays, live_alone}}, specs.Engines.EngineView}
use Rattle.{c104_run.specs.LivePlaces.IsOfRound, std.proofs.Common.{List, ap, length, map, subst, sym, ◌-◌, ◌∙◌}}
use Rattle.std.{proofs.lemmas.List.with_items_is, specs.Vec.with_items}
use Rattle.c104_run.proofs.engine.Engine.do_next.Goals as goal

pub invariant_of-self : goal.invariant_of-self
invariant_of-self g c =
    let put_is = with_items_is c.self.inside.places c.do_alone.new.places (c.do_alone.auto.places ∙ c.as_mut_slice.ensures.len) in
    let begins : IsOfRound g.T.TokenKind.kind c.self.inside.wires c.args.place c.args.act = subst (λ (e : EngineView g.row.P.Denot). IsOfRound g.T.TokenKind.kind e.plan c.args.place c.args.act) (sym c.self.view_is) c.requires.begins in
    let done : AloneDone g.T.TokenKind.kind g.P.Place.keeps c.args.place (c.args.place - length c.self.inside.wires.switches) (seatless c.self.inside.count) c.args.act (map g.P.Place.shown c.as_mut_slice.result.now) c.do_alone.result (map g.P.Place.shown c.do_alone.new.places) =
    subst (λ n. AloneDone g.T.TokenKind.kind g.P.Place.keeps c.args.place (c.args.place - n) (seatless c.self.inside.count) c.args.act (map g.P.Place.shown c.as_mut_slice.result.now) c.do_alone.result (map g.P.Place.shown c.do_alone.new.places)) c.switch_count-switches.ensures c.do_alone.ensures in
    acted_kept g.T.TokenKind.kind g.P.Place.shown c.self.inside.wires c.self.inside.places.items c.as_mut_slice.result.now c.do_alone.new.places (with_items c.self.inside.places c.do_alone.new.places).items c.as_mut_slice.ensures.value put_is c.self.inside.live c.self.inside.live c.self.inside.count c.self.inside.count c.do_alone.ensures.base
    (λ was. live_alone g.T.TokenKind.kind c.self.inside.wires c.self.inside.live (states (map g.P.Place.shown c.as_mut_slice.result.now)) (states (map g.P.Place.shown c.do_alone.new.places)) c.args.place
    (λ j other. alone_stays g.T.TokenKind.kind g.P.Place.keeps _ _ _ c.do_alone.result j c.args.place _ c.args.act done other)
    (idle_stays g.T.TokenKind.kind c.self.inside.wires c.self.inside.live (states (map g.P.Place.shown c.as_mut_slice.result.now)) was c.args.place c.args.act begins _ _ c.do_alone.result _ done.ends) was) c.self.invariant

pub returns-clause-plan : goal.returns-clause-plan
returns-clause-plan g c = ap (λ (e : EngineView g.row.P.Denot). e.plan) c.self.view_is

pub returns-clause-count : goal.returns-clause-count
returns-clause-count g c = ap (λ (e : EngineView g.row.P.Denot). e.count) c.self.view_is

pub returns-clause-done : goal.returns-clause-done
returns-clause-done g c =
    let put_is = with_items_is c.self.inside.places c.do_alone.new.places (c.do_alone.auto.places ∙ c.as_mut_slice.ensures.len) in
    rw (sym c.self.view_is)
    (put_back (λ (olds news : List g.row.P.Denot). AloneDone g.T.TokenKind.kind g.P.Place.keeps c.args.place (c.args.place - length c.self.inside.wires.switches) (seatless c.self.inside.count) c.args.act (map g.P.Place.shown olds) c.do_alone.result (map g.P.Place.shown news))
    c.self.inside.places.items c.as_mut_slice.result.now c.do_alone.new.places (with_items c.self.inside.places c.do_alone.new.places).items c.as_mut_slice.ensures.value put_is
    (subst (λ n. AloneDone g.T.TokenKind.kind g.P.Place.keeps c.args.place (c.args.place - n) (seatless c.self.inside.count) c.args.act (map g.P.Place.shown c.as_mut_slice.result.now) c.do_alone.result (map g.P.Place.shown c.do_alone.new.places)) c.switch_count-switches.ensures c.do_alone.ensures))
