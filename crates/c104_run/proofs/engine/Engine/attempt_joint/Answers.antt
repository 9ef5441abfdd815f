use Rattle.c104_node.{proofs.IdleNodes.joint_stays, specs.{Acts.nodes_act, Places.states, PortActs.near_act, declared.ends.End.End}}
use Rattle.c104_run.proofs.{ActAttempts.joint_tried, Engines.{acted_kept, put_back}, LinkFrames.crossed_keeps, LiveRounds.live_joint}
use Rattle.c104_run.{proofs.{LiveRounds.ready_live, NotedSwitches.one_far}, specs.Engines.{EngineView, engine_of}}
use Rattle.c104_run.specs.{EventActs.{crossing_event, port_place}, EventsAtPlaces.told_answer, LinkedSets.LeavesCrossed, LivePlaces.is_live}
use Rattle.c104_run.specs.{Meters.{metered_apply, metered_of}, NetRecords.{is_done, ticket_after}, Network.wired_fault, RoundParts.PartEnds}
use Rattle.{c104_run.specs.RoundParts.done_answer, std.proofs.Common.{List, None, [], ap, is_some, map, refl, slice_get, subst, sym, true}}
use Rattle.std.{proofs.{Common.{◌∙◌, ◌∷◌, ◌≡◌, ◌≢◌}, lemmas.List.with_items_is}, specs.Vec.with_items}
use Rattle.c104_run.proofs.engine.Engine.attempt_joint.Goals as goal

pub invariant_of-self : goal.invariant_of-self
invariant_of-self g c =
    let put_is = with_items_is c.self.inside.places c.joint_from-answer.new.places (c.joint_from-answer.auto.places ∙ c.as_mut_slice-places.ensures.len) in
    let wired : wired_fault c.self.inside.wires c.args.port ≡ None = subst (λ (e : EngineView g.row.P.Denot). wired_fault e.plan c.args.port ≡ None) (sym c.self.view_is) c.requires.wired in
    let goes : (ps : List g.row.P.Denot) → ps ≡ c.self.inside.places.items → is_some (nodes_act g.T.TokenKind.kind (states (map g.P.Place.shown ps)) (port_place c.self.inside.wires c.args.port) 0 (near_act c.args.crossing c.args.port)) ≡ true = λ ps same.
    subst (λ (e : EngineView g.row.P.Denot). is_some (nodes_act g.T.TokenKind.kind (states (map g.P.Place.shown e.places)) (port_place e.plan c.args.port) 0 (near_act c.args.crossing c.args.port)) ≡ true) (ap (λ qs. engine_of c.self.inside.wires qs c.self.inside.count) (sym same))
    (subst (λ (e : EngineView g.row.P.Denot). is_some (nodes_act g.T.TokenKind.kind (states (map g.P.Place.shown e.places)) (port_place e.plan c.args.port) 0 (near_act c.args.crossing c.args.port)) ≡ true) (sym c.self.view_is) c.requires.goes) in
    acted_kept g.T.TokenKind.kind g.P.Place.shown c.self.inside.wires c.self.inside.places.items c.as_mut_slice-places.result.now c.joint_from-answer.new.places (with_items c.self.inside.places c.joint_from-answer.new.places).items c.as_mut_slice-places.ensures.value put_is c.self.inside.live c.add.new.self c.self.inside.count c.self.inside.count c.joint_from-answer.ensures.base
    (λ was. live_joint g.T.TokenKind.kind c.self.inside.wires c.self.inside.live c.add.new.self (states (map g.P.Place.shown c.as_mut_slice-places.result.now)) (states (map g.P.Place.shown c.joint_from-answer.new.places)) c.wired_ends-ends.result.near.node c.wired_ends-ends.result.far.node
    (subst (λ (end : End). is_live c.self.inside.live end.node ≡ true) (sym c.wired_ends-ends.ensures.near)
    (ready_live g.T.TokenKind.kind c.self.inside.wires c.self.inside.live (states (map g.P.Place.shown c.as_mut_slice-places.result.now)) was c.args.port c.args.crossing wired (goes c.as_mut_slice-places.result.now c.as_mut_slice-places.ensures.value)))
    c.add.ensures.here c.add.ensures.others
    (λ j from to. joint_stays g.T.TokenKind.kind g.P.Place.keeps _ _ _ c.joint_from-answer.result j _ _ _ c.joint_from-answer.ensures from to) was) c.self.invariant

pub returns-clause-does : goal.returns-clause-does
returns-clause-does g c =
    let put_is = with_items_is c.self.inside.places c.joint_from-answer.new.places (c.joint_from-answer.auto.places ∙ c.as_mut_slice-places.ensures.len) in
    let wired : wired_fault c.self.inside.wires c.args.port ≡ None = subst (λ (e : EngineView g.row.P.Denot). wired_fault e.plan c.args.port ≡ None) (sym c.self.view_is) c.requires.wired in
    rw (c.counted.ensures.told, c.counted.ensures.next, sym c.self.view_is) (record {
      plan = refl;
      ends =
          put_back (λ (olds news : List g.row.P.Denot). PartEnds (metered_apply g.T.TokenKind.kind g.P.Place.keeps g.M.Meter.sees) (metered_of c.self.inside.wires (map g.P.Place.shown olds) c.self.inside.count c.args.meter.now) (crossing_event c.args.crossing c.args.port ∷ []) (done_answer (told_answer g.T.TokenKind.kind c.joint_from-answer.result)) (metered_of c.self.inside.wires (map g.P.Place.shown news) (ticket_after c.self.inside.count (is_done (told_answer g.T.TokenKind.kind c.joint_from-answer.result))) c.tell_joint.new.meter))
          c.self.inside.places.items c.as_mut_slice-places.result.now c.joint_from-answer.new.places (with_items c.self.inside.places c.joint_from-answer.new.places).items c.as_mut_slice-places.ensures.value put_is
          (joint_tried g.T.TokenKind.kind g.P.Place.keeps g.M.Meter.sees g.P.Place.shown g.met.P.Place.limited c.self.inside.wires c.as_mut_slice-places.result.now c.joint_from-answer.new.places c.self.inside.count (ticket_after c.self.inside.count (is_done (told_answer g.T.TokenKind.kind c.joint_from-answer.result))) c.args.meter.now c.tell_joint.new.meter c.joint_from-answer.result refl
          c.args.port c.far_port.result c.args.crossing c.wired_ends-ends.result.near c.wired_ends-ends.result.far c.wired_ends-ends.ensures.near c.wired_ends-ends.ensures.far c.far_port.ensures c.tell_joint.ensures wired c.joint_from-answer.ensures);
    })

pub returns-clause-others : goal.returns-clause-others
returns-clause-others g c =
    let put_is = with_items_is c.self.inside.places c.joint_from-answer.new.places (c.joint_from-answer.auto.places ∙ c.as_mut_slice-places.ensures.len) in
    rw (c.counted.ensures.next, sym c.self.view_is) (λ far is j from to.
    let away = subst (λ (e : EngineView g.row.P.Denot). j ≢ port_place e.plan c.args.port) (sym c.self.view_is) from in
    put_back (λ (olds news : List g.row.P.Denot). slice_get (states (map g.P.Place.shown news)) j ≡ slice_get (states (map g.P.Place.shown olds)) j)
    c.self.inside.places.items c.as_mut_slice-places.result.now c.joint_from-answer.new.places (with_items c.self.inside.places c.joint_from-answer.new.places).items c.as_mut_slice-places.ensures.value put_is
    (joint_stays g.T.TokenKind.kind g.P.Place.keeps _ _ _ c.joint_from-answer.result j _ _ _ c.joint_from-answer.ensures
    (λ same. away (same ∙ ap (λ (end : End). end.node) c.wired_ends-ends.ensures.near)) (λ same. to (same ∙ one_far _ _ _ c.wired_ends-ends.ensures.far is))))

pub returns-clause-links : goal.returns-clause-links
returns-clause-links g c =
    let put_is = with_items_is c.self.inside.places c.joint_from-answer.new.places (c.joint_from-answer.auto.places ∙ c.as_mut_slice-places.ensures.len) in
    rw (c.counted.ensures.next, sym c.self.view_is)
    (put_back (λ (olds news : List g.row.P.Denot). LeavesCrossed g.T.TokenKind.kind c.args.crossing c.args.port (states (map g.P.Place.shown olds)) (states (map g.P.Place.shown news)))
    c.self.inside.places.items c.as_mut_slice-places.result.now c.joint_from-answer.new.places (with_items c.self.inside.places c.joint_from-answer.new.places).items c.as_mut_slice-places.ensures.value put_is
    (crossed_keeps g.T.TokenKind.kind g.P.Place.keeps _ _ _ c.joint_from-answer.result c.self.inside.wires c.wired_ends-ends.result.near.node c.wired_ends-ends.result.far.node c.args.port c.far_port.result c.args.crossing c.wired_ends-ends.ensures.apart (ap (λ (end : End). end.node) c.wired_ends-ends.ensures.near) c.joint_from-answer.ensures))
