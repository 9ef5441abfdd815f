use Rattle.c104_lean.proofs.{Draws.{done_at, own_track}, HeldSteps.{answer_some, both_here, does_act, far_below, far_does, held_grows}}
use Rattle.c104_lean.{proofs.HeldSteps.{kept_track, made_back, near_below, near_does, not_full, noted_so, ready_made}, specs.Nodes.AsksBoth}
use Rattle.{c104_lean.specs.{Nodes.{HeldView, both_deed}, Seats.last_ticket}, c104_node.proofs.JointEnds.{far_done, near_answers}}
use Rattle.c104_node.specs.{Acts.{node_act, reply_outcome}, Nodes.Node, PortActs.{IsAnswerOf, far_act, near_act}, Tagged.TaggedToken}
use Rattle.{c104_node.specs.Tagged.tagged_kind, c104_switch.specs.declared.actions.ReplyOf.ReplyOf, c104_tickets.specs.Tickets.PassValue}
use Rattle.{c104_turns.proofs.SeatParts.same_pass, std.proofs.Common.{Some, ap, is_some, refl, subst, sym, true, ℕ, ◌∙◌, ◌≡◌}}
use Rattle.c104_lean.proofs.doing.do_both.Goals as goal

pub far_act-coming-requires : goal.far_act-coming-requires
far_act-coming-requires g c =
    let going : true ≡ is_some (node_act tagged_kind 0 c.near_act-going.result c.near.inside.node.state) =
    c.if-not-can_near.ensures ∙ ap (λ n. is_some (node_act tagged_kind 0 (near_act c.args.joint.crossing c.args.joint.near) n)) c.node.ensures
    ∙ ap (λ a. is_some (node_act tagged_kind 0 a c.near.inside.node.state)) (sym c.near_act-going.ensures) in
    let made = ready_made (node_act tagged_kind 0 c.near_act-going.result c.near.inside.node.state) c.near.inside.node.state c.attempt_light-told.new.self.state c.attempt_light-told.result going c.attempt_light-told.ensures.acted in
    near_answers tagged_kind c.args.joint.crossing c.args.joint.near c.near.inside.node.state (c.attempt_light-told.result, c.attempt_light-told.new.self.state)
    (ap (λ a. node_act tagged_kind 0 a c.near.inside.node.state) (sym c.near_act-going.ensures) ∙ made)

pub append_both-near_pass-requires-clause-near : goal.append_both-near_pass-requires-clause-near
append_both-near_pass-requires-clause-near g c =
    let own = same_pass _ _ (sym c.in-Some-Some.is-0 ∙ c.take.ensures.value ∙ c.near.invariant.is) in
    own_track c.in-Some-Some.near_pass.view.tracks c.near.inside.place c.near.invariant.done (ap (λ (p : PassValue). p.view.tracks) own ∙ c.near.invariant.tracks)

pub append_both-near_pass-requires-clause-far : goal.append_both-near_pass-requires-clause-far
append_both-near_pass-requires-clause-far g c =
    let own = same_pass _ _ (sym c.in-Some-Some.is-1 ∙ c.take-2.ensures.value ∙ c.far.invariant.is) in
    own_track c.in-Some-Some.far_pass.view.tracks c.far.inside.place c.far.invariant.done (ap (λ (p : PassValue). p.view.tracks) own ∙ c.far.invariant.tracks)

pub invariant_of-near : goal.invariant_of-near
invariant_of-near g c =
    let ticket : ℕ = last_ticket c.append_both-near_pass.new.self.calls in
    let own = same_pass _ _ (sym c.in-Some-Some.is-0 ∙ c.take.ensures.value ∙ c.near.invariant.is) in
    let places : ◌≡◌ {A = ℕ × ℕ} (c.args.near.now.place, c.args.far.now.place) (c.near.inside.place, c.far.inside.place) =
    ap (λ (h : HeldView). (h.place, c.args.far.now.place)) (sym c.near.view_is) ∙ ap (λ (h : HeldView). (c.near.inside.place, h.place)) (sym c.far.view_is) in
    let asked = subst (λ (ks : ℕ × ℕ). AsksBoth g.N.Sharing.before.plan c.args.event.now c.args.joint ks.0 ks.1) places c.requires.asked in
    let going : true ≡ is_some (node_act tagged_kind 0 c.near_act-going.result c.near.inside.node.state) =
    c.if-not-can_near.ensures ∙ ap (λ n. is_some (node_act tagged_kind 0 (near_act c.args.joint.crossing c.args.joint.near) n)) c.node.ensures
    ∙ ap (λ a. is_some (node_act tagged_kind 0 a c.near.inside.node.state)) (sym c.near_act-going.ensures) in
    let made = ap (λ a. node_act tagged_kind 0 a c.near.inside.node.state) (sym c.near_act-going.ensures)
    ∙ ready_made (node_act tagged_kind 0 c.near_act-going.result c.near.inside.node.state) c.near.inside.node.state c.attempt_light-told.new.self.state c.attempt_light-told.result going c.attempt_light-told.ensures.acted in
    let answer = near_answers tagged_kind c.args.joint.crossing c.args.joint.near c.near.inside.node.state (c.attempt_light-told.result, c.attempt_light-told.new.self.state) made in
    let some = answer_some c.args.joint.crossing c.attempt_light-told.result answer in
    let deed = both_deed c.args.seat.now.number (c.near.inside.place, c.far.inside.place) c.args.event.now c.attempt_light-told.result in
    let does = does_act ticket 0 (near_act c.args.joint.crossing c.args.joint.near) c.attempt_light-told.result c.near.inside.node c.attempt_light-told.new.self c.note.new.self (record {
      acted = made_back (node_act tagged_kind 0 (near_act c.args.joint.crossing c.args.joint.near) c.near.inside.node.state) c.near.inside.node.state c.attempt_light-told.new.self.state c.attempt_light-told.result made;
      some = some;
      below = near_below c.near.inside.node.state c.args.joint.crossing c.args.joint.near;
      room = not_full c.near.inside.node.trace c.if-is_full.ensures;
      start = c.attempt_light-told.ensures.kept.0;
      trace = c.attempt_light-told.ensures.kept.1;
      noted = noted_so ticket (near_act c.args.joint.crossing c.args.joint.near) c.near_act-going.result c.attempt_light-told.result c.attempt_light-told.new.self c.note.new.self
          c.near_act-going.ensures c.note.ensures;
    }) in
    held_grows g.N.Sharing.word g.N.Sharing.before c.near.inside.place c.near.inside.node c.near.inside.pass c.near.invariant c.note.new.self c.append_both-near_pass.result.0
    (done_at ticket deed) (c.append_both-near_pass.ensures.word.0 ∙ c.requires.word.1)
    (kept_track c.in-Some-Some.near_pass.view.tracks c.append_both-near_pass.result.0.view.tracks c.near.inside.place c.near.invariant.done (done_at ticket deed)
    (ap (λ (p : PassValue). p.view.tracks) own ∙ c.near.invariant.tracks) c.append_both-near_pass.ensures.near)
    (near_does g.N.Sharing.before.plan ticket c.args.seat.now.number c.args.event.now c.attempt_light-told.result some (c.near.inside.place, c.far.inside.place) c.args.joint asked deed refl
    c.near.inside.node c.note.new.self does)
    (both_here g.N.Sharing.before.plan ticket c.args.seat.now.number c.args.event.now c.attempt_light-told.result some (c.near.inside.place, c.far.inside.place) c.args.joint asked deed refl)

pub invariant_of-far : goal.invariant_of-far
invariant_of-far g c =
    let ticket : ℕ = last_ticket c.append_both-near_pass.new.self.calls in
    let own = same_pass _ _ (sym c.in-Some-Some.is-1 ∙ c.take-2.ensures.value ∙ c.far.invariant.is) in
    let places : ◌≡◌ {A = ℕ × ℕ} (c.args.near.now.place, c.args.far.now.place) (c.near.inside.place, c.far.inside.place) =
    ap (λ (h : HeldView). (h.place, c.args.far.now.place)) (sym c.near.view_is) ∙ ap (λ (h : HeldView). (c.near.inside.place, h.place)) (sym c.far.view_is) in
    let asked = subst (λ (ks : ℕ × ℕ). AsksBoth g.N.Sharing.before.plan c.args.event.now c.args.joint ks.0 ks.1) places c.requires.asked in
    let going : true ≡ is_some (node_act tagged_kind 0 c.near_act-going.result c.near.inside.node.state) =
    c.if-not-can_near.ensures ∙ ap (λ n. is_some (node_act tagged_kind 0 (near_act c.args.joint.crossing c.args.joint.near) n)) c.node.ensures
    ∙ ap (λ a. is_some (node_act tagged_kind 0 a c.near.inside.node.state)) (sym c.near_act-going.ensures) in
    let made = ap (λ a. node_act tagged_kind 0 a c.near.inside.node.state) (sym c.near_act-going.ensures)
    ∙ ready_made (node_act tagged_kind 0 c.near_act-going.result c.near.inside.node.state) c.near.inside.node.state c.attempt_light-told.new.self.state c.attempt_light-told.result going c.attempt_light-told.ensures.acted in
    let answer = near_answers tagged_kind c.args.joint.crossing c.args.joint.near c.near.inside.node.state (c.attempt_light-told.result, c.attempt_light-told.new.self.state) made in
    let some = answer_some c.args.joint.crossing c.attempt_light-told.result answer in
    let coming : true ≡ is_some (node_act tagged_kind 0 c.far_act-coming.result c.far.inside.node.state) =
    c.if-not-can_far.ensures c.attempt_light-told.result answer ∙ ap (λ n. is_some (node_act tagged_kind 0 (far_act c.args.joint.far c.attempt_light-told.result) n)) c.node-else-not-can_near.ensures
    ∙ ap (λ a. is_some (node_act tagged_kind 0 a c.far.inside.node.state)) (sym c.far_act-coming.ensures) in
    let came = ap (λ a. node_act tagged_kind 0 a c.far.inside.node.state) (sym c.far_act-coming.ensures)
    ∙ ready_made (node_act tagged_kind 0 c.far_act-coming.result c.far.inside.node.state) c.far.inside.node.state c.attempt_light-done.new.self.state c.attempt_light-done.result coming c.attempt_light-done.ensures.acted in
    let done = far_done tagged_kind c.args.joint.crossing c.attempt_light-told.result c.args.joint.far c.far.inside.node.state (c.attempt_light-done.result, c.attempt_light-done.new.self.state) answer came in
    let deed = both_deed c.args.seat.now.number (c.near.inside.place, c.far.inside.place) c.args.event.now c.attempt_light-told.result in
    let does = does_act ticket 0 (far_act c.args.joint.far c.attempt_light-told.result) ReplyOf.Done c.far.inside.node c.attempt_light-done.new.self c.note-2.new.self (record {
      acted = made_back (node_act tagged_kind 0 (far_act c.args.joint.far c.attempt_light-told.result) c.far.inside.node.state) c.far.inside.node.state c.attempt_light-done.new.self.state ReplyOf.Done
          (came ∙ ap (λ r. Some (r, c.attempt_light-done.new.self.state)) done);
      some = λ same. absurd (cc same);
      below = far_below c.far.inside.node.state c.args.joint.far c.attempt_light-told.result;
      room = not_full c.far.inside.node.trace c.if-is_full-2.ensures;
      start = c.attempt_light-done.ensures.kept.0;
      trace = c.attempt_light-done.ensures.kept.1;
      noted = noted_so ticket (far_act c.args.joint.far c.attempt_light-told.result) c.far_act-coming.result ReplyOf.Done c.attempt_light-done.new.self c.note-2.new.self
          c.far_act-coming.ensures c.note-2.ensures;
    }) in
    held_grows g.N.Sharing.word g.N.Sharing.before c.far.inside.place c.far.inside.node c.far.inside.pass c.far.invariant c.note-2.new.self c.append_both-near_pass.result.1
    (done_at ticket deed) (c.append_both-near_pass.ensures.word.1 ∙ c.requires.word.1)
    (kept_track c.in-Some-Some.far_pass.view.tracks c.append_both-near_pass.result.1.view.tracks c.far.inside.place c.far.invariant.done (done_at ticket deed)
    (ap (λ (p : PassValue). p.view.tracks) own ∙ c.far.invariant.tracks) c.append_both-near_pass.ensures.far)
    (far_does g.N.Sharing.before.plan ticket c.args.seat.now.number c.args.event.now c.attempt_light-told.result some (c.near.inside.place, c.far.inside.place) c.args.joint asked deed refl
    c.far.inside.node c.note-2.new.self does)
    (both_here g.N.Sharing.before.plan ticket c.args.seat.now.number c.args.event.now c.attempt_light-told.result some (c.near.inside.place, c.far.inside.place) c.args.joint asked deed refl)
