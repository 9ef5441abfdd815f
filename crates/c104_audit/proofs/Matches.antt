-- The traces of nodes that audit well match: what leads at one place and is done at another too is in the trace there,
-- and each entry that doesn't lead is the other half of one that does.
use Rattle.c104_audit.proofs.{AuditRuns.{WasDone, answered, far_alone, far_joint, far_of, stamp_of}, EntryEvents.{LeadsAlone, LeadsJoint}}
use Rattle.c104_audit.proofs.EntryEvents.{is_wired_link, lead_cases, plan_event, switch_wired, terminal_there, terminal_wired}
use Rattle.c104_audit.proofs.EntryHalves.{IsAtPort, both_true, entry_is, in_is, link_is, near_at, near_takes, of_switch, out_is, partner}
use Rattle.c104_audit.proofs.{EntryHalves.{partner_back, wire_of}, Matching.AreMatched, Merging.from_filter, NetworkRuns.crossing_acts_are}
use Rattle.c104_audit.specs.Audits.{AgreeOneByOne, AreHalves, IsPassed, carried_in, carried_out, carries, end_among, is_leading, is_of_kind}
use Rattle.c104_audit.specs.{Audits.{passes_at, passing_at}, Leads.{AreRising, list_at}, declared.carried.Carried.Carried}
use Rattle.{c104_event.specs.declared.events.Event.Event, c104_net.proofs.Members.{IsIn, in_filter}, c104_node.proofs.JointEnds.far_done}
use Rattle.c104_node.{proofs.JointEnds.near_answers, specs.{ActLinks.{act_link, on_links, port_link}, Acts.node_act, PortActs.IsAnswerOf}}
use Rattle.c104_node.specs.{PortActs.{far_act, near_act}, Traces.entry_of, declared.acts.{ActOf.ActOf, Entry.Entry}}
use Rattle.{c104_node.specs.declared.{crossings.Crossing.Crossing, ends.End.End}, c104_plan.specs.{Plans.{IsPlan, Plan}, Wiring.peer}}
use Rattle.{c104_plan.specs.{Wiring.wires, declared.ports.{Port.Port, Wire.Wire}}, c104_run.proofs.BalanceWires.{nodes_apart, peer_back}}
use Rattle.c104_run.{proofs.BalanceWires.{peer_one, switch_inside}, specs.EventActs.{act_event, crossing_event, port_place}}
use Rattle.{c104_switch.specs.{Actions.Reply, declared.actions.{ActionOf.ActionOf, ReplyOf.ReplyOf}}, c104_token.specs.Kinds.plain_kind}
use Rattle.{c104_token.specs.declared.tokens.Token.Token, std.proofs.Common.{List, None, Option, Some, ap, arith, false, inl, inr, is_some}}
use Rattle.std.proofs.Common.{length, map, nat_eq, nat_lt, not, refl, slice_get, subst, sym, true, ℕ, ◌∙◌, ◌≡◌, ◌⊎◌}
use Rattle.std.proofs.lemmas.Bool.Decides.{nat_tests}

module _ (plan : Plan) (is_plan : IsPlan plan) where
  abbrev pub PlanEnd : Port → End
  PlanEnd p = end_among (length plan.switches) p

  pub end_place : (p : Port) → (end_among (length plan.switches) p).node ≡ port_place plan p
  end_place p = search arith

  -- the kind of a port's node
  port_kind : (p q : Port) → peer plan p ≡ Some q → nat_lt (port_place plan p) (length plan.switches) ≡ of_switch p
  port_kind p q wired = search (arith, switch_inside, nat_tests)

  -- an entry passes at a port where its act is one at the port
  pub passes_is : (p q : Port) (x : Entry) → peer plan p ≡ Some q → passes_at (length plan.switches) (PlanEnd p) x ≡ true → IsAtPort p x.act
  passes_is p q x wired is = search (arith, both_true, end_place, port_kind, link_is)

  pub is_passing : (p q : Port) (x : Entry) → peer plan p ≡ Some q → IsAtPort p x.act → passes_at (length plan.switches) (PlanEnd p) x ≡ true
  is_passing p q x wired at = by_port p (port_kind p q wired) at.kind at.link
    where
      by_port : (p : Port) → nat_lt (port_place plan p) (length plan.switches) ≡ of_switch p → is_of_kind (of_switch p) x.act ≡ true → act_link x.act ≡ Some (port_link p) → passes_at (length plan.switches) (PlanEnd p) x ≡ true
      by_port p kind acts over = search (arith, nat_tests)

  -- an entry of a trace was done by a node of the place's kind, over no link without a wire
  pub record IsLegal (k : ℕ) (x : Entry) : Type 0 where
    pub kind : is_of_kind (nat_lt k (length plan.switches)) x.act ≡ true
    pub linked : on_links (is_wired_link plan k) x.act ≡ true
    pub was : WasDone plan x

  -- so it stands for the event that its act leads in, if that leads
  pub legal_event : (k : ℕ) (x : Entry) → IsLegal k x → plan_event plan k x.act ≡ act_event (length plan.switches) k x.act
  legal_event k x legal = rw (legal.kind, legal.linked) refl

  some_peer : (p : Port) → is_some (peer plan p) ≡ true → (q : Port) × (peer plan p ≡ Some q)
  some_peer p is = search arith

  near_told : (crossing : Crossing) (p q : Port) → peer plan p ≡ Some q → plan_event plan (port_place plan p) (near_act crossing p) ≡ Some (crossing_event crossing p)
  near_told crossing p q wired = search (arith, port_kind)

  -- what goes out at a wired port leads
  near_leads : (crossing : Crossing) (p q : Port) → peer plan p ≡ Some q → is_some (plan_event plan (port_place plan p) (near_act crossing p)) ≡ true
  near_leads crossing p q wired = ap is_some (near_told crossing p q wired)

  -- and what comes in doesn't
  far_follows : (k : ℕ) (q : Port) (r : Reply) → is_some (plan_event plan k (far_act q r)) ≡ false
  far_follows k q r = search arith

  far_link : (q : Port) (r : Reply) → act_link (far_act {A = Token} q r) ≡ Some (port_link q)
  far_link q r = search arith

  -- a wired port is known by its place and its link
  port_is : (p q p' q' : Port) → peer plan p ≡ Some q → peer plan p' ≡ Some q' → port_place plan p ≡ port_place plan p' → port_link p ≡ port_link p' → p ≡ p'
  port_is p q p' q' is is' places links = search (arith, switch_inside)

  -- an entry that is legal and doesn't lead is at a wired port, lets nothing out, and takes something in
  pub record Follows (k : ℕ) (y : Entry) : Type 0 where
    pub at : Port
    pub other : Port
    pub wired : peer plan at ≡ Some other
    pub place : port_place plan at ≡ k
    pub here : IsAtPort at y.act
    pub still : (r : Reply) (c : Carried) → carried_out y.act r ≡ Some c → ⊥

  pub follows : (k : ℕ) (y : Entry) → IsLegal k y → is_some (plan_event plan k y.act) ≡ false → Follows k y
  follows k y legal none = by_act y.act refl legal.kind legal.linked
    where
      leads_not : (e : Event) → act_event (length plan.switches) k y.act ≡ Some e → ⊥
      leads_not e is = let no : true ≡ false = sym (ap is_some (legal_event k y legal ∙ is)) ∙ none in cc

      at_switch : (l : ℕ) → nat_lt k (length plan.switches) ≡ true → is_wired_link plan k l ≡ true → is_of_kind true y.act ≡ true → act_link y.act ≡ Some l → ((r : Reply) (c : Carried) → carried_out y.act r ≡ Some c → ⊥) → Follows k y
      at_switch l here wire kind over still = search (arith, some_peer, switch_wired)

      at_terminal : not (nat_lt k (length plan.switches)) ≡ true → is_wired_link plan k 0 ≡ true → is_of_kind false y.act ≡ true → act_link y.act ≡ Some 0 → ((r : Reply) (c : Carried) → carried_out y.act r ≡ Some c → ⊥) → Follows k y
      at_terminal past wire kind over still = search (arith, terminal_there, some_peer, terminal_wired)

      by_act : (a : ActOf Token) → y.act ≡ a → is_of_kind (nat_lt k (length plan.switches)) a ≡ true → on_links (is_wired_link plan k) a ≡ true → Follows k y
      by_act (ActOf.Step (ActionOf.Enter l x)) is kind wire = at_switch l kind wire (ap (is_of_kind true) is) (ap act_link is) (λ r c out. let no : carried_out (ActOf.Step (ActionOf.Enter l x)) r ≡ Some c = ap (λ a. carried_out a r) (sym is) ∙ out in cc)
      by_act (ActOf.Step (ActionOf.CreditIn l)) is kind wire = at_switch l kind wire (ap (is_of_kind true) is) (ap act_link is) (λ r c out. let no : carried_out (ActOf.Step (ActionOf.CreditIn l)) r ≡ Some c = ap (λ a. carried_out a r) (sym is) ∙ out in cc)
      by_act (ActOf.Enter x) is kind wire = at_terminal kind wire (ap (is_of_kind false) is) (ap act_link is) (λ r c out. let no : carried_out (ActOf.Enter x) r ≡ Some c = ap (λ a. carried_out a r) (sym is) ∙ out in cc)
      by_act ActOf.CreditIn is kind wire = at_terminal kind wire (ap (is_of_kind false) is) (ap act_link is) (λ r c out. let no : carried_out ActOf.CreditIn r ≡ Some c = ap (λ a. carried_out a r) (sym is) ∙ out in cc)
      by_act a is kind wire = absurd (leads_not _ (ap (act_event (length plan.switches) k) is))

  -- what goes out at a wired port is no event by itself
  alone_not : (crossing : Crossing) (p q : Port) → peer plan p ≡ Some q → LeadsAlone plan (port_place plan p) (near_act crossing p) → ⊥
  alone_not crossing p q wired one = search (arith, near_told, crossing_acts_are)

  -- the other half of what goes out is what comes in at the other end with its ticket and its seat
  half_is : (p q : Port) (x y : Entry) (j : ℕ) → peer plan p ≡ Some q → IsAtPort q y.act → WasDone plan x → WasDone plan y → (crossing : Crossing) → x.act ≡ near_act crossing p → IsAnswerOf crossing x.reply → x.ticket ≡ y.ticket → IsPassed x y → x.seat ≡ y.seat → y ≡ entry_of (stamp_of x) (far_act q x.reply) ReplyOf.Done
  half_is p q x y j wired at was_x was_y crossing is answer tickets passed seats = search (arith, passed, entry_is, in_is, far_done)

  module _ (traces : List (List Entry)) (rising : (k : ℕ) → AreRising (λ (e : Entry). e.ticket) (list_at traces k)) (legal : (k : ℕ) (x : Entry) → IsIn x (list_at traces k) → IsLegal k x)
      (agree : (i : ℕ) (w : Wire) → slice_get (wires plan) i ≡ Some w → AgreeOneByOne (passing_at (length plan.switches) traces w.here) (passing_at (length plan.switches) traces w.there))
      (seats : (s i : ℕ) (w : Wire) → slice_get (wires plan) i ≡ Some w → map (carries s) (passing_at (length plan.switches) traces w.here) ≡ map (carries s) (passing_at (length plan.switches) traces w.there)) where
    abbrev T : ℕ → List Entry
    T k = list_at traces k

    abbrev PassingAt : Port → List Entry
    PassingAt p = passing_at (length plan.switches) traces p

    halves_back : (a b : Entry) → AreHalves a b → AreHalves b a
    halves_back a b halves = (sym halves.0, elim halves.1 [ inl first ↦ inr first | inr second ↦ inl second ])

    -- what passes at a wired port has its partner at the other end
    other_half : (p q : Port) (x : Entry) → peer plan p ≡ Some q → IsIn x (PassingAt p) → (y : Entry) × IsIn y (PassingAt q) × AreHalves x y × (x.seat ≡ y.seat)
    other_half p q x wired has = let found = wire_of (wires plan) p q wired in by_wire found.0 found.1 found.2 found.3
      where
        by_wire : (i : ℕ) (w : Wire) → slice_get (wires plan) i ≡ Some w → ((w.here ≡ p) × (w.there ≡ q)) ⊎ ((w.there ≡ p) × (w.here ≡ q)) → (y : Entry) × IsIn y (PassingAt q) × AreHalves x y × (x.seat ≡ y.seat)
        by_wire i w at (inl ends) =
            let found = partner (PassingAt w.here) (PassingAt w.there) (agree i w at) (λ s. seats s i w at) x (subst (λ r. IsIn x (PassingAt r)) (sym ends.0) has) in
            (found.0, subst (λ r. IsIn found.0 (PassingAt r)) ends.1 found.1, found.2, found.3)
        by_wire i w at (inr ends) =
            let found = partner_back (PassingAt w.here) (PassingAt w.there) (agree i w at) (λ s. seats s i w at) x (subst (λ r. IsIn x (PassingAt r)) (sym ends.0) has) in
            (found.0, subst (λ r. IsIn found.0 (PassingAt r)) ends.1 found.1, halves_back found.0 x found.2, sym found.3)

    passing_in : (p q : Port) (x : Entry) → peer plan p ≡ Some q → IsIn x (PassingAt p) → IsIn x (T (port_place plan p)) × IsAtPort p x.act
    passing_in p q x wired has =
        let found = from_filter (passes_at (length plan.switches) (PlanEnd p)) x (T (PlanEnd p).node) has in
        (subst (λ k. IsIn x (T k)) (end_place p) found.0, passes_is p q x wired found.1)

    in_passing_at : (p q : Port) (x : Entry) → peer plan p ≡ Some q → IsIn x (T (port_place plan p)) → IsAtPort p x.act → IsIn x (PassingAt p)
    in_passing_at p q x wired has at = in_filter (passes_at (length plan.switches) (PlanEnd p)) x (T (PlanEnd p).node) (subst (λ k. IsIn x (T k)) (sym (end_place p)) has) (is_passing p q x wired at)

    -- the far half of an entry, where it has one
    abbrev Far : ℕ → Entry → Option (ℕ × Entry)
    Far k x = far_of plan k x

    near_half : (k : ℕ) (x : Entry) (d : ℕ × Entry) → IsIn x (T k) → is_leading (length plan.switches) (wires plan) k x ≡ true → Far k x ≡ Some d → IsIn d.1 (T d.0)
    near_half k x d has leads far = by_cases (lead_cases plan k x.act leads)
      where
        by_cases : LeadsAlone plan k x.act ⊎ LeadsJoint plan k x.act → IsIn d.1 (T d.0)
        by_cases (inl alone) = absurd (let no : ◌≡◌ {A = Option (ℕ × Entry)} None (Some d) = sym (far_alone plan k x alone) ∙ far in cc)
        by_cases (inr j) = subst (λ (e : ℕ × Entry). IsIn e.1 (T e.0)) same (subst (λ e. IsIn e (T (port_place plan j.far))) half found_in.0)
          where
            passes : IsIn x (PassingAt j.near)
            passes = in_passing_at j.near j.far x j.wired (subst (λ p. IsIn x (T p)) (sym j.place) has) (subst (IsAtPort j.near) (sym j.is) (near_at j.crossing j.near))

            found : (y : Entry) × IsIn y (PassingAt j.far) × AreHalves x y × (x.seat ≡ y.seat)
            found = other_half j.near j.far x j.wired passes

            found_in : IsIn found.0 (T (port_place plan j.far)) × IsAtPort j.far found.0.act
            found_in = passing_in j.far j.near found.0 (peer_back plan is_plan j.near j.far j.wired) found.1

            passed : IsPassed x found.0 ⊎ IsPassed found.0 x → IsPassed x found.0
            passed (inl out) = out
            passed (inr back) = absurd (near_takes j.crossing j.near back.0 (ap carried_in (sym j.is) ∙ back.2))

            half : found.0 ≡ entry_of (stamp_of x) (far_act j.far x.reply) ReplyOf.Done
            half = half_is j.near j.far x found.0 k j.wired found_in.1 (legal k x has).was (legal (port_place plan j.far) found.0 found_in.0).was j.crossing j.is (answered plan x k j (legal k x has).was) found.2.0 (passed found.2.1) found.3

            same : ◌≡◌ {A = ℕ × Entry} (port_place plan j.far, entry_of (stamp_of x) (far_act j.far x.reply) ReplyOf.Done) d
            same = let both : ◌≡◌ {A = Option (ℕ × Entry)} (Some (port_place plan j.far, entry_of (stamp_of x) (far_act j.far x.reply) ReplyOf.Done)) (Some d) = sym (far_joint plan k x j) ∙ far in cc

    away_half : (k : ℕ) (y : Entry) → IsIn y (T k) → is_leading (length plan.switches) (wires plan) k y ≡ false → (p : ℕ) × (x : Entry) × IsIn x (T p) × (is_leading (length plan.switches) (wires plan) p x ≡ true) × (Far p x ≡ Some (k, y))
    away_half k y has none = (port_place plan f.other, x, found_in.0, leads, far)
      where
        f : Follows k y
        f = follows k y (legal k y has) none

        passes : IsIn y (PassingAt f.at)
        passes = in_passing_at f.at f.other y f.wired (subst (λ p. IsIn y (T p)) (sym f.place) has) f.here

        found : (x : Entry) × IsIn x (PassingAt f.other) × AreHalves y x × (y.seat ≡ x.seat)
        found = other_half f.at f.other y f.wired passes

        x : Entry
        x = found.0

        back : peer plan f.other ≡ Some f.at
        back = peer_back plan is_plan f.at f.other f.wired

        found_in : IsIn x (T (port_place plan f.other)) × IsAtPort f.other x.act
        found_in = passing_in f.other f.at x back found.1

        passed : IsPassed y x ⊎ IsPassed x y → IsPassed x y
        passed (inl out) = absurd (f.still y.reply out.0 out.1)
        passed (inr out) = out

        out : IsPassed x y
        out = passed found.2.1

        near : (crossing : Crossing) × (x.act ≡ near_act crossing f.other)
        near = out_is f.other x.act x.reply out.0 found_in.1 out.1

        leads : is_leading (length plan.switches) (wires plan) (port_place plan f.other) x ≡ true
        leads = ap (λ a. is_some (plan_event plan (port_place plan f.other) a)) near.1 ∙ near_leads near.0 f.other f.at back

        by_cases : LeadsAlone plan (port_place plan f.other) x.act ⊎ LeadsJoint plan (port_place plan f.other) x.act → Far (port_place plan f.other) x ≡ Some (k, y)
        by_cases (inl alone) = absurd (alone_not near.0 f.other f.at back (subst (LeadsAlone plan (port_place plan f.other)) near.1 alone))
        by_cases (inr j) = far_joint plan (port_place plan f.other) x j ∙ ap Some (pair_is (ap (port_place plan) there ∙ f.place) (sym (half ∙ ap (λ r. entry_of (stamp_of x) (far_act r x.reply) ReplyOf.Done) (sym there))))
          where
            pair_is : {a b : ℕ} {u v : Entry} → a ≡ b → u ≡ v → ◌≡◌ {A = ℕ × Entry} (a, u) (b, v)
            pair_is {a} {b} {u} {v} first second = ap (λ i. pair i u) first ∙ ap (pair b) second
              where
                pair : ℕ → Entry → ℕ × Entry
                pair i e = (i, e)

            near_same : j.near ≡ f.other
            near_same = port_is j.near j.far f.other f.at j.wired back j.place (let links : act_link (near_act j.crossing j.near) ≡ Some (port_link f.other) = ap act_link (sym j.is) ∙ found_in.1.link in let own = (near_at j.crossing j.near).link in cc)

            there : j.far ≡ f.at
            there = (let both : Some j.far ≡ Some f.at = sym j.wired ∙ ap (peer plan) near_same ∙ back in cc)

            half : y ≡ entry_of (stamp_of x) (far_act f.at x.reply) ReplyOf.Done
            half = half_is f.other f.at x y k back f.here (legal (port_place plan f.other) x found_in.0).was (legal k y has).was near.0 near.1 (answered_by near.0 near.1) (sym found.2.0) out (sym found.3)
              where
                answered_by : (crossing : Crossing) → x.act ≡ near_act crossing f.other → IsAnswerOf crossing x.reply
                answered_by crossing is = near_answers plain_kind crossing f.other (legal (port_place plan f.other) x found_in.0).was.node (x.reply, (legal (port_place plan f.other) x found_in.0).was.after) (subst (λ a. node_act plain_kind 0 a (legal (port_place plan f.other) x found_in.0).was.node ≡ Some (x.reply, (legal (port_place plan f.other) x found_in.0).was.after)) is (legal (port_place plan f.other) x found_in.0).was.made)

        far : Far (port_place plan f.other) x ≡ Some (k, y)
        far = by_cases (lead_cases plan (port_place plan f.other) x.act leads)

    same_half : (k : ℕ) (x : Entry) (d : ℕ × Entry) → is_leading (length plan.switches) (wires plan) k x ≡ true → Far k x ≡ Some d → (d.1.ticket ≡ x.ticket) × (is_leading (length plan.switches) (wires plan) d.0 d.1 ≡ false) × (nat_eq k d.0 ≡ false)
    same_half k x d leads far = search (arith, lead_cases, far_alone, far_joint, nodes_apart, far_follows, nat_tests)

    one_half : (k i : ℕ) (x y : Entry) (d : ℕ × Entry) → is_leading (length plan.switches) (wires plan) k x ≡ true → is_leading (length plan.switches) (wires plan) i y ≡ true → Far k x ≡ Some d → Far i y ≡ Some d → k ≡ i
    one_half k i x y d leads leads' far far' = by_cases (lead_cases plan k x.act leads) (lead_cases plan i y.act leads')
      where
        pair_of : (k : ℕ) (x : Entry) (j : LeadsJoint plan k x.act) → Far k x ≡ Some d → ◌≡◌ {A = ℕ × Entry} (port_place plan j.far, entry_of (stamp_of x) (far_act j.far x.reply) ReplyOf.Done) d
        pair_of k x j far = let both : ◌≡◌ {A = Option (ℕ × Entry)} (Some (port_place plan j.far, entry_of (stamp_of x) (far_act j.far x.reply) ReplyOf.Done)) (Some d) = sym (far_joint plan k x j) ∙ far in cc

        by_cases : LeadsAlone plan k x.act ⊎ LeadsJoint plan k x.act → LeadsAlone plan i y.act ⊎ LeadsJoint plan i y.act → k ≡ i
        by_cases (inl alone) other = absurd (let no : ◌≡◌ {A = Option (ℕ × Entry)} None (Some d) = sym (far_alone plan k x alone) ∙ far in cc)
        by_cases (inr j) (inl alone) = absurd (let no : ◌≡◌ {A = Option (ℕ × Entry)} None (Some d) = sym (far_alone plan i y alone) ∙ far' in cc)
        by_cases (inr j) (inr j') =
            let both : ◌≡◌ {A = ℕ × Entry} (port_place plan j.far, entry_of (stamp_of x) (far_act j.far x.reply) ReplyOf.Done) (port_place plan j'.far, entry_of (stamp_of y) (far_act j'.far y.reply) ReplyOf.Done) = pair_of k x j far ∙ sym (pair_of i y j' far') in
            let places : port_place plan j.far ≡ port_place plan j'.far = ap (λ (e : ℕ × Entry). e.0) both in
            let links : Some (port_link j.far) ≡ Some (port_link j'.far) = sym (far_link j.far x.reply) ∙ ap (λ (e : ℕ × Entry). act_link e.1.act) both ∙ far_link j'.far y.reply in
            let link : port_link j.far ≡ port_link j'.far = cc in
            let fars : j.far ≡ j'.far = port_is j.far j.near j'.far j'.near (peer_back plan is_plan j.near j.far j.wired) (peer_back plan is_plan j'.near j'.far j'.wired) places link in
            let nears : j.near ≡ j'.near = peer_one plan is_plan j.near j'.near j'.far (j.wired ∙ ap Some fars) j'.wired in
            sym j.place ∙ ap (port_place plan) nears ∙ j'.place

    -- the traces match
    pub traces_match : AreMatched (λ (e : Entry). e.ticket) (is_leading (length plan.switches) (wires plan)) (far_of plan) traces
    traces_match = search (arith, near_half, away_half, same_half, one_half)
