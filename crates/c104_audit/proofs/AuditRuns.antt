-- Where each node runs its part of what entries that lead tell, in whatever order they stand, the network runs their
-- events.
use Rattle.c104_audit.proofs.{EntryEvents.{LeadsAlone, LeadsJoint, lead_cases, plan_event}, Matching.{AreLeading, StandsBefore, all_deeds}}
use Rattle.{c104_audit.{proofs.Matching.lead_deeds, specs.Leads.Lead}, c104_event.specs.declared.events.Event.Event}
use Rattle.{c104_link.specs.Steps.◌>>=◌, c104_node.proofs.{BegunRecords.run_kind, JointEnds.near_answers, ReadyActs.act_ready}}
use Rattle.c104_node.specs.{Acts.{IsWithinLimits, node_act}, Nodes.{Node, is_switch}, PortActs.{Acts, IsAnswerOf, far_act}, Records.MayAct}
use Rattle.c104_node.specs.{Traces.entry_of, declared.{acts.{ActOf.ActOf, Entry.Entry}, crossings.Crossing.Crossing, stamps.Stamp.Stamp}}
use Rattle.{c104_plan.specs.{Plans.Plan, Wiring.peer, declared.ports.Port.Port}, c104_run.specs.EventActs.{crossing_event, event_acts}}
use Rattle.c104_run.specs.{EventActs.port_place, EventDeeds.event_deeds, EventPlaces.event_place, Runs.{AreBehind, AreInOrder, IsBefore}}
use Rattle.{c104_run.specs.Runs.run_deeds, c104_switch.specs.{Actions.Reply, declared.actions.ReplyOf.ReplyOf}}
use Rattle.{c104_token.specs.{Kinds.plain_kind, declared.tokens.Token.Token}, std.proofs.Common.{List, None, Option, Some, [], ap, arith}}
use Rattle.std.proofs.Common.{is_some, map, refl, slice_get, subst, suc, sym, true, unwrap_or, ℕ, ◌++◌, ◌+◌, ◌∙◌, ◌∷◌, ◌≡◌}
use Rattle.std.specs.List.{AllByRecursion}

-- the stamp of an entry
abbrev pub stamp_of : Entry → Stamp
stamp_of x = record { ticket = x.ticket; seat = x.seat }

-- an act leaves a node of the same kind
pub same_kind : (wired : ℕ) (a : ActOf Token) (n m : Node Token) (r : Reply) → MayAct wired n a → node_act plain_kind 0 a n ≡ Some (r, m) → is_switch m ≡ is_switch n
same_kind wired a n m r may made = run_kind wired n m (record { ticket = 0; act = a; reply = r; seat = None } ∷ []) (m, may, made, refl)

module _ (plan : Plan) where
  -- what is done at the other end of its wire by an act that leads, if it crosses one
  abbrev pub far_half : Entry → Option (Acts Token) → Option (ℕ × Entry)
  far_half x None = None
  far_half x (Some (Acts.Alone k a)) = None
  far_half x (Some (Acts.Joint p q crossing)) = Some (port_place plan q, entry_of (stamp_of x) (far_act q x.reply) ReplyOf.Done)

  abbrev pub far_of : ℕ → Entry → Option (ℕ × Entry)
  far_of k x = far_half x (plan_event plan k x.act >>= event_acts plan)

  -- the event that an entry leads in
  abbrev pub lead_event : ℕ × Lead Entry → Event
  lead_event m = unwrap_or (plan_event plan m.1.place m.1.entry.act) (Event.Drain 0)

  abbrev pub lead_pair : ℕ × Lead Entry → Event × Reply
  lead_pair m = (lead_event m, m.1.entry.reply)

  -- the stamps of entries that lead, by number
  abbrev pub stamp_or : Option (ℕ × Lead Entry) → Stamp
  stamp_or None = record { ticket = 0; seat = None }
  stamp_or (Some m) = stamp_of m.1.entry

  abbrev pub lead_stamps : List (ℕ × Lead Entry) → ℕ → Stamp
  lead_stamps ms n = stamp_or (slice_get ms n)

  joint_acts : (crossing : Crossing) (p q : Port) → peer plan p ≡ Some q → ◌≡◌ {A = Option (Acts Token)} (event_acts plan (crossing_event crossing p)) (Some (Acts.Joint p q crossing))
  joint_acts crossing p q wired = search arith

  joint_place : (crossing : Crossing) (p : Port) → event_place plan (crossing_event crossing p) ≡ port_place plan p
  joint_place crossing p = search arith

  pub far_alone : (k : ℕ) (x : Entry) → LeadsAlone plan k x.act → far_of k x ≡ None
  far_alone k x alone = rw (alone.told, alone.acts) refl

  pub far_joint : (k : ℕ) (x : Entry) (j : LeadsJoint plan k x.act) → far_of k x ≡ Some (port_place plan j.far, entry_of (stamp_of x) (far_act j.far x.reply) ReplyOf.Done)
  far_joint k x j = rw (j.told, joint_acts j.crossing j.near j.far j.wired) refl

  event_alone : (m : ℕ × Lead Entry) (alone : LeadsAlone plan m.1.place m.1.entry.act) → lead_event m ≡ alone.event
  event_alone m alone = rw alone.told refl

  event_joint : (m : ℕ × Lead Entry) (j : LeadsJoint plan m.1.place m.1.entry.act) → lead_event m ≡ crossing_event j.crossing j.near
  event_joint m j = rw j.told refl

  -- what is known of an entry that leads: its act was one of the node at its place, which was ready for it
  pub record WasDone (x : Entry) : Type 0 where
    pub node : Node Token
    pub after : Node Token
    pub short : IsWithinLimits x.act
    pub made : node_act plain_kind 0 x.act node ≡ Some (x.reply, after)

  pub record IsSure (m : ℕ × Lead Entry) : Type 0 where
    pub leads : is_some (plan_event plan m.1.place m.1.entry.act) ≡ true
    pub told : m.0 ≡ m.1.entry.ticket
    pub was : WasDone m.1.entry

  pub answered : (x : Entry) (k : ℕ) (j : LeadsJoint plan k x.act) → WasDone x → IsAnswerOf j.crossing x.reply
  answered x k j was = near_answers plain_kind j.crossing j.near was.node (x.reply, was.after) (subst (λ a. node_act plain_kind 0 a was.node ≡ Some (x.reply, was.after)) j.is was.made)

  pub place_sure : (m : ℕ × Lead Entry) → IsSure m → event_place plan (lead_event m) ≡ m.1.place
  place_sure m sure = search (arith, lead_cases, event_joint, joint_place)

  -- the entries of the event are what the entry and its other half are
  pub deeds_sure : (m : ℕ × Lead Entry) → IsSure m → event_deeds plan (stamp_of m.1.entry) (lead_event m) m.1.entry.reply ≡ lead_deeds far_of m
  deeds_sure m sure = search (arith, lead_cases, act_ready, far_alone, event_joint, joint_acts, far_joint)

  -- the entries of numbered events, each with the stamp of its number
  pub run_sure : (n : ℕ) (stamps : ℕ → Stamp) (ms : List (ℕ × Lead Entry)) → ((i : ℕ) → stamps (n + i) ≡ lead_stamps ms i) → AllByRecursion IsSure ms → run_deeds plan stamps n (map lead_pair ms) ≡ all_deeds far_of ms
  run_sure n stamps [] same sure = refl
  run_sure n stamps (m ∷ ms) same sure =
      let none : n + 0 ≡ n = omega arith in
      let here : stamps n ≡ stamp_of m.1.entry = ap stamps (sym none) ∙ same 0 in
      ap (λ s. event_deeds plan s (lead_event m) m.1.entry.reply ++ run_deeds plan stamps (suc n) (map lead_pair ms)) here
      ∙ ap (λ ds. ds ++ run_deeds plan stamps (suc n) (map lead_pair ms)) (deeds_sure m sure.0)
      ∙ ap (λ ds. lead_deeds far_of m ++ ds) (run_sure (suc n) stamps ms (λ i. let next : suc n + i ≡ n + suc i = omega arith in ap stamps next ∙ same (suc i)) sure.1)

  behind_sure : (m : ℕ × Lead Entry) (n : ℕ) (stamps : ℕ → Stamp) (ms : List (ℕ × Lead Entry)) → ((i : ℕ) → stamps (n + i) ≡ lead_stamps ms i) → AllByRecursion IsSure ms → AllByRecursion (StandsBefore m) ms → AreBehind plan stamps m.0 m.1.place n (map lead_pair ms)
  behind_sure m n stamps [] same sure before = tt
  behind_sure m n stamps (o ∷ ms) same sure before =
      let none : n + 0 ≡ n = omega arith in
      let ticket : o.0 ≡ (stamps n).ticket = sure.0.told ∙ sym (ap (λ (s : Stamp). s.ticket) (ap stamps (sym none) ∙ same 0)) in (
        subst (λ t. IsBefore m.0 m.1.place t (event_place plan (lead_event o))) ticket (subst (λ k. IsBefore m.0 m.1.place o.0 k) (sym (place_sure o sure.0)) before.0),
        behind_sure m (suc n) stamps ms (λ i. let next : suc n + i ≡ n + suc i = omega arith in ap stamps next ∙ same (suc i)) sure.1 before.1,
      )

  pub order_sure : (n : ℕ) (stamps : ℕ → Stamp) (ms : List (ℕ × Lead Entry)) → ((i : ℕ) → stamps (n + i) ≡ lead_stamps ms i) → AllByRecursion IsSure ms → AreLeading ms → AreInOrder plan stamps n (map lead_pair ms)
  order_sure n stamps [] same sure leading = tt
  order_sure n stamps (m ∷ ms) same sure leading =
      let none : n + 0 ≡ n = omega arith in
      let ticket : m.0 ≡ (stamps n).ticket = sure.0.told ∙ sym (ap (λ (s : Stamp). s.ticket) (ap stamps (sym none) ∙ same 0)) in
      let next : (i : ℕ) → stamps (suc n + i) ≡ lead_stamps ms i = λ i. let on : suc n + i ≡ n + suc i = omega arith in ap stamps on ∙ same (suc i) in (
        subst (λ t. AreBehind plan stamps t (event_place plan (lead_event m)) (suc n) (map lead_pair ms)) ticket (subst (λ k. AreBehind plan stamps m.0 k (suc n) (map lead_pair ms)) (sym (place_sure m sure.0)) (behind_sure m (suc n) stamps ms next sure.1 leading.0)),
        order_sure (suc n) stamps ms next sure.1 leading.1,
      )
