-- Where each node of a shared network does its own part of a log, the network goes by the log's events as if one thread had
-- applied them.
use Rattle.{c104_event.specs.declared.faults.EventFault.EventFault, c104_lean.proofs.OwnActs.{alone_acted, both_acted, told_done}}
use Rattle.c104_lean.proofs.{OwnActs.told_ready, OwnParts.{RunTheirs, does_first, far_away, far_first, far_others, lone_first, lone_others}}
use Rattle.c104_lean.{proofs.OwnParts.{near_first, near_others, parts, parts_of_far, still_there}, specs.OwnRuns.{AreApart, DoesAct}}
use Rattle.c104_lean.specs.{OwnRuns.{DoesOwn, IsDoneHere, far_place, near_place, own, own_act, told}, Runs.AreApplied}
use Rattle.{c104_net.proofs.Members.element_at, c104_node.specs.{Places.bases, PortActs.{Acts, far_act, near_act}, Tagged.TaggedToken}}
use Rattle.c104_node.specs.{Tagged.tagged_kind, TracedRecords.{TracedRecord, counted_shown}, Traces.{plain_act, seatless}}
use Rattle.{c104_node.specs.declared.{acts.ActOf.ActOf, crossings.Crossing.Crossing}, c104_plan.specs.Plans.{IsPlan, Plan}}
use Rattle.{c104_plan.specs.declared.ports.Port.Port, c104_run.proofs.{ActAnswers.{acts_plain, plain_acts}, ActSteps.joint_wired}}
use Rattle.c104_run.proofs.{BalanceWires.peer_back, KeptElements.same_places, RecordSteps.ticket_left, RecordedPlaces.{GoesOn, goes_there}}
use Rattle.c104_run.specs.{Engines.engine_of, EventActs.{event_acts, port_place}, EventsAtPlaces.EventDone, KnownWires.KnowWires}
use Rattle.c104_run.specs.{NetParts.node_count, NetRecords.{NetRecord, is_done, ticket_after}, Network.event_fault}
use Rattle.c104_run.specs.{RecordedNets.{IsRecordedNet, places_record}, RecordedPlaces.{counted_keeps, counted_reading}}
use Rattle.{c104_run.specs.RecordedRuns.record_apply, c104_switch.specs.{Actions.{Reply, is_ready}, declared.actions.ReplyOf.ReplyOf}}
use Rattle.c104_tickets.specs.{Tickets.{AreNumbered, Each}, declared.views.Done.Done}
use Rattle.{c104_turns.{proofs.LogRuns.{alone_inside as lone_inside, port_inside}, specs.Logs.done_pair}, std.proofs.Common.{List, None}}
use Rattle.std.proofs.Common.{Ok, Option, Result, Some, [], ap, arith, false, if◌then◌else◌, inl, inr, length, map, nat_eq, option_map}
use Rattle.std.proofs.Common.{refl, slice_get, slice_set, subst, suc, sym, true, ℕ, ◌+◌, ◌-◌, ◌<◌, ◌∙◌, ◌∷◌, ◌≡◌, ◌≢◌}
use Rattle.std.proofs.lemmas.{Bool.Decides.nat_tests, List.length-set}

module _ (plan : Plan) where
  -- the network with its record that some nodes show
  abbrev pub net_at : List TracedRecord → ℕ → NetRecord
  net_at places count = places_record counted_reading plan places count

  -- what the network comes to by a log: it is one with its record, its places know its wires, and each event was applied
  pub record RunsBy (log : List Done) (from to : List TracedRecord) (count last : ℕ) : Type 0 where
    pub kept : IsRecordedNet counted_reading plan to last
    pub wired : KnowWires plan (bases (map counted_shown to))
    pub applied : AreApplied (net_at from count) (map done_pair log) (net_at to last)

  -- the nodes after the first of a log was done, and each does its part of the rest
  pub record HasDone (from to : List TracedRecord) (d : Done) (rest : List Done) : Type 0 where
    pub next : List TracedRecord
    pub nodes : length next ≡ node_count plan
    pub done : EventDone tagged_kind true plan (seatless d.ticket) d.deed.event (map counted_shown from) (Ok d.deed.reply)
        (map counted_shown next)
    pub theirs : RunTheirs plan next to (parts rest)

  -- what a node did of its own is the act that its event asks there
  own_does : (k : ℕ) (d : Done) (n m : TracedRecord) (acts : Acts TaggedToken) → event_acts plan d.deed.event ≡ Some acts
      → DoesOwn plan k d n m → DoesAct d.ticket (own_act plan k acts (told d.deed)) n m
  own_does k d n m acts asked does =
      let both : Some does.acts ≡ Some acts = sym does.asked ∙ asked in
      let same : does.acts ≡ acts = cc in
      subst (λ them. DoesAct d.ticket (own_act plan k them (told d.deed)) n m) same does.does

  -- of what crosses a wire, the one end
  near_does : (p q : Port) (crossing : Crossing) (r : ReplyOf TaggedToken)
      → own_act plan (port_place plan p) (Acts.Joint p q crossing) r ≡ own 0 (near_act crossing p) r
  near_does p q crossing r =
      let same : nat_eq (port_place plan p) (port_place plan p) ≡ true = grind (arith, nat_tests) in
      ap (λ b. if b then own 0 (near_act crossing p) r else own 0 (far_act q r) ReplyOf.Done) same

  -- and the other
  far_does : (p q : Port) (crossing : Crossing) (r : ReplyOf TaggedToken) → port_place plan p ≢ port_place plan q
      → own_act plan (port_place plan q) (Acts.Joint p q crossing) r ≡ own 0 (far_act q r) ReplyOf.Done
  far_does p q crossing r apart =
      let differs : nat_eq (port_place plan q) (port_place plan p) ≡ false = grind (arith, nat_tests, apart) in
      ap (λ b. if b then own 0 (near_act crossing p) r else own 0 (far_act q r) ReplyOf.Done) differs

  -- nothing was done
  none_done : (from to : List TracedRecord) (count last : ℕ) → to ≡ from → last ≡ count
      → KnowWires plan (bases (map counted_shown from)) → IsRecordedNet counted_reading plan from count → RunsBy [] from to count last
  none_done from to count last same still wired kept =
      subst (λ places. RunsBy [] from places count last) (sym same)
      (subst (λ i. RunsBy [] from from count i) (sym still) (record { kept = kept; wired = wired; applied = refl }))

module _ (plan : Plan) (is_plan : IsPlan plan) where
  alone_inside : (d : Done) (k : ℕ) (a : ActOf TaggedToken)
      → ◌≡◌ {A = Option (Acts TaggedToken)} (event_acts plan d.deed.event) (Some (Acts.Alone k a)) → event_fault plan d.deed.event ≡ None
      → k < node_count plan
  alone_inside d k a asked possible =
      lone_inside plan is_plan d.deed.event k (plain_act tagged_kind a)
      (acts_plain tagged_kind plan d.deed.event ∙ ap (option_map (plain_acts tagged_kind)) asked) possible

  module _ (from to : List TracedRecord) (starts : length from ≡ node_count plan) (ends : length to ≡ node_count plan) (d : Done)
      (rest : List Done) (possible : event_fault plan d.deed.event ≡ None) (ready : is_ready d.deed.reply ≡ true)
      (theirs : RunTheirs plan from to (parts (d ∷ rest))) where
    answered : is_ready (told d.deed) ≡ true
    answered = told_ready d.deed.reply d.deed.terminal d.deed.number ∙ ready

    still : (places : List TracedRecord) (k : ℕ) (m : TracedRecord) → length places ≡ node_count plan
        → length (slice_set places k m) ≡ node_count plan
    still places k m counted = length-set places k m ∙ counted

    alone_done : (k : ℕ) (a : ActOf TaggedToken)
        → ◌≡◌ {A = Option (Acts TaggedToken)} (event_acts plan d.deed.event) (Some (Acts.Alone k a))
        → d.deed.near ≡ Some k → d.deed.far ≡ None → HasDone plan from to d rest
    alone_done k a asked near none =
        let inside = alone_inside d k a asked possible in
        let n = element_at from k (omega (arith, inside, starts)) in
        let m = element_at to k (omega (arith, inside, ends)) in
        let first = does_first plan from to k d n.0 m.0 (parts (d ∷ rest)) (parts rest) n.1 m.1 (lone_first d rest k near none)
        (lone_others d rest k near none) theirs in
        record {
          next = slice_set from k first.mid;
          nodes = still from k first.mid starts;
          done = told_done plan d (Acts.Alone k a) (map counted_shown from) (map counted_shown (slice_set from k first.mid)) asked possible
              (alone_acted d.ticket (own (k - length plan.switches) a (told d.deed)) n.0 first.mid
              (own_does plan k d n.0 first.mid (Acts.Alone k a) asked first.does) from k n.1 answered);
          theirs = first.rest;
        }

    joint_done : (p q : Port) (crossing : Crossing)
        → ◌≡◌ {A = Option (Acts TaggedToken)} (event_acts plan d.deed.event) (Some (Acts.Joint p q crossing))
        → d.deed.near ≡ Some (port_place plan p) → d.deed.far ≡ Some (port_place plan q) → port_place plan p ≢ port_place plan q
        → HasDone plan from to d rest
    joint_done p q crossing asked near far apart =
        let i : ℕ = port_place plan p in
        let j : ℕ = port_place plan q in
        let joined = joint_wired plan d.deed.event p q crossing asked in
        let near_inside = port_inside plan is_plan p q joined in
        let far_inside = port_inside plan is_plan q p (peer_back plan is_plan p q joined) in
        let n = element_at from i (omega (arith, near_inside, starts)) in
        let m = element_at to i (omega (arith, near_inside, ends)) in
        let x = element_at from j (omega (arith, far_inside, starts)) in
        let y = element_at to j (omega (arith, far_inside, ends)) in
        let one = does_first plan from to i d n.0 m.0 (parts (d ∷ rest)) (parts_of_far d rest) n.1 m.1
        (near_first d rest i near (far_away d rest i j far apart)) (near_others d rest i near) theirs in
        let mids : List TracedRecord = slice_set from i one.mid in
        let there : slice_get mids j ≡ Some x.0 = still_there from i j one.mid x.0 apart x.1 in
        let two = does_first plan mids to j d x.0 y.0 (parts_of_far d rest) (parts rest) there y.1
        (far_first d rest j far) (far_others d rest j far) one.rest in
        let next : List TracedRecord = slice_set mids j two.mid in
        record {
          next = next;
          nodes = still mids j two.mid (still from i one.mid starts);
          done = told_done plan d (Acts.Joint p q crossing) (map counted_shown from) (map counted_shown next) asked possible
              (both_acted d.ticket i j (record { near = p; far = q; crossing = crossing }) (told d.deed) n.0 one.mid x.0 two.mid from apart
              answered n.1 x.1
              (subst (λ o. DoesAct d.ticket o n.0 one.mid) (near_does plan p q crossing (told d.deed))
              (own_does plan i d n.0 one.mid (Acts.Joint p q crossing) asked one.does))
              (subst (λ o. DoesAct d.ticket o x.0 two.mid) (far_does plan p q crossing (told d.deed) apart)
              (own_does plan j d x.0 two.mid (Acts.Joint p q crossing) asked two.does)));
          theirs = two.rest;
        }

    has_done : (acts : Acts TaggedToken) → event_acts plan d.deed.event ≡ Some acts → d.deed.near ≡ Some (near_place plan acts)
        → d.deed.far ≡ far_place plan acts → AreApart plan acts → HasDone plan from to d rest
    has_done (Acts.Alone k a) asked near far apart = alone_done k a asked near far
    has_done (Acts.Joint p q crossing) asked near far apart = joint_done p q crossing asked near far apart

  -- one event more, and then the rest
  module _ (from : List TracedRecord) (count : ℕ) (kept : IsRecordedNet counted_reading plan from count) (d : Done)
      (next : List TracedRecord)
      (done : EventDone tagged_kind true plan (seatless count) d.deed.event (map counted_shown from) (Ok d.deed.reply)
      (map counted_shown next))
      (ready : is_ready d.deed.reply ≡ true) where
    counts : suc count ≡ ticket_after count (is_done (Ok d.deed.reply))
    counts =
        let left = ticket_left (net_at plan from count) (net_at plan from count) is_plan refl kept.kept d.deed.event in
        let more : suc count ≡ count + 1 = omega arith in
        more ∙ left ∙ ap (ticket_after count) (sym ready)

    goes : GoesOn counted_reading plan plan (engine_of plan from count) (engine_of plan next (suc count)) d.deed.event (Ok d.deed.reply)
    goes =
        goes_there counted_reading true counted_keeps (λ n. refl) (engine_of plan from count) (engine_of plan next (suc count)) is_plan
        kept d.deed.event (Ok d.deed.reply) done counts

    applied : ◌≡◌ {A = Result Reply EventFault × NetRecord} (Ok d.deed.reply, net_at plan next (suc count))
        (record_apply (net_at plan from count) d.deed.event)
    applied = elim goes.answers [ inl due ↦ due | inr short ↦ absurd (cc short.0) ]

    first_then : (rest : List Done) (to : List TracedRecord) (last : ℕ) → RunsBy plan rest next to (suc count) last
        → RunsBy plan (d ∷ rest) from to count last
    first_then rest to last runs = record {
      kept = runs.kept;
      wired = runs.wired;
      applied = (net_at plan next (suc count), applied, ready, runs.applied);
    }

    still_wired : KnowWires plan (bases (map counted_shown from)) → KnowWires plan (bases (map counted_shown next))
    still_wired wired = subst (KnowWires plan) (sym done.base) wired

  pub runs : (log : List Done) (from to : List TracedRecord) (count last : ℕ) → length from ≡ node_count plan
      → length to ≡ node_count plan → AreNumbered count log → last ≡ count + length log → Each (IsDoneHere plan) log
      → RunTheirs plan from to (parts log) → KnowWires plan (bases (map counted_shown from))
      → IsRecordedNet counted_reading plan from count → RunsBy plan log from to count last
  runs [] from to count last starts ends numbered is here theirs wired kept =
      none_done plan from to count last (same_places from to (ends ∙ sym starts) (λ k n m left right. theirs k n m left right))
      (omega (arith, is)) wired kept
  runs (d ∷ rest) from to count last starts ends numbered is here theirs wired kept =
      let first = has_done from to starts ends d rest here.0.possible here.0.ready theirs here.0.acts here.0.asked here.0.near here.0.far
      here.0.apart in
      let done = subst (λ i. EventDone tagged_kind true plan (seatless i) d.deed.event (map counted_shown from) (Ok d.deed.reply)
      (map counted_shown first.next)) numbered.0 first.done in
      first_then from count kept d first.next done here.0.ready rest to last
      (runs rest first.next to (suc count) last first.nodes ends numbered.1 (omega (arith, is)) here.1 first.theirs
      (still_wired from count kept d first.next done here.0.ready wired)
      (goes from count kept d first.next done here.0.ready).kept)
