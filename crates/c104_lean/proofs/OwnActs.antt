-- What the nodes of an event did of their own is what the event leaves at all places.
use Rattle.c104_lean.{proofs.OwnParts.still_there, specs.OwnRuns.{DoesAct, OwnAct, own, told, told_by}}
use Rattle.c104_node.{proofs.{Attempts.tried_done, JointEnds.has_crossed, PlaceSteps.{acts_at, shown_at}}, specs.Acts.{node_act, nodes_act}}
use Rattle.c104_node.specs.{Acts.{plain_reply, reply_outcome}, PlaceActs.{AloneDone, HasActed, HasActedAt, JointDone}, Places.Shown}
use Rattle.c104_node.specs.{Places.{fulls, started_base, states}, PortActs.{Acts, act_limit, far_act, near_act}, Tagged.TaggedToken}
use Rattle.c104_node.specs.{Tagged.tagged_kind, TracedRecords.{TracedRecord, counted_shown}, Traces.{full_at, kept_entry, noted, seatless}}
use Rattle.{c104_node.specs.{Traces.trace_limit, declared.{acts.Entry.Entry, crossings.Joint.Joint}}, c104_plan.specs.Plans.Plan}
use Rattle.c104_run.{proofs.ActAnswers.event_done, specs.{EventActs.event_acts, EventsAtPlaces.{ActsDone, EventDone}, Network.event_fault}}
use Rattle.{c104_switch.specs.{Actions.{Reply, is_ready}, declared.actions.ReplyOf.ReplyOf}, c104_tickets.specs.declared.views.Done.Done}
use Rattle.std.proofs.Common.{Bool, List, None, Ok, Option, Some, ap, arith, false, if◌then◌else◌, is_some, length, map, nat_le, option_map}
use Rattle.std.proofs.Common.{refl, slice_get, slice_set, subst, sym, true, unwrap_or, ℕ, ◌<◌, ◌||◌, ◌∙◌, ◌≡◌, ◌≢◌}
use Rattle.std.proofs.lemmas.{Bool.Decides.nat_tests, List.map-set, Option.{get_or_from_slice_get, slice_get-map, slice_get_within}}

-- a reply is what it tells, with a plain token
pub told_plain : (r : Reply) (t n : ℕ) → plain_reply tagged_kind (told_by r t n) ≡ r
told_plain ReplyOf.Done t n = refl
told_plain ReplyOf.NotReady t n = refl
told_plain (ReplyOf.Token x) t n = refl
told_plain (ReplyOf.Control bytes) t n = refl

pub told_ready : (r : Reply) (t n : ℕ) → is_ready (told_by r t n) ≡ is_ready r
told_ready ReplyOf.Done t n = refl
told_ready ReplyOf.NotReady t n = refl
told_ready (ReplyOf.Token x) t n = refl
told_ready (ReplyOf.Control bytes) t n = refl

room_free : (n : ℕ) → n < trace_limit → nat_le trace_limit n ≡ false
room_free n room = grind (arith, nat_tests)

-- a node that did an act, as its place shows it
module _ (ticket : ℕ) (o : OwnAct) (n m : TracedRecord) (does : DoesAct ticket o n m) where
  pub has_acted : is_ready o.reply ≡ true
      → HasActed tagged_kind true o.number (seatless ticket) o.act (counted_shown n) o.reply (counted_shown m)
  has_acted ready = record {
    acted = sym (ap (λ made. reply_outcome made n.state) does.made);
    base = ap started_base does.start;
    trace = does.noted ∙ sym (ap (λ b. if b then noted true n.trace entry else n.trace) ready);
  }
    where
      entry : Entry
      entry = kept_entry tagged_kind (seatless ticket) o.act o.reply

  -- among all places
  module _ (from : List TracedRecord) (k : ℕ) (at : slice_get from k ≡ Some n) where
    seen : slice_get (map counted_shown from) k ≡ Some (counted_shown n)
    seen = slice_get-map counted_shown from k ∙ ap (option_map counted_shown) at

    below : act_limit (slice_get (states (map counted_shown from)) k) o.act ≡ None
    below = ap (λ s. act_limit s o.act) (shown_at (λ (s : Shown TaggedToken). s.state) counted_shown from k (Some n) at) ∙ does.below

    pub free : full_at (fulls (map counted_shown from)) k ≡ false
    free =
        ap (λ (f : Option Bool). unwrap_or f false) (shown_at (λ (s : Shown TaggedToken). s.full) counted_shown from k (Some n) at)
        ∙ room_free (length n.trace) does.room

    pub alone_acted : is_ready o.reply ≡ true
        → AloneDone tagged_kind true k o.number (seatless ticket) o.act (map counted_shown from) (Ok o.reply)
        (map counted_shown (slice_set from k m))
    alone_acted ready =
        subst (λ news. AloneDone tagged_kind true k o.number (seatless ticket) o.act (map counted_shown from) (Ok o.reply) news)
        (sym (map-set counted_shown from k m))
        (tried_done tagged_kind true o.number (seatless ticket) o.act (map counted_shown from) k (counted_shown n) (counted_shown m) seen
        below free o.reply (has_acted ready))

    -- and where it is one of two nodes that act
    ready_at : o.number ≡ 0 → is_some (nodes_act tagged_kind (states (map counted_shown from)) k 0 o.act) ≡ true
    ready_at first =
        let made : node_act tagged_kind 0 o.act n.state ≡ Some (o.reply, m.state) =
        subst (λ i. node_act tagged_kind i o.act n.state ≡ Some (o.reply, m.state)) first does.made in
        rw (shown_at (λ (s : Shown TaggedToken). s.state) counted_shown from k (Some n) at, made) refl

    pub acted_at : o.number ≡ 0 → is_ready o.reply ≡ true
        → HasActedAt tagged_kind true k 0 (seatless ticket) o.act (map counted_shown from) o.reply
        (map counted_shown (slice_set from k m))
    acted_at first ready =
        acts_at counted_shown from k n m (slice_get_within from k n at) tagged_kind true (seatless ticket) o.act o.reply (ready_at first)
        (subst (λ x. HasActed tagged_kind true 0 (seatless ticket) o.act (counted_shown x) o.reply (counted_shown m))
        (sym (get_or_from_slice_get from k n n at))
        (subst (λ i. HasActed tagged_kind true i (seatless ticket) o.act (counted_shown n) o.reply (counted_shown m)) first
        (has_acted ready)))

-- what crosses a wire between the nodes at two places, each of which did its act
pub both_acted : (ticket near far : ℕ) (joint : Joint) (r : ReplyOf TaggedToken) (n m x y : TracedRecord) (from : List TracedRecord)
    → near ≢ far → is_ready r ≡ true → slice_get from near ≡ Some n → slice_get from far ≡ Some x
    → DoesAct ticket (own 0 (near_act joint.crossing joint.near) r) n m → DoesAct ticket (own 0 (far_act joint.far r) ReplyOf.Done) x y
    → JointDone tagged_kind true near far joint (seatless ticket) (map counted_shown from) (Ok r)
    (map counted_shown (slice_set (slice_set from near m) far y))
both_acted ticket near far joint r n m x y from apart ready at far_at leads follows =
    let near_own : OwnAct = own 0 (near_act joint.crossing joint.near) r in
    let far_own : OwnAct = own 0 (far_act joint.far r) ReplyOf.Done in
    let mids : List TracedRecord = slice_set from near m in
    has_crossed tagged_kind true near far joint (seatless ticket) (map counted_shown from) (map counted_shown mids) r
    (acted_at ticket near_own n m leads from near at refl ready) ReplyOf.Done (map counted_shown (slice_set mids far y))
    (acted_at ticket far_own x y follows mids far (still_there from near far m x apart far_at) refl refl)
    (neither (full_at (fulls (map counted_shown from)) near) (full_at (fulls (map counted_shown from)) far)
    (free ticket near_own n m leads from near at) (free ticket far_own x y follows from far far_at))
  where
    neither : (b c : Bool) → b ≡ false → c ≡ false → (b || c) ≡ false
    neither b c first second = rw (first, second) refl

-- an event that can happen, where its acts were answered as is told
pub told_done : (plan : Plan) (d : Done) (acts : Acts TaggedToken) (olds news : List (Shown TaggedToken))
    → event_acts plan d.deed.event ≡ Some acts → event_fault plan d.deed.event ≡ None
    → ActsDone tagged_kind true plan (seatless d.ticket) acts olds (Ok (told d.deed)) news
    → EventDone tagged_kind true plan (seatless d.ticket) d.deed.event olds (Ok d.deed.reply) news
told_done plan d acts olds news asked possible done =
    subst (λ r. EventDone tagged_kind true plan (seatless d.ticket) d.deed.event olds (Ok r) news)
    (told_plain d.deed.reply d.deed.terminal d.deed.number)
    (event_done tagged_kind plan d.deed.event acts asked true (seatless d.ticket) possible olds (Ok (told d.deed)) news done)
