-- A held node after an act: it did what the track of its place tells.
use Rattle.{c104_event.specs.declared.events.Event.Event, c104_lean.{proofs.Draws.done_at, specs.Nodes.{AsksBoth, AsksNode, IsHeld}}}
use Rattle.c104_lean.specs.{Nodes.{alone_deed, both_deed}, OwnRuns.{DoesAct, DoesOwn, IsDoneHere, OwnAct, OwnRun, own, own_act, told}}
use Rattle.{c104_lean.specs.{OwnRuns.{told_by, told_number, told_terminal}, Seats.first_done, Shared.Before}, c104_node.specs.Acts.node_act}
use Rattle.c104_node.specs.{Acts.{plain_reply, reply_outcome}, Nodes.Node, PortActs.{Acts, IsAnswerOf, act_limit, far_act, near_act}}
use Rattle.c104_node.specs.{Tagged.{TaggedToken, tagged_kind}, TracedRecords.TracedRecord, Traces.{is_trace_full, kept_entry, seatless}}
use Rattle.c104_node.specs.{Traces.trace_limit, declared.{acts.{ActOf.ActOf, Entry.Entry}, crossings.{Crossing.Crossing, Joint.Joint}}}
use Rattle.{c104_plan.specs.{Plans.Plan, declared.ports.Port.Port}, c104_run.specs.EventActs.{event_acts, port_place}}
use Rattle.{c104_switch.specs.{Actions.is_ready, declared.actions.ReplyOf.ReplyOf}, c104_tickets.specs.Tickets.{Each, PassValue, TableId}}
use Rattle.{c104_tickets.specs.declared.views.{Deed.Deed, Done.Done, Track.Track}, c104_turns.specs.Calls.place_track}
use Rattle.std.proofs.Common.{Bool, List, None, Option, Some, [], ap, arith, false, is_some, length, nat_eq, refl, slice_get, subst, sym}
use Rattle.std.proofs.{Common.{true, ℕ, ◌++◌, ◌-◌, ◌<◌, ◌∙◌, ◌∷◌, ◌≡◌, ◌≢◌}, lemmas.Bool.Decides.nat_tests}

-- a node that goes on behind its part of what was done
more_done : (plan : Plan) (k : ℕ) (from mid to : TracedRecord) (ds : List Done) (d : Done) → OwnRun plan k from ds mid
    → DoesOwn plan k d mid to → OwnRun plan k from (ds ++ d ∷ []) to
more_done plan k from mid to [] d run does = (to, subst (λ n. DoesOwn plan k d n to) run does, refl)
more_done plan k from mid to (x ∷ ds) d run does = (run.0, run.1, more_done plan k run.0 mid to ds d run.2 does)

here_more : (plan : Plan) (done : List Done) (d : Done) → Each (IsDoneHere plan) done → IsDoneHere plan d
    → Each (IsDoneHere plan) (done ++ d ∷ [])
here_more plan [] d each here = (here, tt)
here_more plan (x ∷ done) d each here = (each.0, here_more plan done d each.1 here)

module _ (word_id : TableId) (before : Before) (place : ℕ) (n : TracedRecord) (pass : Option PassValue) (held : IsHeld word_id before place n pass) where
  pub held_grows : (m : TracedRecord) (after : PassValue) (d : Done) → after.word_id ≡ word_id
      → after.view.tracks ≡ place_track place (held.done ++ d ∷ []) ∷ [] → DoesOwn before.plan place d n m → IsDoneHere before.plan d
      → IsHeld word_id before place m (Some after)
  held_grows m after d word are does here = record {
    own = after;
    is = refl;
    word = word;
    done = held.done ++ d ∷ [];
    tracks = are;
    from = held.from;
    stood = held.stood;
    run = more_done before.plan place held.from n m held.done d held.run does;
    here = here_more before.plan held.done d held.here here;
  }

-- what a reply is told by, and back
pub told_back : (r : ReplyOf TaggedToken) → told_by (plain_reply tagged_kind r) (told_terminal r) (told_number r) ≡ r
told_back ReplyOf.Done = refl
told_back ReplyOf.NotReady = refl
told_back (ReplyOf.Token x) = refl
told_back (ReplyOf.Control bytes) = refl

ready_told : (r : ReplyOf TaggedToken) → (r ≡ ReplyOf.NotReady → ⊥) → is_ready (plain_reply tagged_kind r) ≡ true
ready_told ReplyOf.Done other = refl
ready_told ReplyOf.NotReady other = absurd (other refl)
ready_told (ReplyOf.Token x) other = refl
ready_told (ReplyOf.Control bytes) other = refl

-- an act that was answered with something was made
pub made_so : (o : Option (ReplyOf TaggedToken × Node TaggedToken)) (old new : Node TaggedToken) (r : ReplyOf TaggedToken)
    → ◌≡◌ {A = ReplyOf TaggedToken × Node TaggedToken} (r, new) (reply_outcome o old) → (r ≡ ReplyOf.NotReady → ⊥) → o ≡ Some (r, new)
made_so None old new r is other = absurd (other (ap (λ (z : ReplyOf TaggedToken × Node TaggedToken). z.0) is))
made_so (Some z) old new r is other = sym (ap Some is)

-- a node before and after an act, and when that is counted
pub record IsNoted (ticket number : ℕ) (a : ActOf TaggedToken) (r : ReplyOf TaggedToken) (n mid m : TracedRecord) : Type 0 where
  pub acted : ◌≡◌ {A = ReplyOf TaggedToken × Node TaggedToken} (r, mid.state) (reply_outcome (node_act tagged_kind number a n.state) n.state)
  pub some : r ≡ ReplyOf.NotReady → ⊥
  pub below : act_limit (Some n.state) a ≡ None
  pub room : length n.trace < trace_limit
  pub start : mid.start ≡ n.start
  pub trace : mid.trace ≡ n.trace
  pub noted : m ≡ record mid { trace = mid.trace ++ kept_entry tagged_kind (seatless ticket) a r ∷ [] }

pub does_act : (ticket number : ℕ) (a : ActOf TaggedToken) (r : ReplyOf TaggedToken) (n mid m : TracedRecord)
    → IsNoted ticket number a r n mid m → DoesAct ticket (own number a r) n m
does_act ticket number a r n mid m is = record {
  made = made_so (node_act tagged_kind number a n.state) n.state mid.state r is.acted is.some
      ∙ ap (λ (z : TracedRecord). Some (r, z.state)) (sym is.noted);
  below = is.below;
  room = is.room;
  start = ap (λ (z : TracedRecord). z.start) is.noted ∙ is.start;
  noted = ap (λ (z : TracedRecord). z.trace) is.noted ∙ ap (λ es. es ++ kept_entry tagged_kind (seatless ticket) a r ∷ []) is.trace;
}

-- what is counted, by an act that is this
pub noted_so : (ticket : ℕ) (a b : ActOf TaggedToken) (r : ReplyOf TaggedToken) (mid m : TracedRecord)
    → b ≡ a → m ≡ record mid { trace = mid.trace ++ kept_entry tagged_kind (seatless ticket) b r ∷ [] }
    → m ≡ record mid { trace = mid.trace ++ kept_entry tagged_kind (seatless ticket) a r ∷ [] }
noted_so ticket a b r mid m same is =
    is ∙ ap (λ (x : ActOf TaggedToken). record mid { trace = mid.trace ++ kept_entry tagged_kind (seatless ticket) x r ∷ [] }) same

-- an act that is ready was made
pub ready_made : (o : Option (ReplyOf TaggedToken × Node TaggedToken)) (old new : Node TaggedToken) (r : ReplyOf TaggedToken)
    → true ≡ is_some o → ◌≡◌ {A = ReplyOf TaggedToken × Node TaggedToken} (r, new) (reply_outcome o old) → o ≡ Some (r, new)
ready_made None old new r ready is = absurd (cc ready)
ready_made (Some z) old new r ready is = sym (ap Some is)

pub made_back : (o : Option (ReplyOf TaggedToken × Node TaggedToken)) (old new : Node TaggedToken) (r : ReplyOf TaggedToken)
    → o ≡ Some (r, new) → ◌≡◌ {A = ReplyOf TaggedToken × Node TaggedToken} (r, new) (reply_outcome o old)
made_back o old new r is = sym (ap (λ p. reply_outcome p old) is)

-- what crosses is answered with something, and no limit refuses it
pub answer_some : (crossing : Crossing) (r : ReplyOf TaggedToken) → IsAnswerOf crossing r → r ≡ ReplyOf.NotReady → ⊥
answer_some crossing r is same = grind arith

pub near_below : (n : Node TaggedToken) (crossing : Crossing) (p : Port) → act_limit (Some n) (near_act {A = TaggedToken} crossing p) ≡ None
near_below n crossing p = grind arith

pub far_below : (n : Node TaggedToken) (q : Port) (r : ReplyOf TaggedToken) → act_limit (Some n) (far_act q r) ≡ None
far_below n q r = grind arith

pub not_full : (trace : List Entry) → false ≡ is_trace_full trace → length trace < trace_limit
not_full trace free = grind (arith, nat_tests)

module _ (plan : Plan) (ticket s : ℕ) (e : Event) (r : ReplyOf TaggedToken) (some : r ≡ ReplyOf.NotReady → ⊥) where
  -- an act of one node
  module _ (place number : ℕ) (a : ActOf TaggedToken) (asked : AsksNode plan e place a) (deed : Deed) (is : deed ≡ alone_deed s place e r) where
    pub alone_here : IsDoneHere plan (done_at ticket deed)
    alone_here = subst (λ d. IsDoneHere plan (done_at ticket d)) (sym is) (record {
      acts = Acts.Alone place a;
      asked = asked.1;
      possible = asked.0;
      near = refl;
      far = refl;
      apart = tt;
      ready = ready_told r some;
    })

    pub alone_does : (n m : TracedRecord) → number ≡ place - length plan.switches → DoesAct ticket (own number a r) n m
        → DoesOwn plan place (done_at ticket deed) n m
    alone_does n m numbered does = subst (λ d. DoesOwn plan place (done_at ticket d) n m) (sym is) (record {
      acts = Acts.Alone place a;
      asked = asked.1;
      does = subst (λ t. DoesAct ticket (own (place - length plan.switches) a t) n m) (sym (told_back r))
          (subst (λ i. DoesAct ticket (own i a r) n m) numbered does);
    })

  -- what crosses a wire between two
  module _ (places : ℕ × ℕ) (joint : Joint) (asked : AsksBoth plan e joint places.0 places.1) (deed : Deed) (is : deed ≡ both_deed s places e r) where
    abbrev Crosses : Acts TaggedToken
    Crosses = Acts.Joint joint.near joint.far joint.crossing

    pub both_here : IsDoneHere plan (done_at ticket deed)
    both_here = subst (λ d. IsDoneHere plan (done_at ticket d)) (sym is) (record {
      acts = Crosses;
      asked = asked.1;
      possible = asked.0;
      near = ap Some asked.2;
      far = ap Some asked.3;
      apart = λ same. asked.4 (asked.2 ∙ same ∙ sym asked.3);
      ready = ready_told r some;
    })

    near_own : own_act plan places.0 Crosses r ≡ own 0 (near_act joint.crossing joint.near) r
    near_own = by (nat_eq places.0 (port_place plan joint.near)) refl
      where
        by : (b : Bool) → nat_eq places.0 (port_place plan joint.near) ≡ b → own_act plan places.0 Crosses r ≡ own 0 (near_act joint.crossing joint.near) r
        by true same = rw same refl
        by false same = absurd (let is : places.0 ≡ port_place plan joint.near = asked.2 in grind (arith, nat_tests))

    far_own : own_act plan places.1 Crosses r ≡ own 0 (far_act joint.far r) ReplyOf.Done
    far_own = by (nat_eq places.1 (port_place plan joint.near)) refl
      where
        by : (b : Bool) → nat_eq places.1 (port_place plan joint.near) ≡ b → own_act plan places.1 Crosses r ≡ own 0 (far_act joint.far r) ReplyOf.Done
        by true same = absurd (asked.4 (let is : places.1 ≡ port_place plan joint.near = grind (arith, nat_tests) in asked.2 ∙ sym is))
        by false same = rw same refl

    pub near_does : (n m : TracedRecord) → DoesAct ticket (own 0 (near_act joint.crossing joint.near) r) n m
        → DoesOwn plan places.0 (done_at ticket deed) n m
    near_does n m does = subst (λ d. DoesOwn plan places.0 (done_at ticket d) n m) (sym is) (record {
      acts = Crosses;
      asked = asked.1;
      does = subst (λ (t : ReplyOf TaggedToken). DoesAct ticket (own_act plan places.0 Crosses t) n m) (sym (told_back r))
          (subst (λ (o : OwnAct). DoesAct ticket o n m) (sym near_own) does);
    })

    pub far_does : (n m : TracedRecord) → DoesAct ticket (own 0 (far_act joint.far r) ReplyOf.Done) n m
        → DoesOwn plan places.1 (done_at ticket deed) n m
    far_does n m does = subst (λ d. DoesOwn plan places.1 (done_at ticket d) n m) (sym is) (record {
      acts = Crosses;
      asked = asked.1;
      does = subst (λ (t : ReplyOf TaggedToken). DoesAct ticket (own_act plan places.1 Crosses t) n m) (sym (told_back r))
          (subst (λ (o : OwnAct). DoesAct ticket o n m) (sym far_own) does);
    })

-- the track of a pass that grew, by what the node's type keeps
pub kept_track : (tracks more : List Track) (place : ℕ) (done : List Done) (d : Done) → tracks ≡ place_track place done ∷ []
    → more ≡ place_track place (first_done tracks ++ d ∷ []) ∷ [] → more ≡ place_track place (done ++ d ∷ []) ∷ []
kept_track tracks more place done d is grew = grew ∙ ap (λ ds. place_track place (ds ++ d ∷ []) ∷ []) (ap first_done is)
