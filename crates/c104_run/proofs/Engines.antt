-- An engine lends its places and puts them back.
use Rattle.{c104_event.specs.declared.faults.EventFault.EventFault, c104_link.specs.Steps.◌>>=◌, c104_node.proofs.JointEnds.none_crosses}
use Rattle.c104_node.specs.{Acts.nodes_act, PlaceActs.{AloneDone, JointDone}, Places.{Shown, bases, states}, PortActs.{Acts, near_act}}
use Rattle.c104_node.specs.{Traces.seatless, declared.{acts.ActOf.ActOf, crossings.Joint.Joint, stamps.Stamp.Stamp}}
use Rattle.{c104_plan.specs.Plans.Plan, c104_run.specs.{AskedActs.{AreEnds, acts_asked}, Engines.{EngineView, IsEngine, engine_of}}}
use Rattle.c104_run.specs.{EventsAtPlaces.ActsDone, LivePlaces.AreLive, declared.asked.Asked.Asked}
use Rattle.{c104_switch.specs.declared.actions.ReplyOf.ReplyOf, c104_token.specs.Kinds.Kind, std.proofs.Common.{Bool, List, None, Ok}}
use Rattle.std.proofs.Common.{Option, Result, arith, false, is_some, length, map, subst, sym, ℕ, ◌-◌, ◌≡◌}

-- what is so of places that were lent and of those that came of them is so of those that it had and has
pub put_back : {P : Type 0} (X : List P → List P → Type 0) (items lent new put : List P) → lent ≡ items → put ≡ new → X lent new → X items put
put_back X items lent new put lent_is put_is x = subst (λ ps. X ps put) lent_is (subst (λ ps. X lent ps) (sym put_is) x)

-- what every engine keeps it keeps, if the places show the same wires, and the set has those at which something may begin
pub acted_kept : {A P : Type 0} (kind : Kind A) (shown : P → Shown A) (plan : Plan) (items lent new put : List P) → lent ≡ items → put ≡ new → (blocks more : List ℕ) (count counted : ℕ) → bases (map shown new) ≡ bases (map shown lent) →
    (AreLive kind plan blocks (states (map shown lent)) → AreLive kind plan more (states (map shown new))) → IsEngine kind shown blocks (engine_of plan items count) → IsEngine kind shown more (engine_of plan put counted)
acted_kept kind shown plan items lent new put lent_is put_is blocks more count counted same lives was = search (arith, put_back)

-- an engine before and after its places did some acts
pub record HasDone {A P : Type 0} (kind : Kind A) (keeps : Bool) (shown : P → Shown A) (acts : Acts A) (old : EngineView P) (answer : Result (ReplyOf A) EventFault) (new : EngineView P) : Type 0 where
  pub plan : new.plan ≡ old.plan
  pub count : new.count ≡ old.count
  pub done : ActsDone kind keeps old.plan (seatless old.count) acts (map shown old.places) answer (map shown new.places)

none_on : {X Y : Type 0} (made : Option X) (f : X → Option Y) → is_some made ≡ false → (made >>= f) ≡ None
none_on made f is = search arith

-- where the node at the near end isn't ready, nothing crosses
pub joint_unready : {A : Type 0} (kind : Kind A) (keeps : Bool) (near far : ℕ) (joint : Joint) (stamp : Stamp) (olds : List (Shown A)) → is_some (nodes_act kind (states olds) near 0 (near_act joint.crossing joint.near)) ≡ false →
    JointDone kind keeps near far joint stamp olds (Ok ReplyOf.NotReady) olds
joint_unready kind keeps near far joint stamp olds unready = none_crosses kind keeps near far joint stamp olds (none_on (nodes_act kind (states olds) near 0 (near_act joint.crossing joint.near)) _ unready)

module _ {A P : Type 0} (kind : Kind A) (keeps : Bool) (shown : P → Shown A) (plan : Plan) (count : ℕ) (items lent new put : List P) (lent_is : lent ≡ items) (put_is : put ≡ new) (answer : Result (ReplyOf A) EventFault) where
  abbrev Done : Acts A → Type 0
  Done acts = HasDone kind keeps shown acts (engine_of plan items count) answer (engine_of plan put count)

  has_done : (acts : Acts A) → ActsDone kind keeps plan (seatless count) acts (map shown lent) answer (map shown new) → Done acts
  has_done acts done = search (arith, plan, count, put_back)

  pub alone_done : (switches : ℕ) → switches ≡ length plan.switches → (k : ℕ) (a : ActOf A) → AloneDone kind keeps k (k - switches) (seatless count) a (map shown lent) answer (map shown new) → Done (Acts.Alone k a)
  alone_done switches many k a done = has_done (Acts.Alone k a) (subst (λ (n : ℕ). AloneDone kind keeps k (k - n) (seatless count) a (map shown lent) answer (map shown new)) many done)

  pub joint_done : (near far : ℕ) (joint : Joint) → AreEnds {A = A} plan (Asked.Joint near far joint) → JointDone kind keeps near far joint (seatless count) (map shown lent) answer (map shown new) → Done (acts_asked {A = A} (Asked.Joint near far joint))
  joint_done near far joint ends done = search (arith, has_done, plan, count)
