-- An event of a metered stage: what it answers, and what a meter is told of it.
use Rattle.{c104_event.specs.declared.{events.Event.Event, faults.EventFault.EventFault}, c104_node.specs.{Acts.plain_reply, Places.Shown}}
use Rattle.c104_node.specs.{Places.{fulls, is_kept_full, states, traces}, PortActs.Acts, Traces.seatless, declared.stamps.Stamp.Stamp}
use Rattle.{c104_plan.specs.Plans.Plan, c104_run.proofs.{PartRuns.{part_after, part_empty, part_of_reply}, RoundRuns.ends_keep}}
use Rattle.c104_run.proofs.{RoundRuns.{ends_seen, fault_ends}, StageSteps.{stage_done, stage_undone, unready_stage}}
use Rattle.c104_run.specs.{EventActs.event_acts, EventRuns.{Answers, EventsEnd}, EventsAtPlaces.{ActsDone, EventDone, told_answer}}
use Rattle.c104_run.specs.Meters.{Metered, Sees, meter_after, meter_if, meter_told, metered_apply, metered_of, own_reply}
use Rattle.c104_run.specs.{NetRecords.{is_done, ticket_after}, Network.{Network, network_of}, RoundParts.{AreIdle, EachIdle, PartEnds}}
use Rattle.{c104_run.specs.{RoundParts.done_answer, Stages.stage_apply}, c104_switch.specs.Actions.{Reply, is_ready}}
use Rattle.{c104_switch.specs.declared.actions.ReplyOf.ReplyOf, c104_token.specs.Kinds.Kind, std.proofs.Common.{Bool, Err, List, Ok}}
use Rattle.std.proofs.Common.{Result, Some, [], arith, false, inl, map, refl, sym, ℕ, ◌∷◌, ◌≡◌}

-- what a meter is told of acts is what it is told of their event
module _ {A M : Type 0} (kind : Kind A) (sees : Sees M A) where
  -- of what isn't ready it is told nothing
  unready_meter : (m : M) (e : Event) → meter_after sees m e ReplyOf.NotReady ≡ m
  unready_meter m e = search arith

  ready_meter : (m : M) (e : Event) (r : ReplyOf A) → meter_after sees m e r ≡ meter_if sees (is_ready (plain_reply kind r)) m e r
  ready_meter m e r = search (arith, unready_meter)

  -- where it is told nothing of the event, whatever is answered
  pub silent_meter : (m : M) (e : Event) → ((r : ReplyOf A) → meter_after sees m e r ≡ m) → (told : Result (ReplyOf A) EventFault) → m ≡ meter_told sees m e told
  silent_meter m e none told = search arith

  module _ (keeps : Bool) (plan : Plan) (e : Event) (acts : Acts A) (known : event_acts plan e ≡ Some acts) (stamp : Stamp) (olds news : List (Shown A)) where
    abbrev net : Network A
    net = network_of plan (states olds)

    pub told_meter : (m : M) (told : Result (ReplyOf A) EventFault) → ActsDone kind keeps plan stamp acts olds told news → meter_told sees m e told ≡ meter_if sees (is_done (told_answer kind told)) m e (own_reply kind net e)
    told_meter m told done = search (arith, ready_meter, unready_meter)

module _ {A M : Type 0} (kind : Kind A) (keeps : Bool) (sees : Sees M A) where
  module _ (x y : Metered A M) (e : Event) where
    -- a meter is told of an event that was answered so
    abbrev IsTold : Result Reply EventFault → Type 0
    IsTold answer = y.meter ≡ meter_if sees (is_done answer) x.meter e (own_reply kind x.stage.network e)

    -- of one that wasn't done it is told nothing
    undone_metered : (answer : Result Reply EventFault) → IsTold answer → is_done answer ≡ false → y.stage ≡ x.stage → y ≡ x
    undone_metered answer told undone same = search arith

    metered_answers : (answer : Result Reply EventFault) → IsTold answer → Answers (stage_apply kind keeps) x.stage e answer y.stage → Answers (metered_apply kind keeps sees) x e answer y
    metered_answers answer told answers = search (arith, undone_metered)

    metered_part : (answer : Result Reply EventFault) → IsTold answer → (is_done answer ≡ false → y.stage ≡ x.stage) → Answers (stage_apply kind keeps) x.stage e answer y.stage → PartEnds (metered_apply kind keeps sees) x (e ∷ []) (done_answer answer) y
    metered_part answer told undone answers = search (arith, part_of_reply, undone_metered, metered_answers, fault_ends)

  -- an event at places, as a step of the metered stage that they show
  module _ (plan : Plan) (olds news : List (Shown A)) (count counted : ℕ) (m n : M) (limited : fulls olds ≡ map (is_kept_full keeps) (traces olds)) (e : Event) (answer : Result Reply EventFault)
      (done : EventDone kind keeps plan (seatless count) e olds answer news) (counts : counted ≡ ticket_after count (is_done answer)) (told : n ≡ meter_if sees (is_done answer) m e (own_reply kind (network_of plan (states olds)) e)) where
    pub event_metered : Answers (metered_apply kind keeps sees) (metered_of plan olds count m) e answer (metered_of plan news counted n)
    event_metered = metered_answers (metered_of plan olds count m) (metered_of plan news counted n) e answer told (stage_done kind keeps plan olds news count counted limited e answer done counts)

    pub part_done : PartEnds (metered_apply kind keeps sees) (metered_of plan olds count m) (e ∷ []) (done_answer answer) (metered_of plan news counted n)
    part_done =
        metered_part (metered_of plan olds count m) (metered_of plan news counted n) e answer told (stage_undone kind keeps plan olds news count counted limited e answer done counts)
        (stage_done kind keeps plan olds news count counted limited e answer done counts)

  -- events that aren't ready
  pub idle_part : (x : Metered A M) (events : List Event) → AreIdle kind x.stage.network events → PartEnds (metered_apply kind keeps sees) x events (Ok false) x
  idle_part x events idle = by_each events idle.each
    where
      by_each : (events : List Event) → EachIdle kind x.stage.network events → PartEnds (metered_apply kind keeps sees) x events (Ok false) x
      by_each [] each = part_empty (metered_apply kind keeps sees) x
      by_each (e ∷ events) each =
          part_after (metered_apply kind keeps sees) x x x (e ∷ []) events false false
          (metered_part x x e (Ok ReplyOf.NotReady) refl (λ none. refl) (unready_stage kind keeps x.stage e each.0)) (by_each events each.1)

  -- without its meter a run is one of the stages
  pub stage_ends : (x y : Metered A M) (events : List Event) (result : Result (Unit {0}) EventFault) → EventsEnd (metered_apply kind keeps sees) x events result y → EventsEnd (stage_apply kind keeps) x.stage events result y.stage
  stage_ends x y events result ends = ends_seen (metered_apply kind keeps sees) (stage_apply kind keeps) (λ z. z.stage) (λ z e. refl) x y events result ends

  -- what no act changes stays
  pub ends_bases : (x y : Metered A M) (events : List Event) (result : Result (Unit {0}) EventFault) → EventsEnd (metered_apply kind keeps sees) x events result y → y.stage.bases ≡ x.stage.bases
  ends_bases x y events result ends = ends_keep (metered_apply kind keeps sees) (λ z. z.stage.bases ≡ x.stage.bases) (λ z e same. same) x y events result refl ends

  pub part_bases : (x y : Metered A M) (events : List Event) (result : Result Bool EventFault) → PartEnds (metered_apply kind keeps sees) x events result y → y.stage.bases ≡ x.stage.bases
  part_bases x y events (Ok changed) part = ends_bases x y events (Ok tt) (inl (sym part.ends.0))
  part_bases x y events (Err f) part = ends_bases x y events (Err f) part.ends
