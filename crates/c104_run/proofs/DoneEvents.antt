-- What is due to an event says that it is done exactly where it would be done and no trace that it adds to is full.
use Rattle.{c104_event.specs.declared.{events.Event.Event, faults.EventFault.EventFault}, c104_run.proofs.RoundRuns.Applied}
use Rattle.c104_run.{proofs.StageSteps.would, specs.{NetRecords.is_done, Network.{Network, WouldBeDone, event_fault, event_limit}}}
use Rattle.c104_run.specs.Network.{network_apply, network_step, outcome_if_possible, outcome_if_ready, outcome_within_limit}
use Rattle.{c104_run.specs.{RecordedRuns.{DoneLaw, record_stage}, Stages.{stage_full, unless_full}}, c104_switch.specs.Actions.Reply}
use Rattle.{c104_token.specs.{Kinds.{Kind, plain_kind}, declared.tokens.Token.Token}, std.proofs.Common.{Bool, Err, None, Option, Some, ap}}
use Rattle.std.proofs.Common.{arith, false, if◌then◌else◌, is_some, refl, subst, sym, true, ◌≡◌}

-- an event that is done is one that would be
module _ {A : Type 0} (kind : Kind A) (net : Network A) (e : Event) where
  by_limit : event_fault net.plan e ≡ None → is_some (network_step kind net e) ≡ true → (r : Reply × Network A) (f : Option EventFault) → event_limit net e ≡ f → is_done (outcome_within_limit kind net f r).0 ≡ true → WouldBeDone kind net e
  by_limit possible ready r f within done = search arith

  by_step : event_fault net.plan e ≡ None → (made : Option (Reply × Network A)) → network_step kind net e ≡ made → is_done (outcome_if_ready kind net e made).0 ≡ true → WouldBeDone kind net e
  by_step possible None is done = absurd (let no : ⊥ = cc in no)
  by_step possible (Some r) is done = by_limit possible (ap is_some is) r (event_limit net e) refl done

  by_fault : (f : Option EventFault) → event_fault net.plan e ≡ f → is_done (outcome_if_possible kind net e f).0 ≡ true → WouldBeDone kind net e
  by_fault f possible done = search (arith, by_step)

  would_back : is_done (network_apply kind net e).0 ≡ true → WouldBeDone kind net e
  would_back done = by_fault (event_fault net.plan e) refl done

-- a full trace refuses what would be done
module _ (net : Network Token) (due : Applied (Network Token)) where
  full_refuses : (d : Bool) → is_done due.0 ≡ d → is_done (if d then (Err EventFault.TraceFull, net) else due).0 ≡ true → ⊥
  full_refuses d is done = search arith

  unless_done : (full : Bool) → is_done (unless_full full net due).0 ≡ true → (is_done due.0 ≡ true) × (full ≡ false)
  unless_done full done = search (arith, full_refuses)

  done_unless : (full : Bool) → full ≡ false → is_done due.0 ≡ true → is_done (unless_full full net due).0 ≡ true
  done_unless full is done = subst (λ b. is_done (unless_full b net due).0 ≡ true) (sym is) done

pub done_law : DoneLaw
unfolding DoneLaw
done_law r e =
    let due : Applied (Network Token) = network_apply plain_kind r.network e in
    let full : Bool = stage_full true (record_stage r) e in (
      λ done. (let both = unless_done r.network due full done in (would_back plain_kind r.network e both.0, both.1)),
      λ wanted. done_unless r.network due full wanted.1 (would plain_kind r.network e wanted.0),
    )
