use Rattle.{c104_event.specs.declared.events.Event.Event, c104_lean.proofs.SeatWork.{called_on, event_called}, std.proofs.Common.refl}
use Rattle.std.proofs.Common.{◌∙◌, ◌≡◌}

pub loop-time-preserved : Rattle.c104_lean.proofs.doing.cross_often.Goals.loop-time-preserved
loop-time-preserved g c = (
  called_on (λ (e : Event). e ≡ c.args.event.now) _ _ _ c.loop-time.invariant.0
      (event_called (λ (e : Event). e ≡ c.args.event.now) _ _ c.args.event.now _ refl c.do_both.ensures.follows.grew),
  c.do_both.ensures.places.0 ∙ c.loop-time.invariant.1,
  c.do_both.ensures.places.1 ∙ c.loop-time.invariant.2,
)
