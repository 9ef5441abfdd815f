use Rattle.c104_run.{proofs.{DoneEvents.done_law, MeteredPlaces.meters_on, RecordedPlaces.{GoesOn, goes_on}}, specs.RecordedNets.reading}
use Rattle.std.proofs.Common.{sym}
use Rattle.c104_run.proofs.recorded_net.RecordedNet.apply_metered.Given
use Rattle.c104_run.proofs.recorded_net.RecordedNet.apply_metered.Goals as goal

-- the run goes on by this event, where it was done
on : (g : Given.Over) (c : goal.After-do_event g) → GoesOn (reading g.T.TokenKind.kind g.P.Place.shown g.P.RecordedPlace.plain g.P.RecordedPlace.begun_at) c.self.inside.engine.plan c.do_event.new.self.plan c.self.inside.engine c.do_event.new.self c.args.event.now c.do_event.result
on g c = goes_on _ g.P.Place.keeps g.met.P.RecordedPlace.keeps_record g.met.P.Place.limited _ _ c.do_event.ensures.kept c.self.invariant.0 _ _ c.do_event.ensures.done c.do_event.ensures.count c.do_event.ensures.plan

pub invariant_of-self : goal.invariant_of-self
invariant_of-self g c = ((on g c).kept, rw c.do_event.ensures.plan c.self.invariant.1)

pub returns-clause-recorded : goal.returns-clause-recorded
returns-clause-recorded g c = rw (sym c.self.view_is) (on g c).records

pub returns-clause-due : goal.returns-clause-due
returns-clause-due g c = rw (sym c.self.view_is) (on g c).answers

pub returns-clause-done : goal.returns-clause-done
returns-clause-done g c = done_law

pub returns-clause-metered : goal.returns-clause-metered
returns-clause-metered g c =
    rw (sym c.self.view_is)
    (meters_on (reading g.T.TokenKind.kind g.P.Place.shown g.P.RecordedPlace.plain g.P.RecordedPlace.begun_at) g.P.Place.keeps g.met.P.RecordedPlace.keeps_record g.met.P.Place.limited g.M.Meter.sees _ _ c.do_event.ensures.kept _ _ c.self.invariant.0 _ _ c.do_event.ensures.done c.do_event.ensures.count c.do_event.ensures.metered c.do_event.ensures.plan)
