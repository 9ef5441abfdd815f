use Rattle.{c104_event.specs.declared.events.Event.Event, c104_run.{proofs.WordedRounds.zero_rounds, specs.EventRuns.EventsEnd}}
use Rattle.{c104_run.specs.RecordedRuns.record_apply, std.proofs.Common.{List, subst}}

pub returns-clause-plain : Rattle.c104_run.proofs.recorded_net.RecordedNet.rounds.Goals.returns-clause-plain
returns-clause-plain g c = subst (λ (es : List Event). EventsEnd record_apply c.args.self.now es c.rounds_watched.result c.rounds_watched.new.self) (zero_rounds c.args.self.now.network.plan c.args.count) c.rounds_watched.ensures
