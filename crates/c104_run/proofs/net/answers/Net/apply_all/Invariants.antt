use Rattle.{c104_run.specs.{EventRuns.AnswersAll, RecordedRuns.record_apply}, std.proofs.Common.{length, take, vec_len, ◌≡◌, ◌≤◌}}
use Rattle.std.specs.Vec.{vec_capacity}

-- the events so far are answered, and there is room for the other answers
abbrev pub invariant-loop-event : Rattle.c104_run.proofs.net.answers.Net.apply_all.Given.invariant-loop-event
invariant-loop-event l = record {
  run : AnswersAll record_apply l.initial.self (take l.event-index l.events) l.answers.items l.self;
  count : vec_len l.answers ≡ l.event-index;
  room : length l.events ≤ vec_capacity l.answers;
}
