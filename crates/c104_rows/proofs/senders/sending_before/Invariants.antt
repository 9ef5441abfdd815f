use Rattle.{c104_rows.specs.Senders.{sending_before, size_at}, std.proofs.Common.{◌-◌, ◌≡◌}}

-- what is left tells it
abbrev pub invariant-loop-back : Rattle.c104_rows.proofs.senders.sending_before.Given.invariant-loop-back
invariant-loop-back l = sending_before (size_at l.net l.terminal) (l.count - l.back) l.left ≡ sending_before (size_at l.net l.terminal) l.count l.waiting
