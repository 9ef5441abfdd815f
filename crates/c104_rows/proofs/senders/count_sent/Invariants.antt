use Rattle.{c104_rows.specs.{Senders.{count_from, size_at}, declared.senders.TheConstants.SENT_LIMIT}, std.proofs.Common.{◌-◌, ◌≡◌}}

-- what is left tells it
abbrev pub invariant-loop-number : Rattle.c104_rows.proofs.senders.count_sent.Given.invariant-loop-number
invariant-loop-number l = count_from (size_at l.net l.terminal) (SENT_LIMIT - l.number) l.number ≡ count_from (size_at l.net l.terminal) SENT_LIMIT 0
