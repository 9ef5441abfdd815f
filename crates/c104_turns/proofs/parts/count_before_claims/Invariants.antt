use Rattle.{c104_event.specs.declared.events.Event.Event, c104_turns.specs.Working.is_claim, std.proofs.Common.{false, get_or, ℕ, ◌<◌, ◌≡◌}}

-- the events so far: none of them is one
abbrev pub invariant-loop-number : Rattle.c104_turns.proofs.parts.count_before_claims.Given.invariant-loop-number
invariant-loop-number l = (k : ℕ) (d : Event) → k < l.number → is_claim (get_or l.events k d) ≡ false
