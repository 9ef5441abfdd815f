use Rattle.{c104_event.specs.declared.events.Event.Event, c104_turns.specs.Working.is_at_home, std.proofs.Common.{false, get_or, ℕ, ◌<◌}}
use Rattle.std.proofs.Common.{◌≡◌}

-- the events so far: none of them is one
abbrev pub invariant-loop-number : Rattle.c104_turns.proofs.parts.count_crossings.Given.invariant-loop-number
invariant-loop-number l = (k : ℕ) (d : Event) → k < l.number → is_at_home (get_or l.events k d) ≡ false
