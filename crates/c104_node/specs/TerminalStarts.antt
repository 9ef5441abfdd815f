-- Where terminals start: what is granted and credited where no token waits, as plain data, which is a
-- terminal over any kind of token.
use Rattle.c104_link.specs.{Buffers.{IsValidCap, start_incoming, start_outgoing}, declared.outgoing.TheConstants.CREDIT_LIMIT}
use Rattle.c104_node.specs.Terminals.{Terminal}
use Rattle.std.specs.Prelude.{[], ℕ, ◌≤◌}

-- a terminal where no token waits, and which has sent and received nothing: for how many tokens its input
-- buffer has room, how many of them are granted, and how many tokens may go out
pub record TerminalStart : Type 0 where
  pub cap : ℕ
  pub granted : ℕ
  pub credit : ℕ

-- a terminal keeps room for all that it has granted, and its credit is at most 64
pub record IsTerminalStart (t : TerminalStart) : Type 0 where
  pub cap : IsValidCap t.cap
  pub granted : t.granted ≤ t.cap
  pub credit : t.credit ≤ CREDIT_LIMIT

-- a terminal at first: nothing is granted, and there is no credit
abbrev pub new_terminal_start : ℕ → TerminalStart
new_terminal_start cap = record { cap = cap; granted = 0; credit = 0 }

-- a terminal at a start
abbrev pub start_terminal : {A : Type 0} → TerminalStart → Terminal A
start_terminal t = record {
  input = start_incoming t.cap t.granted;
  output = start_outgoing t.credit;
  sent = [];
  arrived = [];
}

-- where a terminal stands, but for its tokens and what it sent and received
abbrev pub terminal_start : {A : Type 0} → Terminal A → TerminalStart
terminal_start t = record { cap = t.input.cap; granted = t.input.granted; credit = t.output.credit }
