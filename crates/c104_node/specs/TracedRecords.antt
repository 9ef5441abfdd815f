-- A node of tagged tokens with its record.
use Rattle.c104_node.specs.{Acts.IsWithinLimits, MappedNodes.map_node, Nodes.Node, Places.{Shown, started_base}, Starts.start_of}
use Rattle.c104_node.specs.{Tagged.TaggedToken, Traces.{is_trace_full, trace_limit}, declared.acts.Entry.Entry}
use Rattle.{c104_node.specs.declared.starts.NodeStart.NodeStart, c104_token.specs.declared.tokens.Token.Token}
use Rattle.std.specs.Prelude.{All, List, [], length, ℕ, ◌≡◌, ◌≤◌}

-- a node as it is seen: its state, where it started, and what it did since
pub record TracedRecord : Type 0 where
  pub state : Node TaggedToken
  pub start : NodeStart
  pub trace : List Entry

abbrev pub traced_state : TracedRecord → Node TaggedToken
traced_state n = n.state

abbrev pub traced_start : TracedRecord → NodeStart
traced_start n = n.start

abbrev pub traced_trace : TracedRecord → List Entry
traced_trace n = n.trace

-- an entry within the limits of a packet
abbrev pub IsFit : Entry → Type 0
IsFit e = IsWithinLimits e.act

-- what the type of such a node keeps, which counts its entries: the count is theirs, no more than there may be, and
-- each is within the limits of a packet
pub record IsCounted (entries : ℕ) (n : TracedRecord) : Type 0 where
  pub counted : entries ≡ length n.trace
  pub within : length n.trace ≤ trace_limit
  pub fit : All IsFit n.trace

-- a node at its start, of which nothing is kept yet
abbrev pub first_traced : Node TaggedToken → TracedRecord
first_traced n = record { state = n; start = start_of n; trace = [] }

-- the same node over plain tokens
abbrev pub plain_node : Node TaggedToken → Node Token
plain_node n = map_node (λ (x : TaggedToken). x.token) n

-- what is shown of a node of tagged tokens that counts its entries
abbrev pub counted_shown : TracedRecord → Shown TaggedToken
counted_shown n = record {
  state = n.state;
  base = started_base n.start;
  trace = n.trace;
  full = is_trace_full n.trace;
}
