-- A node with its record: the size of its buffers, its wired links, where it started, and the entries of what it did
-- since. Its type keeps that these are a run from its start to its state, over wired links alone and within all limits.
use Rattle.{c104_crossbar.specs.Groups.has_bit, c104_event.specs.declared.faults.EventFault.EventFault, c104_link.specs.Steps.◌>>=◌}
use Rattle.c104_node.specs.{ActLinks.on_links, Acts.{IsWithinLimits, node_act}, Nodes.Node, Places.Shown, PortActs.{act_limit, far_act}}
use Rattle.c104_node.specs.{PortActs.near_act, SpareRooms.{IsEnough, SpareRoom}, Starts.start_node, Traces.{entry_of, is_trace_full}}
use Rattle.c104_node.specs.{Traces.trace_limit, Views.node_next_token, declared.{acts.{ActOf.ActOf, Entry.Entry}, crossings.Joint.Joint}}
use Rattle.c104_node.specs.declared.{stamps.Stamp.Stamp, starts.NodeStart.NodeStart}
use Rattle.{c104_regs.specs.declared.registers.TheConstants.LINKS, c104_switch.specs.Actions.Reply}
use Rattle.{c104_switch.specs.declared.link_start.LinkStart.LinkStart, c104_token.specs.{Kinds.plain_kind, declared.tokens.Token.Token}}
use Rattle.std.specs.Prelude.{All, Bool, List, None, Option, Some, [], false, if◌then◌else◌, length, nat_lt, true, ℕ, ◌&&◌, ◌++◌, ◌<◌, ◌∷◌}
use Rattle.std.specs.Prelude.{◌≡◌, ◌≤◌}

-- a node as it is seen: the size of its buffers, the set of its wired links (a terminal's one link is 0), its state,
-- where it started, and what it did since
pub record NodeRecord : Type 0 where
  pub cap : ℕ
  pub wired : ℕ
  pub state : Node Token
  pub start : NodeStart
  pub trace : List Entry

-- whether a link is in a set of a switch's links
abbrev pub has_link : ℕ → ℕ → Bool
has_link set l = nat_lt l LINKS && has_bit set l

-- a node may do an act now: it is within the limits of a packet, over a wired link, and passes no limit of a list
pub record MayAct (wired : ℕ) (n : Node Token) (a : ActOf Token) : Type 0 where
  pub short : IsWithinLimits a
  pub linked : on_links (has_link wired) a ≡ true
  pub below : act_limit (Some n) a ≡ None

-- a run of one node from a state to a state, in which it might do each act, was ready for it and answered as was due.
-- Plain tokens don't tell a terminal's number.
abbrev pub IsNodeRun : ℕ → Node Token → List Entry → Node Token → Type 0
IsNodeRun wired from [] to = to ≡ from
IsNodeRun wired from (e ∷ entries) to =
    (mid : Node Token)
    × MayAct wired from e.act
    × (node_act plain_kind 0 e.act from ≡ Some (e.reply, mid))
    × IsNodeRun wired mid entries to

-- the buffers of a node that starts so are of this size
abbrev pub HasCap : ℕ → NodeStart → Type 0
HasCap cap (NodeStart.Switch s) = All (λ (l : LinkStart). l.cap ≡ cap) s.links
HasCap cap (NodeStart.Terminal t) = t.cap ≡ cap

-- what the type of a node keeps
pub record IsRecorded (n : NodeRecord) : Type 0 where
  pub sized : HasCap n.cap n.start
  pub run : IsNodeRun n.wired (start_node n.start) n.trace n.state
  pub within : length n.trace ≤ trace_limit

-- what an act of a node answers and leaves, where it is ready: it goes over no link without a wire
abbrev pub recorded_step : NodeRecord → ActOf Token → Option (Reply × Node Token)
recorded_step n a = if on_links (has_link n.wired) a then node_act plain_kind 0 a n.state else None

-- the token that would go out next over a link, if one can
abbrev pub recorded_token : NodeRecord → ℕ → Option Token
recorded_token n l = if has_link n.wired l then node_next_token l n.state else None

-- whether no further entry may be kept
abbrev pub is_full : NodeRecord → Bool
is_full n = is_trace_full n.trace

-- a fault of a list, or that the trace is full, if either is
abbrev pub fault_first : Option EventFault → Bool → Option EventFault
fault_first (Some f) full = Some f
fault_first None true = Some EventFault.TraceFull
fault_first None false = None

-- why a node can't do an act that it is ready for: a list of a terminal, or its trace, would pass its limit
abbrev pub recorded_limit : NodeRecord → ActOf Token → Option EventFault
recorded_limit n a = fault_first (act_limit (Some n.state) a) (is_full n)

-- a node after an act, in an event of this stamp, that was answered so and left this state
abbrev pub after_act : NodeRecord → Stamp → ActOf Token → Reply → Node Token → NodeRecord
after_act n stamp a r state = record n { state = state; trace = n.trace ++ entry_of stamp a r ∷ [] }

-- memory of a node: for how many further entries there is room, and what is set aside for its lists
pub record NodeRoom : Type 0 where
  pub entries : ℕ
  pub spare : SpareRoom

-- a node can do an act and keep its entry without memory
pub record HasRoomFor (room : NodeRoom) (n : Node Token) (a : ActOf Token) : Type 0 where
  pub entry : 0 < room.entries
  pub enough : IsEnough plain_kind room.spare n a

-- what a node shows as a place of a network
abbrev pub node_shown : NodeRecord × NodeRoom → Shown Token
node_shown n = record {
  state = n.0.state;
  base = record { start = Some n.0.start; wired = Some (has_link n.0.wired) };
  trace = n.0.trace;
  full = is_full n.0;
}

-- what is seen of a node, beside its memory
abbrev pub node_state : NodeRecord × NodeRoom → Node Token
node_state n = n.0.state

abbrev pub node_start : NodeRecord × NodeRoom → NodeStart
node_start n = n.0.start

abbrev pub node_trace : NodeRecord × NodeRoom → List Entry
node_trace n = n.0.trace

-- two nodes after something crossed the wire between them
pub record Crossed : Type 0 where
  pub told : Reply
  pub near : Node Token
  pub far : Node Token

abbrev pub crossed : Reply → Node Token → Node Token → Crossed
crossed r n m = record { told = r; near = n; far = m }

-- what crosses a wire between two nodes, where both are ready
abbrev pub pair_step : Joint → NodeRecord → NodeRecord → Option Crossed
pair_step joint near far =
    recorded_step near (near_act joint.crossing joint.near) >>= (λ r.
    recorded_step far (far_act joint.far r.0) >>= (λ s. Some (crossed r.0 r.1 s.1)))
