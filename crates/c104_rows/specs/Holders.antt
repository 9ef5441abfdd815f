-- The packet that an input is at: by the first terminator of it or behind it, up to the terminal that sends it.
--     packet_at r x      the packet that input x is at
--     packet_out r p      the packet whose token goes out of a port next
pub use Rattle.c104_rows.specs.declared.holders.Trail.{Trail}
use Rattle.{c104_check.specs.{Walks.port_of, declared.ports.SwitchPort.SwitchPort}, c104_net.specs.TracedEnds.traced_end}
use Rattle.{c104_node.specs.{Tagged.{TaggedToken, tag, tagged_origin}, declared.origins.Origin.Origin}, c104_plan.specs.Wiring.peer}
use Rattle.{c104_plan.specs.declared.ports.Port.Port, c104_rows.specs.Senders.{Sending, sending_at}}
use Rattle.{c104_rows.specs.declared.holders.TheConstants.{BUFFER_LIMIT, MOST_INPUTS}, c104_run.specs.FinishedRecords.record_finish}
use Rattle.c104_run.specs.{NetRecords.NetRecord, NetViews.{network_input_token, network_link_view, network_output_token}}
use Rattle.{c104_switch.specs.declared.actions.LinkView.LinkView, c104_token.specs.{Kinds.plain_kind, Tokens.is_end}}
use Rattle.std.specs.{Option.{option_map, option_or}, Prelude.{None, Option, Some, suc, zero, ℕ, ◌+◌}}

-- the packet of the first terminator among tokens, from place k on
abbrev pub end_or : Option TaggedToken → Option Origin → Option Origin
end_or None rest = None
end_or (Some x) rest = option_or (tagged_origin (is_end x.token) x) rest

unfoldable pub first_end : (ℕ → Option TaggedToken) → ℕ → ℕ → Option Origin
first_end tokens zero k = None
first_end tokens (suc n) k = end_or (tokens k) (first_end tokens n (k + 1))

-- the same of what came in at a port, and of what waits at an output of a switch
abbrev pub input_tokens : NetRecord → Port → ℕ → Option TaggedToken
input_tokens r p k = option_map tag (network_input_token (traced_end (record_finish r)) p k)

abbrev pub input_end : NetRecord → Port → Option Origin
input_end r p = first_end (input_tokens r p) BUFFER_LIMIT 0

abbrev pub output_tokens : NetRecord → ℕ → ℕ → ℕ → Option TaggedToken
output_tokens r s l k = option_map tag (network_output_token (traced_end (record_finish r)) s l k)

abbrev pub output_end : NetRecord → ℕ → ℕ → Option Origin
output_end r s l = first_end (output_tokens r s l) BUFFER_LIMIT 0

-- the input to which an output leads back: the one that streams to it
abbrev pub owner_trail : ℕ → Option ℕ → Trail
owner_trail s None = Trail.Lost
owner_trail s (Some i) = Trail.On (port_of s i)

abbrev pub view_trail : ℕ → Option LinkView → Trail
view_trail s None = Trail.Lost
view_trail s (Some view) = owner_trail s view.owner

-- the packet whose terminator is there, or else where to look on
abbrev pub found_or : Option Origin → Trail → Trail
found_or None rest = rest
found_or (Some origin) rest = Trail.Found origin

-- the packet that a terminal sends
abbrev pub sent_trail : ℕ → Option Sending → Trail
sent_trail t None = Trail.Lost
sent_trail t (Some it) = Trail.Found (record { terminal = t; number = it.number })

-- the same behind an input, by the port to which it is wired
abbrev pub trail_behind : NetRecord → Option Port → Trail
trail_behind r None = Trail.Lost
trail_behind r (Some (Port.Switch s l)) =
    found_or (output_end r s l) (view_trail s (network_link_view plain_kind r.network s l))
trail_behind r (Some (Port.Terminal t)) = sent_trail t (sending_at r t)

-- where a packet's end is, from an input on
abbrev pub trail_of : NetRecord → SwitchPort → Trail
trail_of r x =
    found_or (input_end r (Port.Switch x.switch x.link)) (trail_behind r (peer r.network.plan (Port.Switch x.switch x.link)))

abbrev pub after_trail : Trail → (SwitchPort → Option Origin) → Option Origin
after_trail (Trail.Found origin) rest = Some origin
after_trail Trail.Lost rest = None
after_trail (Trail.On x) rest = rest x

-- the packet that an input is at, if it is found over this many inputs
unfoldable pub packet_from : NetRecord → ℕ → SwitchPort → Option Origin
packet_from r zero x = None
packet_from r (suc n) x = after_trail (trail_of r x) (packet_from r n)

abbrev pub packet_at : NetRecord → SwitchPort → Option Origin
packet_at r x = packet_from r MOST_INPUTS x

-- the packet whose token goes out of a port next, or would
abbrev pub packet_out : NetRecord → Port → Option Origin
packet_out r p = after_trail (trail_behind r (Some p)) (packet_at r)
