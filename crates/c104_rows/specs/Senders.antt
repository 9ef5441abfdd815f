-- The packet that a terminal sends: the one in which the token stands that goes out next.
--     sending_at r t      the packet's number, and how many of its tokens have gone out
pub use Rattle.c104_rows.specs.declared.senders.{Fit.Fit, Sending.Sending}
use Rattle.{c104_node.specs.declared.terminal.views.TerminalView.TerminalView, c104_rows.specs.declared.senders.TheConstants.SENT_LIMIT}
use Rattle.c104_run.specs.{NetRecords.NetRecord, NetViews.{network_sent_packet, network_terminal_view}}
use Rattle.c104_token.specs.declared.packets.Packet.{Packet}
use Rattle.std.specs.{Option.option_map, Prelude.{None, Option, Some, if◌then◌else◌, length, nat_le, suc, zero, ℕ, ◌+◌, ◌-◌, ◌==◌}}

-- how many tokens a packet has, with its terminator
abbrev pub packet_size : Packet → ℕ
packet_size p = length p.bytes + 1

-- the same of the packet of this number that a terminal sent, if there is one
abbrev pub size_at : NetRecord → ℕ → ℕ → Option ℕ
size_at r t n = option_map packet_size (network_sent_packet r.network t n)

-- how many packets there are, by their sizes: the first number of none from n on, or as many more as are looked at
abbrev pub counted : Option ℕ → ℕ → ℕ → ℕ
counted None n rest = n
counted (Some size) n rest = rest

unfoldable pub count_from : (ℕ → Option ℕ) → ℕ → ℕ → ℕ
count_from sizes zero n = n
count_from sizes (suc more) n = counted (sizes n) n (count_from sizes more (n + 1))

-- whether the first of the tokens that wait is one of a packet of this size, if this many wait from it on: then how many of
-- its tokens have gone out; or else how many wait of the packets before it
abbrev pub fit_of : Option ℕ → ℕ → Fit
fit_of None left = Fit.Nowhere
fit_of (Some size) left = if nat_le left size then Fit.Here (size - left) else Fit.Before (left - size)

abbrev pub after_fit : Fit → ℕ → (ℕ → Option Sending) → Option Sending
after_fit Fit.Nowhere n before = None
after_fit (Fit.Here place) n before = Some (record { number = n; place = place })
after_fit (Fit.Before left) n before = before left

-- the packet in which the first of the tokens stands that wait of the packets below a number
abbrev pub sending_before : (ℕ → Option ℕ) → ℕ → ℕ → Option Sending
sending_before sizes zero left = None
sending_before sizes (suc n) left = after_fit (fit_of (sizes n) left) n (sending_before sizes n)

-- the packet in which the next token stands, where this many wait; none where none waits
abbrev pub sending_of : (ℕ → Option ℕ) → ℕ → Option Sending
sending_of sizes waiting =
    if waiting == 0 then None else sending_before sizes (count_from sizes SENT_LIMIT 0) waiting

abbrev pub sending_if : (ℕ → Option ℕ) → Option TerminalView → Option Sending
sending_if sizes None = None
sending_if sizes (Some view) = sending_of sizes view.waiting

-- the packet that a terminal sends
abbrev pub sending_at : NetRecord → ℕ → Option Sending
sending_at r t = sending_if (size_at r t) (network_terminal_view r.network t)
