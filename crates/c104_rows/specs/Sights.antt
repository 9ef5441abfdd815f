-- What is seen of a network where a round is over, as far as it is wanted: what there is in it, or how many tokens wait at
-- each port that has a wire; and at the end the packets whose terminators are there.
--     counts_of_net net c      the counts after what is there was seen
--     counts_at_end net c      the same, with the packets that are in the network
use Rattle.{c104_net.specs.TracedEnds.traced_end, c104_node.specs.Tagged.{TaggedToken, tag, tagged_origin}}
use Rattle.c104_node.specs.declared.{origins.Origin.Origin, terminal.views.TerminalView.TerminalView}
use Rattle.{c104_plan.specs.declared.ports.Port.Port, c104_regs.specs.declared.registers.TheConstants.LINKS, c104_rows.specs.Counts.Counts}
use Rattle.c104_rows.specs.{Counts.{counts_found, counts_level, counts_seen}, Links.LinkRow, Numbers.{each_number, told}, Packets.PacketRow}
use Rattle.{c104_rows.specs.Rounds.{Levels, no_levels}, c104_run.specs.{FinishedRecords.record_finish, NetRecords.NetRecord}}
use Rattle.c104_run.specs.{NetViews.{network_input_token, network_link_view, network_output_token, network_terminal_view}, Network.Network}
use Rattle.{c104_run.specs.Rounds.is_wired, c104_switch.specs.declared.{actions.LinkView.LinkView, phase.Phase.{Phase, TheVariants.Fresh}}}
use Rattle.{c104_switch.specs.declared.phase.Phase.TheVariants.{Head, Sinking, Stream, Want}, c104_token.specs.Kinds.plain_kind}
use Rattle.c104_token.specs.{Tokens.is_end, declared.tokens.Token.Token}
use Rattle.std.specs.{Option.option_map, Prelude.{Bool, List, None, Option, Some, if◌then◌else◌, length, nat_le, slice_get, ℕ, ◌+◌}}

-- how many tokens of a header an input has read, or has that waits, and how many outputs it holds
abbrev pub header_tokens : Phase (List ℕ) → ℕ
header_tokens Fresh = 0
header_tokens (Head b) = length b
header_tokens (Want b g) = length b
header_tokens (Stream o) = 0
header_tokens Sinking = 0

abbrev pub outputs_held : Phase (List ℕ) → ℕ
outputs_held Fresh = 0
outputs_held (Head b) = 0
outputs_held (Want b g) = 0
outputs_held (Stream o) = 1
outputs_held Sinking = 0

-- what there is, with what is seen of a link, and of a terminal
abbrev pub levels_with_link : LinkView → Levels → Levels
levels_with_link v r = record {
  waiting = r.waiting;
  inside = told (told (told (r.inside + v.input_level) + v.output_level) + header_tokens v.phase);
  held = told (r.held + outputs_held v.phase);
}

abbrev pub levels_with_terminal : TerminalView → Levels → Levels
levels_with_terminal v r = record {
  waiting = told (r.waiting + v.waiting);
  inside = told (r.inside + v.undrained);
  held = r.held;
}

-- the same of a link or a terminal that there may be
abbrev pub link_levels : Option LinkView → Levels → Levels
link_levels None r = r
link_levels (Some v) r = levels_with_link v r

abbrev pub terminal_levels : Option TerminalView → Levels → Levels
terminal_levels None r = r
terminal_levels (Some v) r = levels_with_terminal v r

-- of the links of a switch, of the switches, of the terminals
abbrev pub links_levels : Network Token → ℕ → Levels → Levels
links_levels net s r = each_number (λ l. link_levels (network_link_view plain_kind net s l)) LINKS r

abbrev pub switches_levels : Network Token → Levels → Levels
switches_levels net r = each_number (links_levels net) (length net.plan.switches) r

abbrev pub terminals_levels : Network Token → Levels → Levels
terminals_levels net r = each_number (λ t. terminal_levels (network_terminal_view net t)) (length net.plan.terminals) r

-- what there is in a network
abbrev pub levels_of : Network Token → Levels
levels_of net = terminals_levels net (switches_levels net no_levels)

-- how many tokens wait at a port
abbrev pub link_seen : Option LinkView → ℕ → ℕ → Counts → Counts
link_seen None s l c = c
link_seen (Some v) s l c = counts_level c (Port.Switch s l) v.output_level

abbrev pub terminal_seen : Option TerminalView → ℕ → Counts → Counts
terminal_seen None t c = c
terminal_seen (Some v) t c = counts_level c (Port.Terminal t) v.waiting

-- the same of a link of a switch, if it has a wire
abbrev pub wired_seen : Network Token → ℕ → ℕ → Counts → Counts
wired_seen net s l c =
    if is_wired net.plan (Port.Switch s l) then link_seen (network_link_view plain_kind net s l) s l c else c

abbrev pub links_seen : Network Token → ℕ → Counts → Counts
links_seen net s c = each_number (wired_seen net s) LINKS c

abbrev pub switches_seen : Network Token → Counts → Counts
switches_seen net c = each_number (links_seen net) (length net.plan.switches) c

abbrev pub terminals_seen : Network Token → Counts → Counts
terminals_seen net c = each_number (λ t. terminal_seen (network_terminal_view net t) t) (length net.plan.terminals) c

-- what there is in it is seen if it is wanted, and so is how many tokens wait at each port
abbrev pub levels_seen_if : Bool → Network Token → Counts → Counts
levels_seen_if wanted net c = if wanted then counts_seen c (levels_of net) else c

abbrev pub ports_seen_if : Bool → Network Token → Counts → Counts
ports_seen_if wanted net c = if wanted then terminals_seen net (switches_seen net c) else c

-- the counts after a network was seen: no more of it is looked at than is wanted
abbrev pub counts_of_net : Network Token → Counts → Counts
counts_of_net net c = ports_seen_if c.wanted.links net (levels_seen_if c.wanted.rounds net c)

-- the packet that a token ends, if it ends one
abbrev pub ended_by : TaggedToken → Option Origin
ended_by x = tagged_origin (is_end x.token) x

-- a token is found in the network
abbrev pub origin_found : Option Origin → Counts → Counts
origin_found None c = c
origin_found (Some o) c = counts_found c o

abbrev pub token_found : Option TaggedToken → Counts → Counts
token_found None c = c
token_found (Some x) c = origin_found (ended_by x) c

-- the tokens of a network, each of which tells its packet if it ends one: what came in at a port, and the output of a link
abbrev pub token_in : NetRecord → Port → ℕ → Option TaggedToken
token_in net p k = option_map tag (network_input_token (traced_end (record_finish net)) p k)

abbrev pub token_out : NetRecord → ℕ → ℕ → ℕ → Option TaggedToken
token_out net s l k = option_map tag (network_output_token (traced_end (record_finish net)) s l k)

-- this many of them are found
abbrev pub found_in : NetRecord → Port → ℕ → Counts → Counts
found_in net p level c = each_number (λ k. token_found (token_in net p k)) level c

abbrev pub found_out : NetRecord → ℕ → ℕ → ℕ → Counts → Counts
found_out net s l level c = each_number (λ k. token_found (token_out net s l k)) level c

-- of a terminal those packets wait that come behind as many as have left it whole
abbrev pub behind_found : ℕ → ℕ → ℕ → Counts → Counts
behind_found t gone n c = if nat_le gone n then counts_found c (record { terminal = t; number = n }) else c

abbrev pub waiting_of : ℕ → Option LinkRow → Option (List PacketRow) → Counts → Counts
waiting_of t None packets c = c
waiting_of t (Some wire) None c = c
waiting_of t (Some wire) (Some packets) c = each_number (behind_found t wire.packets) (length packets) c

abbrev pub waiting_found : ℕ → Counts → Counts
waiting_found t c = waiting_of t (slice_get c.wires t) (slice_get c.senders t) c

-- the tokens at a link, and at a terminal
abbrev pub link_found : NetRecord → Option LinkView → ℕ → ℕ → Counts → Counts
link_found net None s l c = c
link_found net (Some v) s l c = found_out net s l v.output_level (found_in net (Port.Switch s l) v.input_level c)

abbrev pub terminal_found : NetRecord → Option TerminalView → ℕ → Counts → Counts
terminal_found net None t c = c
terminal_found net (Some v) t c = found_in net (Port.Terminal t) v.undrained (waiting_found t c)

abbrev pub links_found : NetRecord → ℕ → Counts → Counts
links_found net s c = each_number (λ l. link_found net (network_link_view plain_kind net.network s l) s l) LINKS c

abbrev pub switches_found : NetRecord → Counts → Counts
switches_found net c = each_number (links_found net) (length net.network.plan.switches) c

abbrev pub terminals_found : NetRecord → Counts → Counts
terminals_found net c =
    each_number (λ t. terminal_found net (network_terminal_view net.network t) t) (length net.network.plan.terminals) c

-- the counts at the end of a run
abbrev pub counts_at_end : NetRecord → Counts → Counts
counts_at_end net c = terminals_found net (switches_found net (counts_of_net net.network c))
