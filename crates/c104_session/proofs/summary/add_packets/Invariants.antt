use Rattle.{c104_plan.specs.{Plans.Plan, PortTexts.terminal_name}, c104_session.{proofs.PacketLines.lines_with, specs.Shown.lines_text}}
use Rattle.{c104_token.specs.Packets.packet_tokens, std.proofs.Common.{drop, map, ◌++◌, ◌≡◌}}

-- the lines so far, and those of the packets that are left, are those of all
abbrev pub invariant-loop-place : Rattle.c104_session.proofs.summary.add_packets.Given.invariant-loop-place
invariant-loop-place l = (plan : Plan) → lines_text plan l.lines.items ++ lines_with plan (terminal_name plan l.terminal) l.place (map packet_tokens (drop l.place l.packet-items)) l.origins ≡ lines_text plan l.initial.lines.items ++ lines_with plan (terminal_name plan l.terminal) 0 (map packet_tokens l.packet-items) l.origins
