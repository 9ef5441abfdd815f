use Rattle.{c104_plan.specs.PortTexts.terminal_name, c104_session.proofs.PacketLines.{got, lines_end, lines_next}}
use Rattle.{c104_token.specs.Packets.packet_tokens, std.proofs.Common.{ap, map, ◌∙◌}}
use Rattle.c104_session.proofs.summary.add_packets.Goals as goal

-- the line of a packet joins
pub loop-place-preserved : goal.loop-place-preserved
loop-place-preserved c plan = lines_next plan (terminal_name plan c.args.terminal) c.as_slice-packet-items.result.now c.loop-place.place c.packet-item.result c.args.origins.now c.copied.result _ _ _ c.loop-place-test.true c.packet-item.is (c.copied.ensures ∙ got c.get.result c.args.origins.now c.loop-place.place c.get.ensures.lookup.1 c.get.ensures.lookup.3) (c.in_ok-add_packet.ensures plan) (c.loop-place.invariant plan)

-- and all lines are those of what arrived
pub returns : goal.returns
returns c plan tokens plain are sure = lines_end plan (terminal_name plan c.args.terminal) c.as_slice-packet-items.result.now c.loop-place.place c.args.arrived.now c.args.origins.now tokens _ _ c.loop-place-test.false (c.loop-place.invariant plan) (ap (map packet_tokens) c.as_slice-packet-items.ensures.value ∙ c.in_ok-packets.ensures.whole) plain are sure
