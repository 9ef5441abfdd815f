use Rattle.{c104_storm.proofs.ArrivalLines.joined, std.proofs.Common.◌∙◌}

pub returns : Rattle.c104_storm.proofs.packets.add_packet.Goals.returns
returns c = joined _ _ _ _ _ _ _ _ _ _ c.in_ok-add_name.ensures c.in_ok-extend_from_slice.ensures.items c.in_ok-extend_from_slice-2.ensures.items c.in_ok-add_sender.ensures c.in_ok-push.ensures.items (c.as_bytes.ensures.value ∙ c.in_ok-printed.ensures.text)
