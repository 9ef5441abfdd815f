use Rattle.{c104_storm.proofs.SortedArrivals.{as_many, joined_sorted}, std.proofs.lemmas.Result.on_ok_weaker}
use Rattle.c104_storm.proofs.packets.add_packets.Goals as goal

pub sorted_arrivals-requires : goal.sorted_arrivals-requires
sorted_arrivals-requires c = as_many _ _ _ _ _ c.requires.sure c.requires.arrived c.requires.origins c.in_ok-packets.ensures.whole c.as_slice.ensures.value

pub returns : goal.returns
returns c =
    on_ok_weaker c.add_lines.result
    (joined_sorted c.args.net.now.network.plan c.args.terminal _ _ _ _ _ _ _ _ _ _ c.requires.arrived c.requires.origins c.in_ok-packets.ensures.whole c.as_slice.ensures.value c.in_ok-arrivals.ensures c.as_slice-2.ensures.value c.plan.ensures)
    c.add_lines.ensures
