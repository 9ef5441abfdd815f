use Rattle.{c104_storm.proofs.SortedArrivals.{all_next, all_taken}, std.proofs.Common.{arith, refl}}
use Rattle.c104_storm.proofs.packets.all_arrivals.Goals as goal

pub loop-place-preserved : goal.loop-place-preserved
loop-place-preserved c =
    all_next _ _ _ _ _ _ _ _ c.loop-place-test.true (omega (arith, c.requires, c.loop-place-test.true)) c.index-packets-place.is refl c.in_ok-push.ensures.items c.loop-place.invariant

pub returns : goal.returns
returns c = all_taken _ _ _ _ c.loop-place-test.false c.requires c.loop-place.invariant
