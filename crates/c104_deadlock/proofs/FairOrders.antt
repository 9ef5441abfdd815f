-- Turns that are orders stay orders, whatever is done.
use Rattle.{c104_deadlock.specs.DeadlockFreedom.AreOrders, c104_event.specs.declared.events.Event.Event}
use Rattle.c104_run.{proofs.{LinkOrders.orders_served, RoundRuns.{Applied, ends_keep}}, specs.{EventRuns.run_events, FairRounds.InTurn}}
use Rattle.c104_run.specs.{FairRounds.{fairly, turned, turned_if}, NetRecords.is_done, declared.turns.SwitchTurns.SwitchTurns}
use Rattle.std.proofs.Common.{Bool, List, false, inl, refl, true}

one_turned : (turns : List SwitchTurns) (e : Event) → AreOrders turns → AreOrders (turned turns e)
one_turned turns (Event.Claim s i o) orders = orders_served turns s i o orders
one_turned turns e orders = orders

if_turned : (done : Bool) (turns : List SwitchTurns) (e : Event) → AreOrders turns → AreOrders (turned_if done turns e)
if_turned true turns e orders = one_turned turns e orders
if_turned false turns e orders = orders

pub orders_kept : {S : Type 0} (apply : S → Event → Applied S) (x : InTurn S) (events : List Event) → AreOrders x.turns → AreOrders (run_events (fairly apply) x events).1.turns
orders_kept apply x events orders =
    let after = run_events (fairly apply) x events in
    ends_keep (fairly apply) (λ y. AreOrders y.turns) (λ y e was. if_turned (is_done (apply y.state e).0) y.turns e was) x after.1 events after.0 orders (inl refl)
