use Rattle.{c104_node.specs.PortActs.Acts, c104_run.specs.{AskedActs.acts_asked, EventActs.event_acts, declared.asked.Asked.Asked}}
use Rattle.{c104_token.specs.declared.tokens.Token.Token, c104_workers.proofs.SeatGrowth.node_follows}
use Rattle.std.proofs.Common.{Option, Some, subst, ◌≡◌}
use Rattle.c104_workers.proofs.fabric.Fabric.apply_to_one.Goals as goal

pub returns-in-Ok-Alone : goal.returns-in-Ok-Alone
returns-in-Ok-Alone g c =
    node_follows c.self.inside.wires c.args.seat.now.0 c.call_held.new.seat.0 c.args.event.now c.in-Ok-Alone.field-0-0 c.in-Ok-Alone.act _ _ c.call_held.result
    (subst (λ (a : Asked Token). ◌≡◌ {A = Option (Acts Token)} (event_acts c.self.inside.wires c.args.event.now) (Some (acts_asked a))) c.in-Ok-Alone.field-0-is c.in-Ok-Alone.ensures.acts)
    c.call_held.ensures
