use Rattle.{c104_node.specs.PortActs.Acts, c104_run.specs.{AskedActs.acts_asked, EventActs.event_acts, declared.asked.Asked.Asked}}
use Rattle.{c104_token.specs.declared.tokens.Token.Token, c104_workers.proofs.SeatGrowth.pair_follows}
use Rattle.std.proofs.Common.{Option, Some, subst, ◌≡◌}
use Rattle.c104_workers.proofs.fabric.Fabric.apply_to_two.Goals as goal

pub returns-then-near-far : goal.returns-then-near-far
returns-then-near-far g c =
    pair_follows c.self.inside.wires c.args.seat.now.0 c.call_held_pair.new.seat.0 c.args.event.now c.in-Ok-Joint.joint.near c.in-Ok-Joint.joint.far c.in-Ok-Joint.joint.crossing _ _ _ _ c.call_held_pair.result
    (subst (λ (a : Asked Token). ◌≡◌ {A = Option (Acts Token)} (event_acts c.self.inside.wires c.args.event.now) (Some (acts_asked a))) c.in-Ok-Joint.field-0-is c.in-Ok-Joint.ensures.acts)
    c.call_held_pair.ensures

pub returns-else-near-far : goal.returns-else-near-far
returns-else-near-far g c =
    pair_follows c.self.inside.wires c.args.seat.now.0 c.call_held_pair-else-near-far.new.seat.0 c.args.event.now c.in-Ok-Joint.joint.near c.in-Ok-Joint.joint.far c.in-Ok-Joint.joint.crossing _ _ _ _ c.call_held_pair-else-near-far.result
    (subst (λ (a : Asked Token). ◌≡◌ {A = Option (Acts Token)} (event_acts c.self.inside.wires c.args.event.now) (Some (acts_asked a))) c.in-Ok-Joint.field-0-is c.in-Ok-Joint.ensures.acts)
    c.call_held_pair-else-near-far.ensures
