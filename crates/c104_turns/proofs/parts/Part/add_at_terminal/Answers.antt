use Rattle.{c104_turns.{proofs.PartStages.{crossings_there, turns_there}, specs.Working.{IsSomePart, PartView}}, std.proofs.Common.ap}
use Rattle.std.proofs.Common.{arith, subst, ◌<◌}
use Rattle.c104_turns.proofs.parts.Part.add_at_terminal.Goals as goal

pub returns-in_ok-add_if-in-Crossings : goal.returns-in_ok-add_if-in-Crossings
returns-in_ok-add_if-in-Crossings g c =
    let more : 0 < c.args.self.now.turns = subst (λ (q : PartView). 0 < q.turns) c.self.view_is (omega (arith, c.if-self-gt0.true)) in
    record {
      listed = λ fits.
          crossings_there g.T.TokenKind.kind c.args.self.now (subst IsSomePart c.self.view_is c.self.invariant) c.add_if-in-Crossings.result c.args.stage c.args.ready.now.items c.add_if-in-Crossings.new.ready.items c.args.terminal.now fits
          c.in-Crossings.is more c.can_credit_out.result c.can_leave.result c.can_credit_out.ensures c.can_leave.ensures
          c.add_if.new.ready.items c.in_ok-add_if-in-Crossings.ensures c.add_if-in-Crossings.ensures;
    }

pub returns-in-Turns : goal.returns-in-Turns
returns-in-Turns g c =
    record {
      listed = λ fits.
          turns_there g.T.TokenKind.kind c.args.self.now (subst IsSomePart c.self.view_is c.self.invariant) c.add_if-in-Turns.result c.args.stage c.args.ready.now.items c.add_if-in-Turns.new.ready.items c.args.terminal.now fits
          c.in-Turns.is c.self.inside.turns (ap (λ (q : PartView). q.turns) c.self.view_is) c.can_drain.result c.can_drain.ensures c.add_if-in-Turns.ensures;
    }
