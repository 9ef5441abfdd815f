use Rattle.c104_turns.proofs.{PartShapes.{few_before, few_turns}, PartStages.{claims_done, crossings_done, turns_done}}
use Rattle.{c104_turns.specs.Working.{IsSomePart, PartView}, std.proofs.Common.{ap, arith, subst, ◌≤◌}}
use Rattle.c104_turns.proofs.parts.Part.add_at_switch.Goals as goal

pub add_links-requires-in-Crossings : goal.add_links-requires-in-Crossings
add_links-requires-in-Crossings g c = let few : c.self.inside.turns ≤ 64 = few_turns _ c.self.invariant in omega (arith, few)

pub add_links-requires-in-Turns : goal.add_links-requires-in-Turns
add_links-requires-in-Turns g c = few_turns _ c.self.invariant

pub add_claims-requires : goal.add_claims-requires
add_claims-requires g c = few_before _ c.self.invariant

pub returns-in_ok-add_links-in-Crossings : goal.returns-in_ok-add_links-in-Crossings
returns-in_ok-add_links-in-Crossings g c =
    record {
      listed = λ fits.
          crossings_done g.T.TokenKind.kind c.args.self.now (subst IsSomePart c.self.view_is c.self.invariant) c.add_links-in-Crossings.result c.args.stage c.args.ready.now.items c.add_links-in-Crossings.new.ready.items c.args.node.now c.requires fits
          c.in-Crossings.is c.self.inside.turns c.ready_links.result c.ready_links-in-Crossings.result (ap (λ (q : PartView). q.turns) c.self.view_is) c.ready_links.ensures c.ready_links-in-Crossings.ensures
          c.add_links.new.ready.items c.in_ok-add_links-in-Crossings.ensures c.add_links-in-Crossings.ensures;
    }

pub returns-in-Turns : goal.returns-in-Turns
returns-in-Turns g c =
    record {
      listed = λ fits.
          turns_done g.T.TokenKind.kind c.args.self.now (subst IsSomePart c.self.view_is c.self.invariant) c.add_links-in-Turns.result c.args.stage c.args.ready.now.items c.add_links-in-Turns.new.ready.items c.args.node.now c.requires fits
          c.in-Turns.is c.self.inside.turns c.ready_links-in-Turns.result (ap (λ (q : PartView). q.turns) c.self.view_is) c.ready_links-in-Turns.ensures c.add_links-in-Turns.ensures;
    }

pub returns-in-Claims : goal.returns-in-Claims
returns-in-Claims g c =
    record {
      listed = λ fits.
          claims_done g.T.TokenKind.kind c.args.self.now (subst IsSomePart c.self.view_is c.self.invariant) c.add_claims.result c.args.stage c.args.ready.now.items c.add_claims.new.ready.items c.args.node.now c.requires fits
          c.in-Claims.is c.self.inside.claims (ap (λ (q : PartView). q.claims) c.self.view_is) (c.add_claims.ensures c.args.self.now.node);
    }
