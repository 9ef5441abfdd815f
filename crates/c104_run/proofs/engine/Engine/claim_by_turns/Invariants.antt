use Rattle.{c104_node.specs.Places.states, c104_run.{proofs.FairWalks.FairWalk, specs.NotedSwitches.{AreSo, ClaimsNone, GrantsNone}}}
use Rattle.std.proofs.Common.{length, map, ◌-◌}
use Rattle.c104_run.proofs.engine.Engine.claim_by_turns.Given as goal

-- the claims of the switches so far; of the others those that aren't noted claim nothing
abbrev pub invariant-loop-switch : goal.invariant-loop-switch
invariant-loop-switch g l = FairWalk g.T.TokenKind.kind g.P.Place.keeps g.M.Meter.sees g.P.Place.shown l.initial.self l.initial.meter l.initial.turns l.from l.changed l.self l.meter l.turns
    × AreSo ClaimsNone l.noted.claiming (states (map g.P.Place.shown l.self.places)) l.from (length l.initial.self.plan.switches)
    × AreSo (GrantsNone g.T.TokenKind.kind l.initial.self.plan) l.noted.granting (states (map g.P.Place.shown l.self.places)) 0 (length l.initial.self.plan.switches)

abbrev pub decreases-loop-switch : goal.decreases-loop-switch
decreases-loop-switch g l = length l.initial.self.plan.switches - l.from
