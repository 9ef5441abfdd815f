use Rattle.c104_check.{proofs.RanksAcyclic.ranked_acyclic, specs.Routes.routes_of}

-- ranks leave no cycle
pub returns-in_ok-randomized-in-Ranks : Rattle.c104_fixes.proofs.waiting.find_waiting.Goals.returns-in_ok-randomized-in-Ranks
returns-in_ok-randomized-in-Ranks c =
    (ranked_acyclic (routes_of c.args.plan.now c.args.image.now) _ _ c.in_ok-found.ensures.found c.in-Ranks.is, c.in_ok-randomized-in-Ranks.ensures)
