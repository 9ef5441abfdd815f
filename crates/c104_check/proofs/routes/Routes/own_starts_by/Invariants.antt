use Rattle.c104_check.specs.{Starts.AreOwnStarts, Trails.routes_in}

-- the starts are those of the terminals so far
abbrev pub invariant-loop-terminal : Rattle.c104_check.proofs.routes.Routes.own_starts_by.Given.invariant-loop-terminal
invariant-loop-terminal l = AreOwnStarts (routes_in l.self) l.starts.items l.terminal
