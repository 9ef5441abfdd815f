use Rattle.c104_check.{proofs.ReachLemmas.IsEntryBefore, specs.{Parts.AreJust, Reach.AreDistinctInputs, Routes.IsRandomAt}}
use Rattle.c104_check.specs.Trails.{routes_in}

-- the inputs of the terminals so far at which the header is a random one are there
abbrev pub invariant-loop-terminal : Rattle.c104_check.proofs.routes.Routes.add_random_entries.Given.invariant-loop-terminal
invariant-loop-terminal l = record {
  distinct : AreDistinctInputs (routes_in l.self) l.inputs;
  entries : AreJust (IsEntryBefore (routes_in l.self) (λ p. IsRandomAt (routes_in l.self) p l.header) l.terminal) l.inputs;
}
