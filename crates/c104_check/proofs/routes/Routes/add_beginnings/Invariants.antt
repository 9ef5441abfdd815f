use Rattle.c104_check.{proofs.PartLemmas.IsStartBefore, specs.{Parts.AreJust, Reach.AreDistinctInputs, Trails.routes_in}}

-- the inputs of the starts so far are there
abbrev pub invariant-loop-start : Rattle.c104_check.proofs.routes.Routes.add_beginnings.Given.invariant-loop-start
invariant-loop-start l = record {
  distinct : AreDistinctInputs (routes_in l.self) l.inputs;
  beginnings : AreJust (IsStartBefore l.starts l.start-index) l.inputs;
}
