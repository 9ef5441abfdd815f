use Rattle.c104_check.specs.Edges.{AreEdgesBefore}

-- the edges of the places so far
abbrev pub invariant-loop-place : Rattle.c104_check.proofs.edges.edges_of.Given.invariant-loop-place
invariant-loop-place l = AreEdgesBefore l.table l.place l.edges.items
