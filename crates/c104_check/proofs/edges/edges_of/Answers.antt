use Rattle.{c104_check.{proofs.EdgeLemmas.{edges_more, edges_past}, specs.Edges.{AreEdgesBefore, DependencyEdge}}, std.proofs.Common.List}
use Rattle.std.proofs.Common.{[], ap, subst, sym, ◌++◌, ◌+◌, ◌∙◌, ◌∷◌}
use Rattle.c104_check.proofs.edges.edges_of.Goals.{in-Some+in_ok-push, in_default}

pub loop-place-preserved : Rattle.c104_check.proofs.edges.edges_of.Goals.loop-place-preserved
loop-place-preserved c =
    let table = c.args.table.now in
    let at = c.loop-place.place in
    let old = c.loop-place.edges.items in
    elim c.match-table-place.branch [
      | in-Some+in_ok-push w ↦
          subst (λ (xs : List DependencyEdge). AreEdgesBefore table (at + 1) xs)
          (sym (ap (λ es. es.items) w.edges-is ∙ w.in_ok-push.ensures.items ∙ ap (λ e. old ++ e ∷ []) w.edge_at.ensures))
          (edges_more table at old w.in-Some.dependency c.loop-place.invariant w.in-Some.is)
      | in_default w ↦
          subst (λ (xs : List DependencyEdge). AreEdgesBefore table (at + 1) xs) (sym (ap (λ es. es.items) w.edges-is))
          (edges_past table at old c.loop-place.invariant w.in_default.is)
    ]
