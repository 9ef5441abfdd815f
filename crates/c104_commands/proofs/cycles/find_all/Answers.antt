use Rattle.{c104_commands.specs.CycleTexts.edges_text, std.proofs.Common.{ap, ◌++◌, ◌∙◌}}

-- what is printed is the lines of the dependencies, and then the line on cycles
pub returns : Rattle.c104_commands.proofs.cycles.find_all.Goals.returns
returns c = (
  _,
  c.in_ok-edges.ensures.edges,
  (
    _,
    c.in_ok-found.ensures,
    c.in_ok-push_str.ensures.bytes
        ∙ ap (λ xs. xs ++ c.as_str.result.now) c.in_ok-text.ensures
        ∙ ap (λ es. edges_text c.args.plan.now es ++ c.as_str.result.now) c.as_slice.ensures
        ∙ ap (λ xs. edges_text c.args.plan.now c.in_ok-edges.edges ++ xs) c.as_str.ensures.value,
  ),
)
