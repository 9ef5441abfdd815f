use Rattle.{c104_plan.{proofs.NamesKept.position-map, specs.Plans.Terminal}, std.proofs.Common.{ap, bytes_eq, position, ◌∙◌}}

pub returns-clause-number : Rattle.c104_plan.proofs.terminal_list.TerminalList.number_of.Goals.returns-clause-number
returns-clause-number c =
    c.number_of.ensures.number
    ∙ ap (position (λ other. bytes_eq other c.args.name.now)) c.self.invariant
    ∙ position-map (λ other. bytes_eq other c.args.name.now) (λ (t : Terminal). t.name) c.self.inside.list.items
    ∙ ap (position (λ (t : Terminal). bytes_eq t.name c.args.name.now)) c.self.view_is
