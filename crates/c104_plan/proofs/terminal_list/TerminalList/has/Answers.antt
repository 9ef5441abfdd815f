use Rattle.{c104_plan.{proofs.PortLemmas.list_any-map, specs.Plans.Terminal}, std.{proofs.Common.{ap, bytes_eq, ◌∙◌}, specs.List.list_any}}

pub returns : Rattle.c104_plan.proofs.terminal_list.TerminalList.has.Goals.returns
returns c =
    c.has.ensures
    ∙ ap (list_any (λ other. bytes_eq other c.args.name.now)) c.self.invariant
    ∙ list_any-map (λ other. bytes_eq other c.args.name.now) (λ (t : Terminal). t.name) c.self.inside.list.items
    ∙ ap (list_any (λ (t : Terminal). bytes_eq t.name c.args.name.now)) c.self.view_is
