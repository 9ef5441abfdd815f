use Rattle.{c104_plan.{proofs.PortLemmas.list_any-map, specs.Plans.Terminal}, std.proofs.Common.{List, ap, bytes_eq, ℕ, ◌∙◌}}
use Rattle.std.specs.List.{list_any}

-- the names are those of the terminals, so a name that no terminal has is none of them
pub insert-requires : Rattle.c104_plan.proofs.terminal_list.TerminalList.push.Goals.insert-requires
insert-requires c =
    ap (λ (name : List ℕ). list_any (λ other. bytes_eq other name) c.self.inside.names) c.as_bytes.ensures.bytes
    ∙ ap (list_any (λ other. bytes_eq other c.args.terminal.name)) c.self.invariant
    ∙ list_any-map (λ other. bytes_eq other c.args.terminal.name) (λ (t : Terminal). t.name) c.self.inside.list.items
    ∙ ap (list_any (λ (t : Terminal). bytes_eq t.name c.args.terminal.name)) c.self.view_is
    ∙ c.requires
