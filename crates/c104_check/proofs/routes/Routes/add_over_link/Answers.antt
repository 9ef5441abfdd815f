use Rattle.c104_check.{proofs.DependencyLemmas.extended_one, specs.{Dependencies.{Dependency, IsExtended}, Routes.to_port}}
use Rattle.{c104_check.specs.{Trails.routes_in, Walks.port_of}, std.proofs.Common.{Some, ap, slice_set, subst, sym, ℕ, ◌*◌, ◌+◌, ◌∙◌, ◌≡◌}}

pub returns-in-Some-Switch-clause-kept : Rattle.c104_check.proofs.routes.Routes.add_over_link.Goals.returns-in-Some-Switch-clause-kept
returns-in-Some-Switch-clause-kept c =
    let routes = routes_in c.args.self.now in
    let o = c.args.link.link in
    let d : Dependency = record { next = record { switch = c.in-Some-Switch.next; link = c.in-Some-Switch.input }; header = c.args.header } in
    let leads : routes.peer (to_port c.args.link) ≡ Some (to_port d.next) = sym c.peer.ensures ∙ c.in-Some-Switch.is ∙ ap Some c.in-Some-Switch.field-0-is in
    let here : routes.peer (to_port (port_of c.args.at.switch o)) ≡ Some (to_port d.next) = ap (λ s. routes.peer (to_port (port_of s o))) (sym c.requires.here) ∙ leads in
    subst (λ (k : ℕ). IsExtended routes (c.args.header + 1) c.args.table.now (slice_set c.args.table.now (k * 32 + o) (Some d))) (sym c.place.ensures)
    (extended_one routes c.args.table.now c.args.at o d c.requires.input c.requires.link.1 c.requires.room here (c.requires.depends d.next leads) c.requires.low)
