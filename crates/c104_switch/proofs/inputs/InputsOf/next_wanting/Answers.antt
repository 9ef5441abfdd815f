use Rattle.{c104_crossbar.specs.Groups.has_bit, c104_switch.{proofs.Wanting.{next_below, twice}, specs.Claims.is_wanting}}
use Rattle.std.proofs.Common.{sym, ◌&&◌, ◌∙◌}

pub returns : Rattle.c104_switch.proofs.inputs.InputsOf.next_wanting.Goals.returns
returns g c = rw (sym c.self.view_is) (next_below (λ l. has_bit c.self.inside.sets.wanting l && has_bit c.self.inside.sets.wanting l) (is_wanting c.self.inside.list.items) (λ l below. twice (has_bit c.self.inside.sets.wanting l) ∙ (c.self.invariant.1 l below).wants) c.args.from c.next.result c.next.ensures)
