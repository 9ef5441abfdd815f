use Rattle.{c104_check.{proofs.DependencyLemmas.{own_arrive, own_listed, unowned_listed}, specs.Trails.routes_in}, std.proofs.Common.ap}
use Rattle.std.proofs.Common.{not, ◌∙◌}
use Rattle.c104_check.proofs.routes.Routes.add_as_own.Goals as goal

pub returns-then-is_none-clause-listed : goal.returns-then-is_none-clause-listed
returns-then-is_none-clause-listed c = unowned_listed (routes_in c.args.self.now) c.args.header c.owner.result c.args.table.now c.owner.ensures (c.is_none.ensures ∙ ap not c.if-is_none.true)

pub add_at_all-requires-clause-arrive : goal.add_at_all-requires-clause-arrive
add_at_all-requires-clause-arrive c =
    own_arrive (routes_in c.args.self.now) c.args.header c.owner.result c.in_ok-inputs.inputs.items c.as_slice.result.now c.owner.ensures (c.is_none.ensures ∙ ap not c.if-is_none.false) c.as_slice.ensures.value c.in_ok-inputs.ensures.reached

pub returns-clause-listed : goal.returns-clause-listed
returns-clause-listed c = own_listed (routes_in c.args.self.now) c.args.header c.in_ok-inputs.inputs.items c.as_slice.result.now c.add_at_all.new.table c.as_slice.ensures.value c.in_ok-inputs.ensures.reached c.add_at_all.ensures.listed
