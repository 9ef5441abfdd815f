use Rattle.{c104_check.specs.Reach.routes_for, c104_commands.{proofs.HeaderLemmas.rows_next, specs.HeaderRows.AreRowsOf}}
use Rattle.std.proofs.Common.{arith, subst, ◌≡◌}
use Rattle.c104_commands.proofs.header_rows.rows_of.Goals as goal

pub loop-place-preserved : goal.loop-place-preserved
loop-place-preserved c =
    rows_next (routes_for c.args.reach.now) c.args.reach.now.header c.loop-place.place c.loop-place.rows.items c.add_row.new.rows.items c.row_at.result c.loop-place.invariant c.row_at.ensures.port c.row_at.ensures.row c.in_ok-add_row.ensures

pub returns : goal.returns
returns c =
    let all : c.loop-place.place ≡ c.args.links = omega (arith, c.loop-place-test.false, c.loop-place.auto.place-end) in
    subst (λ n. AreRowsOf (routes_for c.args.reach.now) c.args.reach.now.header n c.loop-place.rows.items) all c.loop-place.invariant
