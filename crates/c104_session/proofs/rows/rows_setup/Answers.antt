use Rattle.{c104_rows.specs.{Tables.wanted_of, declared.tables.Wanted.Wanted}, c104_session.proofs.RowScripts.table_written}
use Rattle.{c104_session.specs.RowRuns.IsKeptPlan, std.proofs.Common.{[], subst, ◌∷◌}}

pub returns-clause-runs : Rattle.c104_session.proofs.rows.rows_setup.Goals.returns-clause-runs
returns-clause-runs g c =
    table_written (wanted_of c.args.each (c.args.table ∷ [])) c.args.plan.now c.args.image (g.S.Read.remaining c.args.script.now)
    c.in-Ok.run' _ _ _
    (subst (λ (w : Wanted). IsKeptPlan w c.args.plan.now c.args.image (g.S.Read.remaining c.args.script.now) c.in-Ok.run') c.of-wanted.ensures
    c.in-Ok.ensures.run)
    c.write_table.ensures.runs
