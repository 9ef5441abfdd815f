use Rattle.{c104_rows.specs.Tables.wanted_of, c104_session.{proofs.TextRuns.text_ends, specs.RowRuns.IsRefusedRows}, std.proofs.Common.[]}
use Rattle.std.proofs.Common.{◌∷◌}

pub returns-clause-ends : Rattle.c104_session.proofs.rows.rows_command.Goals.returns-clause-ends
returns-clause-ends g c =
    text_ends (IsRefusedRows (wanted_of c.args.each (c.args.table ∷ [])) (g.S.Read.remaining c.args.script.now)) _ _ _ _
    c.in-Ok.setup.plan c.in-Ok.setup.image
    c.rows_setup.result c.in-Ok.ensures.network c.in-Ok.ensures.unwritten c.rows_setup.ensures.runs
