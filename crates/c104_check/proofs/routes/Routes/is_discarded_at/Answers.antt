use Rattle.{c104_check.{proofs.TrailLemmas.All-found, specs.Trails.{IsInput, routes_in}}, std.proofs.Common.{length, sym, ◌∙◌}}

pub discards-requires : Rattle.c104_check.proofs.routes.Routes.is_discarded_at.Goals.discards-requires
discards-requires c = All-found (IsInput (length (routes_in c.args.self.now).settings)) c.args.inputs.now c.args.input c.requires (sym c.is_among.ensures ∙ c.if-is_among.true)
