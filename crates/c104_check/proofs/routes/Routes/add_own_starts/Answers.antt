use Rattle.c104_check.{proofs.{OwnStarts.own_plain, StartLemmas.plain_of}, specs.{Refusals.Start, Starts.AreOwnStarts, Trails.routes_in}}
use Rattle.std.proofs.Common.{List, subst, sym, ◌+◌, ◌∙◌}

pub returns : Rattle.c104_check.proofs.routes.Routes.add_own_starts.Goals.returns
returns c =
    let routes = routes_in c.args.self.now in
    let plain = plain_of routes c.entry-entry.result c.settings.result.now c.settings.ensures.settings (sym c.randomize.ensures ∙ c.if-randomize.false) in
    subst (λ (xs : List Start). AreOwnStarts routes xs (c.args.terminal + 1)) (sym c.in_ok-push.ensures.items) (own_plain routes c.args.starts.now.items c.args.terminal c.entry-entry.result c.requires.network c.entry-entry.ensures.entry c.entry-entry.ensures.input plain c.requires.starts)
