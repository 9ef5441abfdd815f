use Rattle.{c104_check.{proofs.OwnStarts.{have_result, kept_result, own_result}, specs.Trails.routes_in}, std.proofs.Common.{false, sym}}
use Rattle.std.proofs.Common.{true, ◌∙◌, ◌≡◌}
use Rattle.c104_check.proofs.routes.Routes.add_if_discarding.Goals as goal

pub returns-then-not-discards-clause-have : goal.returns-then-not-discards-clause-have
returns-then-not-discards-clause-have c = λ discards. let clash : false ≡ true = sym c.if-not-discards.true ∙ c.discards.ensures.1 discards in absurd cc

pub returns : goal.returns
returns c =
    let routes = routes_in c.args.self.now in
    record {
      starts = own_result routes c.args.starts.now.items c.add_portal.new.starts.items c.args.terminal c.args.header c.args.entry c.args.at c.add_portal.result c.requires.network c.requires.wired c.requires.random c.requires.reached (c.discards.ensures.0 c.if-not-discards.false) c.requires.starts c.add_portal.ensures;
      kept = kept_result c.args.starts.now.items c.add_portal.new.starts.items c.args.terminal c.args.at c.add_portal.result c.add_portal.ensures;
      have = have_result routes c.args.starts.now.items c.add_portal.new.starts.items c.args.terminal c.args.header c.args.at c.add_portal.result c.add_portal.ensures;
    }
