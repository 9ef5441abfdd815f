use Rattle.c104_check.{proofs.RanksAcyclic.ranked_acyclic, specs.Routes.routes_of}

pub returns-in-Ranks : Rattle.c104_label.proofs.up_down.is_acyclic.Goals.returns-in-Ranks
returns-in-Ranks c = λ same. record {
  accepted = c.requires.accepted;
  acyclic = ranked_acyclic (routes_of c.args.plan.now c.args.image.now) _ _ c.in_ok-find_cycle.ensures.found c.in-Ranks.is;
}
