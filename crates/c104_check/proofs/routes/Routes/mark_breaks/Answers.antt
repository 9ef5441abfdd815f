use Rattle.c104_check.{proofs.MarkLemmas.breaks_are, specs.Trails.routes_in}

pub returns : Rattle.c104_check.proofs.routes.Routes.mark_breaks.Goals.returns
returns c = breaks_are (routes_in c.args.self.now) c.args.marks.now c.mark.new.marks c.mark_inputs.new.marks c.mark_ranges.new.marks c.requires.count c.requires.none c.mark.ensures c.in_ok-mark_inputs.ensures c.mark_ranges.ensures
