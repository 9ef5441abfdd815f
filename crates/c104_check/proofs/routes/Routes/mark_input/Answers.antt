use Rattle.c104_check.{proofs.MarkLemmas.input_marks, specs.Trails.routes_in}

pub returns : Rattle.c104_check.proofs.routes.Routes.mark_input.Goals.returns
returns c = input_marks (routes_in c.args.self.now) c.args.marks.now c.mark_changes.new.marks c.mark_random.new.marks c.args.at c.in_ok-mark_changes.ensures c.mark_random.ensures
