use Rattle.{c104_check.{proofs.MarkLemmas.written_back, specs.{Breaks.AreBreaks, Trails.routes_in}}, std.proofs.Common.{ap, length, subst}}
use Rattle.std.proofs.Common.{sym, ◌∙◌, ◌≡◌}

pub returns : Rattle.c104_check.proofs.routes.Routes.breaks.Goals.returns
returns c =
    let all : c.in_ok-marks.marks.len ≡ length c.in_ok-marks.marks.items = sym c.deref_mut.ensures.len ∙ ap length c.deref_mut.ensures.value in
    subst (AreBreaks (routes_in c.args.self.now)) (sym (written_back c.in_ok-marks.marks.items c.mark_breaks.new.marks c.in_ok-marks.marks.len (c.mark_breaks.auto.marks ∙ ap length c.deref_mut.ensures.value) all)) c.in_ok-mark_breaks.ensures
