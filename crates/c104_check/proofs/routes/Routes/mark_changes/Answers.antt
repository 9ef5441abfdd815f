use Rattle.c104_check.{proofs.MarkLemmas.{ChangeAmong, change_marks, unwired_marks, unwired_of, wired_of}, specs.Breaks.AddsMarks}
use Rattle.{c104_check.specs.{Routes.header_count, Trails.routes_in}, c104_interval.specs.Segments.AreSegmentsBelow, std.proofs.Common.ap}
use Rattle.std.proofs.Common.{not, subst, sym, ◌∙◌}
use Rattle.c104_check.proofs.routes.Routes.mark_changes.Goals as goal

pub returns-then-is_none : goal.returns-then-is_none
returns-then-is_none c =
    let routes = routes_in c.args.self.now in
    unwired_marks routes c.args.marks.now c.args.at (unwired_of routes c.args.at c.peer.result c.peer.ensures (c.is_none.ensures ∙ ap not c.if-is_none.true))

pub returns : goal.returns
returns c =
    let routes = routes_in c.args.self.now in
    change_marks routes c.args.marks.now c.mark_among.new.marks c.args.at c.settings.result.now c.as_slice.result.now
    (wired_of routes c.args.at c.peer.result c.peer.ensures (c.is_none.ensures ∙ ap not c.if-is_none.false)) c.settings.ensures.settings c.requires.count
    (subst (AreSegmentsBelow c.settings.result.now.table (header_count routes)) (sym c.as_slice.ensures.value) (subst (λ n. AreSegmentsBelow c.settings.result.now.table n c.in_ok-segments.segments.items) c.header_count.ensures (subst (λ t. AreSegmentsBelow t c.header_count.result c.in_ok-segments.segments.items) c.table-table.ensures c.in_ok-segments.ensures.members)))
    (subst (λ t. AddsMarks c.args.marks.now c.mark_among.new.marks (ChangeAmong t c.as_slice.result.now)) c.table-table.ensures c.mark_among.ensures)
