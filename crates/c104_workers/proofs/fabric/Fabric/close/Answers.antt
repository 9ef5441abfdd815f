use Rattle.{c104_plan.specs.Plans.IsPlan, c104_run.specs.NetParts.node_count, c104_tickets.specs.Counts.{AreNoneTwice, AreOnce}}
use Rattle.{c104_tickets.specs.declared.views.Terms.Terms, c104_workers.proofs.{ClosedRuns.left_is, ClosedWords.seats_each_once}}
use Rattle.c104_workers.{proofs.ClosedWords.seats_none_twice, specs.{Closing.HoldTracks, Fabrics.{FabricView, Handed, all_tickets}}}
use Rattle.std.proofs.Common.{ap, arith, length, refl, subst, sym, ◌∙◌, ◌≡◌}
use Rattle.c104_workers.proofs.fabric.Fabric.close.Goals as goal

pub invariant_of-result : goal.invariant_of-result
invariant_of-result g c =
    let f = c.self.inside in
    let next = c.gather-next.result in
    let nodes = c.take_nodes.new.nodes.items in
    let old = c.pass.inside.pass.view.tracks in
    let others = c.take_nodes.new.pass.view.tracks in
    let handed : Handed = record { plan = f.wires; count = f.word.terms.first; starts = f.starts.items; before = f.before.items } in
    let is_plan : IsPlan f.wires = subst IsPlan (sym (ap (λ (v : FabricView). v.handed.plan) c.self.view_is)) c.plan-plan.ensures.kept in
    let held : HoldTracks handed nodes old others =
    subst (λ h. HoldTracks h nodes old others) (sym c.self.invariant.10) c.take_nodes.ensures.held in
    let full : length nodes ≡ node_count f.wires = omega (arith, c.take_nodes.ensures.nodes, f.locks.ok.0, c.self.invariant.0) in
    left_is handed c.self.invariant.11 is_plan f.word.terms next c.args.seats.items nodes old others c.first-first.result f.seat_count
    c.gather-next.new.lists.items c.gather-next.ensures.closed held refl c.self.invariant.1 full c.self.invariant.8
    c.first-first.ensures c.gather-next.ensures.seats

pub returns-clause-one : goal.returns-clause-one
returns-clause-one g c =
    let f = c.self.inside in
    let next = c.gather-next.result in
    let nodes = c.take_nodes.new.nodes.items in
    let old = c.pass.inside.pass.view.tracks in
    let others = c.take_nodes.new.pass.view.tracks in
    let handed : Handed = record { plan = f.wires; count = f.word.terms.first; starts = f.starts.items; before = f.before.items } in
    let is_plan : IsPlan f.wires = subst IsPlan (sym (ap (λ (v : FabricView). v.handed.plan) c.self.view_is)) c.plan-plan.ensures.kept in
    let held : HoldTracks handed nodes old others =
    subst (λ h. HoldTracks h nodes old others) (sym c.self.invariant.10) c.take_nodes.ensures.held in
    let full : length nodes ≡ node_count f.wires = omega (arith, c.take_nodes.ensures.nodes, f.locks.ok.0, c.self.invariant.0) in
    (left_is handed c.self.invariant.11 is_plan f.word.terms next c.args.seats.items nodes old others c.first-first.result f.seat_count
    c.gather-next.new.lists.items c.gather-next.ensures.closed held refl c.self.invariant.1 full c.self.invariant.8
    c.first-first.ensures c.gather-next.ensures.seats).one

pub returns-clause-none_twice : goal.returns-clause-none_twice
returns-clause-none_twice g c =
    let same : c.self.inside.word.terms ≡ c.args.self.terms = ap (λ (v : FabricView). v.terms) c.self.view_is in
    subst (λ (t : Terms). AreNoneTwice t.first c.gather-next.result (all_tickets c.args.seats.items)) same
    (seats_none_twice c.self.inside.word.terms c.gather-next.result c.args.seats.items c.take_nodes.new.pass.view.tracks
    c.gather-next.ensures.closed)

pub returns-clause-each_once : goal.returns-clause-each_once
returns-clause-each_once g c = λ all.
    let same : c.self.inside.word.terms ≡ c.args.self.terms = ap (λ (v : FabricView). v.terms) c.self.view_is in
    subst (λ (t : Terms). AreOnce t.first c.gather-next.result (all_tickets c.args.seats.items)) same
    (seats_each_once c.self.inside.word.terms c.gather-next.result c.args.seats.items c.take_nodes.new.pass.view.tracks
    c.gather-next.ensures.closed (all ∙ sym (ap (λ (t : Terms). t.seats) same)))
