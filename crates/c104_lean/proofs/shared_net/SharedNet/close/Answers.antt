use Rattle.c104_lean.{proofs.ClosedRuns.{IsClosedRun, closed_net, closed_parts, closed_run}, specs.{Seats.AreAllSeats, Shared.SharedView}}
use Rattle.{c104_run.specs.NetParts.node_count, c104_tickets.specs.declared.views.Terms.Terms, std.proofs.Common.{ap, arith, length, subst}}
use Rattle.std.proofs.Common.{sym, ◌≡◌}
use Rattle.c104_lean.proofs.shared_net.SharedNet.close.Goals as goal

pub of_parts-requires : goal.of_parts-requires
of_parts-requires g c =
    let f = c.self.inside in
    let before = g.N.Sharing.before in
    let next = c.gather-next.result in
    let nodes = c.take_nodes.new.nodes.items in
    let full : length nodes ≡ node_count before.plan = omega (arith, c.take_nodes.ensures.nodes, f.locks.ok.0, c.self.invariant.4) in
    let all : AreAllSeats f.log.terms c.args.seats.items =
    subst (λ (t : Terms). AreAllSeats t c.args.seats.items) (sym (ap (λ (v : SharedView). v.terms) c.self.view_is)) c.requires.all in
    let closed : IsClosedRun before nodes next f.log.terms.seats c.args.seats.items =
    closed_run before c.self.invariant.9 f.log.terms next c.args.seats.items nodes c.pass.inside.pass.view.tracks
    c.take_nodes.new.pass.view.tracks c.gather-next.ensures c.take_nodes.ensures.held all c.self.invariant.2 c.self.invariant.3 full in
    let parts = closed_parts before f.wires nodes next f.log.terms.seats c.args.seats.items closed c.self.invariant.0 in
    record { kept = parts.0; wired = parts.1 }

pub returns : goal.returns
returns g c =
    let f = c.self.inside in
    let before = g.N.Sharing.before in
    let next = c.gather-next.result in
    let nodes = c.take_nodes.new.nodes.items in
    let full : length nodes ≡ node_count before.plan = omega (arith, c.take_nodes.ensures.nodes, f.locks.ok.0, c.self.invariant.4) in
    let all : AreAllSeats f.log.terms c.args.seats.items =
    subst (λ (t : Terms). AreAllSeats t c.args.seats.items) (sym (ap (λ (v : SharedView). v.terms) c.self.view_is)) c.requires.all in
    let closed : IsClosedRun before nodes next f.log.terms.seats c.args.seats.items =
    closed_run before c.self.invariant.9 f.log.terms next c.args.seats.items nodes c.pass.inside.pass.view.tracks
    c.take_nodes.new.pass.view.tracks c.gather-next.ensures c.take_nodes.ensures.held all c.self.invariant.2 c.self.invariant.3 full in
    closed_net before c.args.self f.wires nodes next f.log.terms.seats c.args.seats.items c.of_parts.result closed c.self.invariant.0
    (ap (λ (v : SharedView). v.before) c.self.view_is) (ap (λ (v : SharedView). v.terms.seats) c.self.view_is) c.of_parts.ensures
