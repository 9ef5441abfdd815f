use Rattle.c104_check.{proofs.StartLemmas.{AreBehind, behind_all, behind_first, behind_next}, specs.{Refusals.Start, Trails.routes_in}}
use Rattle.{c104_check.specs.Walks.port_of, std.proofs.Common.{List, Some, arith, slice_get, slice_index_or, subst, sym, ◌+◌, ◌≡◌}}
use Rattle.std.proofs.lemmas.Option.{slice_get-get_or}
use Rattle.c104_check.proofs.routes.Routes.add_behind.Goals as goal

pub loop-number-init : goal.loop-number-init
loop-number-init c =
    let routes = routes_in c.args.self.now in
    subst (AreBehind routes c.args.terminal c.args.starts.now.items c.args.portals.now) (sym c.requires.portals.count) (behind_first routes c.args.starts.now.items c.args.terminal c.args.entry c.requires.portals.old c.args.portals.now c.requires.portals.joined c.requires.starts c.requires.covers c.requires.portals.covers)

pub loop-number-preserved : goal.loop-number-preserved
loop-number-preserved c =
    let routes = routes_in c.args.self.now in
    let q = slice_index_or c.args.portals.now c.loop-number.number (port_of 0 0) in
    let at : slice_get c.args.portals.now c.loop-number.number ≡ Some q = slice_get-get_or c.args.portals.now c.loop-number.number (port_of 0 0) c.loop-number-test.true in
    subst (λ (xs : List Start). AreBehind routes c.args.terminal xs c.args.portals.now (c.loop-number.number + 1)) (sym c.in_ok-push.ensures.items)
    (behind_next routes c.loop-number.starts.items c.args.terminal c.args.entry q c.requires.portals.old c.args.portals.now c.loop-number.number c.requires.network c.requires.wired c.requires.homes c.requires.portals.joined (omega (arith, c.requires.portals.count, c.loop-number.auto.number)) at c.loop-number.invariant)

pub returns-clause-covers : goal.returns-clause-covers
returns-clause-covers c = (behind_all (routes_in c.args.self.now) c.loop-number.starts.items c.args.terminal c.args.entry c.requires.portals.old c.args.portals.now c.loop-number.number c.requires.network c.requires.wired c.requires.randomized c.requires.homes c.requires.portals.joined c.loop-number-test.false c.loop-number.invariant).0

pub returns-clause-portals : goal.returns-clause-portals
returns-clause-portals c = (behind_all (routes_in c.args.self.now) c.loop-number.starts.items c.args.terminal c.args.entry c.requires.portals.old c.args.portals.now c.loop-number.number c.requires.network c.requires.wired c.requires.randomized c.requires.homes c.requires.portals.joined c.loop-number-test.false c.loop-number.invariant).1
