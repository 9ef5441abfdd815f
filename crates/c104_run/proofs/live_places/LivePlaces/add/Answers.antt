use Rattle.{c104_crossbar.specs.Groups.has_bit, c104_run.proofs.LivePlaces.{changed_here, changed_other, get_or-inside, told_past}}
use Rattle.std.proofs.Common.{ap, arith, sym, true, ◌/◌, ◌∙◌}
use Rattle.c104_run.proofs.live_places.LivePlaces.add.Goals as goal

pub returns-then-place-ge-PLACES-clause-here : goal.returns-then-place-ge-PLACES-clause-here
returns-then-place-ge-PLACES-clause-here c = told_past c.args.self.now c.args.place (omega (arith, c.if-place-ge-PLACES.true))

pub returns-clause-here : goal.returns-clause-here
returns-clause-here c = changed_here c.self.inside.blocks c.self.invariant.0 c.args.place c.set.new.self (omega (arith, c.if-place-ge-PLACES.false)) true (c.set.ensures.here (omega arith)) (λ l low other. c.set.ensures.others l low other ∙ ap (λ w. has_bit w l) (get_or-inside c.self.inside.blocks (c.args.place / 32) c.index-self-place.result 0 (let counted = c.self.invariant.0 in omega (arith, counted, c.if-place-ge-PLACES.false))))

pub returns-clause-others : goal.returns-clause-others
returns-clause-others c = λ k other. rw (sym c.self.view_is) (changed_other c.self.inside.blocks c.self.invariant.0 c.args.place c.set.new.self (omega (arith, c.if-place-ge-PLACES.false)) true (c.set.ensures.here (omega arith)) (λ l low differs. c.set.ensures.others l low differs ∙ ap (λ w. has_bit w l) (get_or-inside c.self.inside.blocks (c.args.place / 32) c.index-self-place.result 0 (let counted = c.self.invariant.0 in omega (arith, counted, c.if-place-ge-PLACES.false)))) k other)
