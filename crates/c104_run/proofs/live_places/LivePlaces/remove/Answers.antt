use Rattle.{c104_crossbar.specs.Groups.has_bit, c104_run.proofs.LivePlaces.{changed_other, get_or-inside}, std.proofs.Common.{ap, arith}}
use Rattle.std.proofs.Common.{false, sym, ◌/◌, ◌∙◌}

pub returns : Rattle.c104_run.proofs.live_places.LivePlaces.remove.Goals.returns
returns c = λ k other. rw (sym c.self.view_is) (changed_other c.self.inside.blocks c.self.invariant.0 c.args.place c.set.new.self (omega (arith, c.if-place-ge-PLACES.false)) false (c.set.ensures.here (omega arith)) (λ l low differs. c.set.ensures.others l low differs ∙ ap (λ w. has_bit w l) (get_or-inside c.self.inside.blocks (c.args.place / 32) c.index-self-place.result 0 (let counted = c.self.invariant.0 in omega (arith, counted, c.if-place-ge-PLACES.false)))) k other)
