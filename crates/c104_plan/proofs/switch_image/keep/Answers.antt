use Rattle.{c104_plan.{proofs.KeptUpdates.{led_above, put_in}, specs.SwitchImages.led_by}, std.proofs.Common.{ap, length, sym, ◌++◌, ◌∙◌}}
use Rattle.std.proofs.Common.{◌≡◌}
use Rattle.c104_plan.proofs.switch_image.keep.Goals as goal

pub returns-in-Ok : goal.returns-in-Ok
returns-in-Ok c front back present below above is =
    let here : c.place_of-place.result ≡ length front = c.place_of-place.ensures.place front _ below (led_above front back c.args.addr above present) (c.as_slice.ensures.value ∙ is) in
    let rest = c.clear.ensures.rest front back present above here is in
    c.in-Ok.ensures.items ∙ put_in front back c.args.addr above _ _ _ rest here ∙ ap (λ v. front ++ led_by c.args.addr v back) (sym c.in-Some.is)

pub returns-in_default : goal.returns-in_default
returns-in_default c front back present below above is =
    let here : c.place_of-place.result ≡ length front = c.place_of-place.ensures.place front _ below (led_above front back c.args.addr above present) (c.as_slice.ensures.value ∙ is) in
    c.clear.ensures.rest front back present above here is ∙ ap (λ v. front ++ led_by c.args.addr v back) (sym c.in_default.is)
