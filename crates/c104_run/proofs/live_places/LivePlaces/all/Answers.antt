use Rattle.{c104_crossbar.specs.Groups.has_bit, c104_run.proofs.LivePlaces.{all_told, get_or-replicated}, std.proofs.Common.{ap, replicate}}
use Rattle.std.proofs.Common.{◌∙◌}

pub returns : Rattle.c104_run.proofs.live_places.LivePlaces.all.Goals.returns
returns c = λ k. all_told (replicate 10 c.all.result) (λ b l inside below. ap (λ w. has_bit w l) (get_or-replicated 10 b c.all.result 0 inside) ∙ c.all.ensures l below) k
