use Rattle.{c104_crossbar.specs.Groups.has_bit, std.proofs.{Common.{ap, w32, ◌==◌, ◌∙◌}, lemmas.Nat.Bits.bit_at_clear_other}}
use Rattle.std.proofs.lemmas.Nat.Bits.{bit_at_clear_same}
use Rattle.c104_switch.proofs.link_set.LinkSet.remove.Goals as goal

pub returns-clause-here : goal.returns-clause-here
returns-clause-here c = ap (λ b. b == 1) (bit_at_clear_same w32 c.self.inside.word c.args.link c.requires)

pub returns-clause-others : goal.returns-clause-others
returns-clause-others c = λ l inside other. ap (λ b. b == 1) (bit_at_clear_other w32 c.self.inside.word c.args.link c.requires l inside other) ∙ ap (λ w. has_bit w l) c.self.view_is
