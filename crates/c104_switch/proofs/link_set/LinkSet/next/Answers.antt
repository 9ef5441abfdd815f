use Rattle.{c104_switch.proofs.LinkSets.{in_both, left, not_both}, std.proofs.Common.{ap, arith, sym, w32, ℕ, ◌%◌, ◌*◌, ◌<◌, ◌^◌, ◌∙◌}}
use Rattle.std.{proofs.lemmas.Nat.{Bits.{bit_at-trailing_zeros, bit_at-zero}, and_le_r}, specs.{Int.bit_at, Prelude.bit_and}}
use Rattle.c104_switch.proofs.link_set.LinkSet.next.Goals as goal

pub returns-then-left-eq0 : goal.returns-then-left-eq0
returns-then-left-eq0 c = (
  λ l after below. rw (sym c.self.view_is, sym c.other.view_is) (not_both c.self.inside.word c.other.inside.word c.args.from (omega (arith, c.if-from-ge-LINKS.false)) l after below (ap (λ w. bit_at w l) c.if-left-eq0.true ∙ bit_at-zero l)),
  tt,
)

pub returns : goal.returns
returns c =
    let word : ℕ = left c.self.inside.word c.other.inside.word c.args.from (omega (arith, c.if-from-ge-LINKS.false)) in
    let fits : word < 2 ^ 32 = let least = and_le_r (bit_and c.self.inside.word c.other.inside.word) (4294967295 * 2 ^ c.args.from % 4294967296) in omega arith in
    let some : 0 < word = omega (arith, c.if-left-eq0.false) in
    let lowest = bit_at-trailing_zeros w32 word some fits in
    let here = in_both c.self.inside.word c.other.inside.word c.args.from (omega (arith, c.if-from-ge-LINKS.false)) _ lowest.1 in
    rw (sym c.self.view_is, sym c.other.view_is)
    (λ l after below. not_both c.self.inside.word c.other.inside.word c.args.from (omega (arith, c.if-from-ge-LINKS.false)) l after (omega (arith, lowest.0)) (lowest.2 l below), (here.0, lowest.0, here.1))
