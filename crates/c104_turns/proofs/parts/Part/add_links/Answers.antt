use Rattle.{c104_crossbar.specs.Groups.has_bit, c104_switch.specs.Claims.IsNextLink, c104_turns.proofs.PartNumbers.{all_left, links_end}}
use Rattle.{c104_turns.{proofs.PartNumbers.{links_on, next_high, next_low, no_links}, specs.Parts.numbers_in}, std.proofs.Common.List}
use Rattle.std.proofs.Common.{None, Some, ap, append-nil, arith, filter, subst, ℕ, ◌&&◌, ◌++◌, ◌<◌, ◌≡◌, ◌≤◌}
use Rattle.c104_turns.proofs.parts.Part.add_links.Goals as goal

pub returns-then-is_none : goal.returns-then-is_none
returns-then-is_none c =
    let own : c.self.inside.wired ≡ c.args.self.now.wired = search (arith, c.self.view_is) in
    let next = subst (λ (w : ℕ). IsNextLink (λ l. has_bit c.args.links l && has_bit w l) 0 c.next.result) own c.next.ensures in
    search (arith, append-nil, no_links (has_bit c.args.links) (has_bit c.args.self.now.wired) c.args.first c.next.result next)

pub loop-link-init : goal.loop-link-init
loop-link-init c =
    (omega arith, c.requires, ap (λ (ns : List ℕ). c.args.ready.now.items ++ numbers_in (has_bit c.args.links) c.args.first (filter (has_bit c.args.self.now.wired) ns)) all_left)

pub loop-link-preserved : goal.loop-link-preserved
loop-link-preserved c =
    let own : c.self.inside.wired ≡ c.args.self.now.wired = search (arith, c.self.view_is) in
    let wired = has_bit c.args.self.now.wired in
    let next = subst (λ (w : ℕ). IsNextLink (λ l. has_bit w l && has_bit w l) c.loop-link.from (Some c.in-Some.link)) own c.in-Some.ensures in
    let high : c.in-Some.link < 32 = next_high (λ (l : ℕ). wired l && wired l) c.loop-link.from c.in-Some.link next in
    let low : c.loop-link.from ≤ c.in-Some.link = next_low (λ (l : ℕ). wired l && wired l) c.loop-link.from c.in-Some.link next in (
      omega (arith, high),
      omega (arith, low, c.loop-link.invariant.1),
      links_on (has_bit c.args.links) wired c.loop-link.number c.loop-link.from c.in-Some.link c.has.result c.loop-link.ready.items _ _ next c.has.ensures c.loop-link.invariant.2 c.in_ok-add_if.ensures,
    )

pub returns : goal.returns
returns c =
    let own : c.self.inside.wired ≡ c.args.self.now.wired = search (arith, c.self.view_is) in
    let next = subst (λ (w : ℕ). IsNextLink (λ l. has_bit w l && has_bit w l) c.loop-link.from None) own c.in_default.ensures in
    links_end (has_bit c.args.links) (has_bit c.args.self.now.wired) c.loop-link.number c.loop-link.from c.loop-link.ready.items _ c.loop-link.invariant.0 next c.loop-link.invariant.2
