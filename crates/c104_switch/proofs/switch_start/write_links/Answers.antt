use Rattle.c104_switch.{proofs.StartLinks.{length_starts, starts_next}, specs.Starts.{link_start, link_starts}}
use Rattle.{c104_switch.specs.declared.link_start.LinkStart.LinkStart, std.proofs.Common.{Some, [], ap, arith, refl, slice_get, sym, take}}
use Rattle.std.proofs.{Common.{◌++◌, ◌∙◌, ◌∷◌, ◌≡◌}, lemmas.List.take_all}
use Rattle.c104_switch.proofs.switch_start.write_links.Goals as goal

-- this link is written too
pub loop-link-preserved : goal.loop-link-preserved
loop-link-preserved g c =
    let input : slice_get c.args.inputs.now c.loop-link.link ≡ Some c.in-Some.input.now = sym c.in-Some.ensures in
    let output : slice_get c.args.outputs.now c.loop-link.link ≡ Some c.in-Some-get.output.now = sym c.in-Some-get.ensures in
    let here : LinkStart = record { cap = c.cap.result; granted = c.granted.result; credit = c.credit.result; sunk = c.sunk.result; short = c.short.result } in
    let same : here ≡ link_start c.in-Some.input.now c.in-Some-get.output.now = rw (c.cap.ensures, c.granted.ensures.granted, c.credit.ensures.credit, c.sunk.ensures, c.short.ensures) refl in
    record {
      written = c.push_reserved.ensures.items ∙ ap (λ ls. ls ++ here ∷ []) c.loop-link.invariant.written
          ∙ ap (λ l. take c.loop-link.link (link_starts c.args.inputs.now c.args.outputs.now) ++ l ∷ []) same
          ∙ sym (starts_next c.args.inputs.now c.args.outputs.now c.loop-link.link c.in-Some.input.now c.in-Some-get.output.now input output);
      room = omega (arith, c.push_reserved.ensures.capacity, c.loop-link.invariant.room);
    }

pub returns-clause-links : goal.returns-clause-links
returns-clause-links g c =
    let count = length_starts c.args.inputs.now c.args.outputs.now (c.requires.inputs ∙ sym c.requires.outputs) in
    c.loop-link.invariant.written ∙ take_all c.loop-link.link (link_starts c.args.inputs.now c.args.outputs.now) (omega (arith, count, c.requires.inputs, c.loop-link-test.false))
