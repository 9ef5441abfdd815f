use Rattle.{c104_script.{proofs.ControlLine.{all_read, next_byte, no_byte, texts}, specs.Script.bytes_after}, std.proofs.Common.{List, Ok}}
use Rattle.std.proofs.Common.{ap, drop, sym, ℕ, ◌+◌, ◌∙◌}
use Rattle.c104_script.proofs.words.read_bytes.Goals as goal

pub returns-in_default : goal.returns-in_default
returns-in_default c = no_byte c.args.words.now c.loop-word.word-index _ c.loop-word-test.true c.loop-word.bytes.items c.loop-word.invariant.spelled (sym c.in_default.is ∙ c.read_byte.ensures)

pub loop-word-preserved : goal.loop-word-preserved
loop-word-preserved c = record {
  count = c.push.ensures.len ∙ ap (λ n. n + 1) c.loop-word.invariant.count;
  spelled =
      ap (λ (bytes : List ℕ). bytes_after bytes (drop (c.loop-word.word-index + 1) (texts c.args.words.now))) c.push.ensures.items
      ∙ next_byte c.args.words.now c.loop-word.word-index _ c.loop-word-test.true c.loop-word.bytes.items c.loop-word.invariant.spelled c.in-Some.byte (sym c.in-Some.is ∙ c.read_byte.ensures);
}

pub returns : goal.returns
returns c = ap Ok (c.new.ensures ∙ c.as_slice.ensures.value) ∙ all_read c.args.words.now c.loop-word.word-index c.loop-word.bytes.items c.loop-word-test.false c.loop-word.invariant.spelled
