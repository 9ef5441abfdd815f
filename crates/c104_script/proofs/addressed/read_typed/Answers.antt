use Rattle.c104_script.proofs.TypedWords.{early_end, header_few, header_said, last_end, said, word_added, word_refused}
use Rattle.{c104_script.specs.Addressed.Reading, c104_stream.proofs.ScriptEnds.err_is, std.proofs.Common.{ap, drop, inl, map, sym, ◌+◌}}
use Rattle.std.proofs.Common.{◌∙◌}
use Rattle.c104_script.proofs.addressed.read_typed.Goals as goal

pub loop-place-init : goal.loop-place-init
loop-place-init c = record {
  due = header_said c.args.header c.args.label (map (λ word. word.now) c.args.words.now) c.in_ok-bytes.bytes.items c.requires c.in_ok-bytes.ensures;
  few = header_few c.args.header c.args.label c.in_ok-bytes.bytes.items c.in_ok-bytes.ensures;
}

pub returns-then-place-words : goal.returns-then-place-words
returns-then-place-words c =
    inl (early_end c.args.words.now c.loop-place.place _ c.loop-place-test.true c.loop-place.reading c.loop-place.bytes.items _ c.loop-place.invariant.due c.in-Some.mark c.in-Some.ensures c.if-place-words.true)

pub returns-in-Some : goal.returns-in-Some
returns-in-Some c =
    inl (last_end c.args.words.now c.loop-place.place _ c.loop-place-test.true c.loop-place.reading c.loop-place.bytes.items _ c.loop-place.invariant.due c.in-Some.mark c.new.result c.new.ensures c.in-Some.ensures c.if-place-words.false)

pub returns-in_err-add_word : goal.returns-in_err-add_word
returns-in_err-add_word c =
    rw (err_is _ _ c.from_residual-in_err-add_word.ensures)
    (word_refused c.args.words.now c.loop-place.place _ c.loop-place-test.true c.loop-place.reading c.loop-place.bytes.items _ c.loop-place.invariant.due c.add_word.new.bytes.items c.in_err-add_word.field-0.0 (sym c.in_default.is ∙ c.mark_at.ensures) c.in_err-add_word.ensures)

pub loop-place-preserved : goal.loop-place-preserved
loop-place-preserved c = record {
  due =
      ap (λ (r : Reading). said r (drop (c.loop-place.place + 1) (map (λ word. word.now) c.args.words.now)) c.add_word.new.bytes.items) c.after-reading.ensures
      ∙ word_added c.args.words.now c.loop-place.place _ c.loop-place-test.true c.loop-place.reading c.loop-place.bytes.items _ c.loop-place.invariant.due c.add_word.new.bytes.items (sym c.in_default.is ∙ c.mark_at.ensures) c.in_ok-add_word.ensures;
  few = c.in_ok-add_word.ensures.0;
}
