use Rattle.c104_session.{proofs.KeptTexts.{at_error, joins_same, reached_next, reached_stops, stops_same}, specs.Shown.byte_word}
use Rattle.std.proofs.Common.{get_or, refl}
use Rattle.c104_session.proofs.summary_text.add_bytes.Goals as goal

pub returns-in_err-add-clause-prefix : goal.returns-in_err-add-clause-prefix
returns-in_err-add-clause-prefix g c =
    at_error _ c.from_residual.result
    (reached_stops byte_word c.args.bytes.now _ _ _ _ _ _ c.loop-byte.invariant (get_or c.args.bytes.now c.loop-byte.byte-index 0) 0 c.loop-byte-test.true refl
    (stops_same _ _ c.loop-byte.kept c.byte_word.result (byte_word (get_or c.args.bytes.now c.loop-byte.byte-index 0)) c.byte_word.ensures c.in_err-add.ensures.prefix))

pub loop-byte-preserved : goal.loop-byte-preserved
loop-byte-preserved g c =
    reached_next byte_word c.args.bytes.now _ _ _ _ _ _ c.loop-byte.invariant (get_or c.args.bytes.now c.loop-byte.byte-index 0) 0 _ c.loop-byte-test.true refl
    (joins_same _ _ c.loop-byte.kept c.add.new.self c.byte_word.result (byte_word (get_or c.args.bytes.now c.loop-byte.byte-index 0)) c.byte_word.ensures c.in_ok-add.ensures.kept)
