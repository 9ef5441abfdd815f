use Rattle.c104_session.proofs.{KeptTexts.{at_error, joins_both, joins_first, joins_next, joins_same, stops_same}, SummaryTexts.tokens_are}
use Rattle.{c104_session.specs.Shown.{byte_word, tokens_text}, c104_token.specs.{Packets.packet_tokens, Text.mark_word}}
use Rattle.std.proofs.Common.{flat_map, refl, ◌++◌}
use Rattle.c104_session.proofs.summary_text.add_packet.Goals as goal

pub returns-in_err-add_bytes-clause-prefix : goal.returns-in_err-add_bytes-clause-prefix
returns-in_err-add_bytes-clause-prefix g c =
    at_error _ c.from_residual.result
    (stops_same _ _ c.args.kept.now (flat_map byte_word c.as_bytes.result.now ++ mark_word c.args.packet.now.mark) (tokens_text (packet_tokens c.args.packet.now))
    (tokens_are c.args.packet.now _ _ c.as_bytes.ensures.value refl)
    (joins_first _ _ c.args.kept.now (flat_map byte_word c.as_bytes.result.now) (mark_word c.args.packet.now.mark) c.in_err-add_bytes.ensures.prefix))

pub returns-in_err-add-clause-prefix : goal.returns-in_err-add-clause-prefix
returns-in_err-add-clause-prefix g c =
    at_error _ c.from_residual-in_err-add.result
    (stops_same _ _ c.args.kept.now (flat_map byte_word c.as_bytes.result.now ++ c.mark_word.result.now) (tokens_text (packet_tokens c.args.packet.now))
    (tokens_are c.args.packet.now _ _ c.as_bytes.ensures.value c.mark_word.ensures)
    (joins_next _ _ _ c.args.kept.now c.add_bytes.new.kept (flat_map byte_word c.as_bytes.result.now) c.mark_word.result.now c.in_ok-add_bytes.ensures.kept c.in_err-add.ensures.prefix))

pub returns-clause-kept : goal.returns-clause-kept
returns-clause-kept g c =
    joins_same _ _ c.args.kept.now c.add.new.self (flat_map byte_word c.as_bytes.result.now ++ c.mark_word.result.now) (tokens_text (packet_tokens c.args.packet.now))
    (tokens_are c.args.packet.now _ _ c.as_bytes.ensures.value c.mark_word.ensures)
    (joins_both _ _ _ c.args.kept.now c.add_bytes.new.kept c.add.new.self (flat_map byte_word c.as_bytes.result.now) c.mark_word.result.now c.in_ok-add_bytes.ensures.kept c.in_ok-add.ensures.kept)
