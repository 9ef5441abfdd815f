use Rattle.c104_session.proofs.{KeptTexts.{at_error, joins_both, joins_first, joins_next, joins_same, stops_same}, SummaryTexts.after_colon}
use Rattle.c104_session.{proofs.SummaryTexts.{after_name, after_packet, line_is}, specs.Shown.{line_text, origin_text, tokens_text}}
use Rattle.{c104_token.specs.Packets.packet_tokens, std.{proofs.Common.{codes, flat_map, ◌++◌, ◌∙◌}, specs.Prelude.option_to_list}}
use Rattle.c104_session.proofs.summary_text.add_line.Goals as goal

pub returns-in_err-add-clause-prefix : goal.returns-in_err-add-clause-prefix
returns-in_err-add-clause-prefix g c =
    at_error _ c.from_residual.result
    (stops_same _ _ c.args.kept.now (c.as_bytes.result.now ++ after_name c.args.plan.now c.args.line.now) (line_text c.args.plan.now c.args.line.now)
    (line_is c.args.plan.now c.args.line.now _ (c.as_bytes.ensures.value ∙ c.terminal_name-name.ensures))
    (joins_first _ _ c.args.kept.now c.as_bytes.result.now (after_name c.args.plan.now c.args.line.now) c.in_err-add.ensures.prefix))

pub returns-in_err-add-2-clause-prefix : goal.returns-in_err-add-2-clause-prefix
returns-in_err-add-2-clause-prefix g c =
    at_error _ c.from_residual-in_err-add-2.result
    (stops_same _ _ c.args.kept.now (c.as_bytes.result.now ++ after_name c.args.plan.now c.args.line.now) (line_text c.args.plan.now c.args.line.now)
    (line_is c.args.plan.now c.args.line.now _ (c.as_bytes.ensures.value ∙ c.terminal_name-name.ensures))
    (joins_next _ _ _ c.args.kept.now c.add.new.self c.as_bytes.result.now (after_name c.args.plan.now c.args.line.now) c.in_ok-add.ensures.kept
    (joins_first _ _ c.add.new.self (codes ": ") (after_colon c.args.plan.now c.args.line.now) c.in_err-add-2.ensures.prefix)))

pub returns-in_err-add_packet-clause-prefix : goal.returns-in_err-add_packet-clause-prefix
returns-in_err-add_packet-clause-prefix g c =
    at_error _ c.from_residual-in_err-add_packet.result
    (stops_same _ _ c.args.kept.now (c.as_bytes.result.now ++ after_name c.args.plan.now c.args.line.now) (line_text c.args.plan.now c.args.line.now)
    (line_is c.args.plan.now c.args.line.now _ (c.as_bytes.ensures.value ∙ c.terminal_name-name.ensures))
    (joins_next _ _ _ c.args.kept.now c.add.new.self c.as_bytes.result.now (after_name c.args.plan.now c.args.line.now) c.in_ok-add.ensures.kept
    (joins_next _ _ _ c.add.new.self c.add-2.new.self (codes ": ") (after_colon c.args.plan.now c.args.line.now) c.in_ok-add-2.ensures.kept
    (joins_first _ _ c.add-2.new.self (tokens_text (packet_tokens c.args.line.now.packet)) (after_packet c.args.plan.now c.args.line.now) c.in_err-add_packet.ensures.prefix))))

pub returns-in_err-add_origin-clause-prefix : goal.returns-in_err-add_origin-clause-prefix
returns-in_err-add_origin-clause-prefix g c =
    at_error _ c.from_residual-in_err-add_origin.result
    (stops_same _ _ c.args.kept.now (c.as_bytes.result.now ++ after_name c.args.plan.now c.args.line.now) (line_text c.args.plan.now c.args.line.now)
    (line_is c.args.plan.now c.args.line.now _ (c.as_bytes.ensures.value ∙ c.terminal_name-name.ensures))
    (joins_next _ _ _ c.args.kept.now c.add.new.self c.as_bytes.result.now (after_name c.args.plan.now c.args.line.now) c.in_ok-add.ensures.kept
    (joins_next _ _ _ c.add.new.self c.add-2.new.self (codes ": ") (after_colon c.args.plan.now c.args.line.now) c.in_ok-add-2.ensures.kept
    (joins_next _ _ _ c.add-2.new.self c.add_packet.new.kept (tokens_text (packet_tokens c.args.line.now.packet)) (after_packet c.args.plan.now c.args.line.now) c.in_ok-add_packet.ensures.kept
    (joins_first _ _ c.add_packet.new.kept (flat_map (origin_text c.args.plan.now) (option_to_list c.args.line.now.origin)) (codes "\n") c.in_err-add_origin.ensures.prefix)))))

pub returns-in_err-add-3-clause-prefix : goal.returns-in_err-add-3-clause-prefix
returns-in_err-add-3-clause-prefix g c =
    at_error _ c.from_residual-in_err-add-3.result
    (stops_same _ _ c.args.kept.now (c.as_bytes.result.now ++ after_name c.args.plan.now c.args.line.now) (line_text c.args.plan.now c.args.line.now)
    (line_is c.args.plan.now c.args.line.now _ (c.as_bytes.ensures.value ∙ c.terminal_name-name.ensures))
    (joins_next _ _ _ c.args.kept.now c.add.new.self c.as_bytes.result.now (after_name c.args.plan.now c.args.line.now) c.in_ok-add.ensures.kept
    (joins_next _ _ _ c.add.new.self c.add-2.new.self (codes ": ") (after_colon c.args.plan.now c.args.line.now) c.in_ok-add-2.ensures.kept
    (joins_next _ _ _ c.add-2.new.self c.add_packet.new.kept (tokens_text (packet_tokens c.args.line.now.packet)) (after_packet c.args.plan.now c.args.line.now) c.in_ok-add_packet.ensures.kept
    (joins_next _ _ _ c.add_packet.new.kept c.add_origin.new.kept (flat_map (origin_text c.args.plan.now) (option_to_list c.args.line.now.origin)) (codes "\n") c.in_ok-add_origin.ensures.kept c.in_err-add-3.ensures.prefix)))))

pub returns-clause-kept : goal.returns-clause-kept
returns-clause-kept g c =
    joins_same _ _ c.args.kept.now c.add-3.new.self (c.as_bytes.result.now ++ after_name c.args.plan.now c.args.line.now) (line_text c.args.plan.now c.args.line.now)
    (line_is c.args.plan.now c.args.line.now _ (c.as_bytes.ensures.value ∙ c.terminal_name-name.ensures))
    (joins_both _ _ _ c.args.kept.now c.add.new.self c.add-3.new.self c.as_bytes.result.now (after_name c.args.plan.now c.args.line.now) c.in_ok-add.ensures.kept
    (joins_both _ _ _ c.add.new.self c.add-2.new.self c.add-3.new.self (codes ": ") (after_colon c.args.plan.now c.args.line.now) c.in_ok-add-2.ensures.kept
    (joins_both _ _ _ c.add-2.new.self c.add_packet.new.kept c.add-3.new.self (tokens_text (packet_tokens c.args.line.now.packet)) (after_packet c.args.plan.now c.args.line.now) c.in_ok-add_packet.ensures.kept
    (joins_both _ _ _ c.add_packet.new.kept c.add_origin.new.kept c.add-3.new.self (flat_map (origin_text c.args.plan.now) (option_to_list c.args.line.now.origin)) (codes "\n") c.in_ok-add_origin.ensures.kept c.in_ok-add-3.ensures.kept))))
