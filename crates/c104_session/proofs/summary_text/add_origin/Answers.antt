use Rattle.{c104_plan.specs.PortTexts.terminal_name, c104_session.proofs.KeptTexts.{at_error, joins_both, joins_first, joins_next}}
use Rattle.c104_session.{proofs.{KeptTexts.{joins_same, stops_same}, SummaryTexts.origin_is}, specs.Shown.origin_text}
use Rattle.std.{proofs.Common.{codes, decimal, flat_map, refl, ◌++◌, ◌∙◌}, specs.Prelude.option_to_list}
use Rattle.c104_session.proofs.summary_text.add_origin.Goals as goal

pub returns-in_err-add-clause-prefix : goal.returns-in_err-add-clause-prefix
returns-in_err-add-clause-prefix g c =
    at_error _ c.from_residual.result
    (stops_same _ _ c.args.kept.now (codes " from " ++ (terminal_name c.args.plan.now c.in-Some.origin.terminal ++ (codes " " ++ decimal c.in-Some.origin.number))) (flat_map (origin_text c.args.plan.now) (option_to_list c.args.origin))
    (origin_is c.args.plan.now c.args.origin c.in-Some.origin _ _ c.in-Some.is refl refl)
    (joins_first _ _ c.args.kept.now (codes " from ") (terminal_name c.args.plan.now c.in-Some.origin.terminal ++ (codes " " ++ decimal c.in-Some.origin.number)) c.in_err-add.ensures.prefix))

pub returns-in_err-add-2-clause-prefix : goal.returns-in_err-add-2-clause-prefix
returns-in_err-add-2-clause-prefix g c =
    at_error _ c.from_residual-in_err-add-2.result
    (stops_same _ _ c.args.kept.now (codes " from " ++ (c.as_bytes.result.now ++ (codes " " ++ decimal c.in-Some.origin.number))) (flat_map (origin_text c.args.plan.now) (option_to_list c.args.origin))
    (origin_is c.args.plan.now c.args.origin c.in-Some.origin _ _ c.in-Some.is (c.as_bytes.ensures.value ∙ c.terminal_name.ensures) refl)
    (joins_next _ _ _ c.args.kept.now c.add.new.self (codes " from ") (c.as_bytes.result.now ++ (codes " " ++ decimal c.in-Some.origin.number)) c.in_ok-add.ensures.kept
    (joins_first _ _ c.add.new.self c.as_bytes.result.now (codes " " ++ decimal c.in-Some.origin.number) c.in_err-add-2.ensures.prefix)))

pub returns-in_err-add-3-clause-prefix : goal.returns-in_err-add-3-clause-prefix
returns-in_err-add-3-clause-prefix g c =
    at_error _ c.from_residual-in_err-add-3.result
    (stops_same _ _ c.args.kept.now (codes " from " ++ (c.as_bytes.result.now ++ (codes " " ++ decimal c.in-Some.origin.number))) (flat_map (origin_text c.args.plan.now) (option_to_list c.args.origin))
    (origin_is c.args.plan.now c.args.origin c.in-Some.origin _ _ c.in-Some.is (c.as_bytes.ensures.value ∙ c.terminal_name.ensures) refl)
    (joins_next _ _ _ c.args.kept.now c.add.new.self (codes " from ") (c.as_bytes.result.now ++ (codes " " ++ decimal c.in-Some.origin.number)) c.in_ok-add.ensures.kept
    (joins_next _ _ _ c.add.new.self c.add-2.new.self c.as_bytes.result.now (codes " " ++ decimal c.in-Some.origin.number) c.in_ok-add-2.ensures.kept
    (joins_first _ _ c.add-2.new.self (codes " ") (decimal c.in-Some.origin.number) c.in_err-add-3.ensures.prefix))))

pub returns-in_err-add-4-clause-prefix : goal.returns-in_err-add-4-clause-prefix
returns-in_err-add-4-clause-prefix g c =
    at_error _ c.from_residual-in_err-add-4.result
    (stops_same _ _ c.args.kept.now (codes " from " ++ (c.as_bytes.result.now ++ (codes " " ++ c.as_bytes-2.result.now))) (flat_map (origin_text c.args.plan.now) (option_to_list c.args.origin))
    (origin_is c.args.plan.now c.args.origin c.in-Some.origin _ _ c.in-Some.is (c.as_bytes.ensures.value ∙ c.terminal_name.ensures) (c.as_bytes-2.ensures.value ∙ c.format.ensures.text))
    (joins_next _ _ _ c.args.kept.now c.add.new.self (codes " from ") (c.as_bytes.result.now ++ (codes " " ++ c.as_bytes-2.result.now)) c.in_ok-add.ensures.kept
    (joins_next _ _ _ c.add.new.self c.add-2.new.self c.as_bytes.result.now (codes " " ++ c.as_bytes-2.result.now) c.in_ok-add-2.ensures.kept
    (joins_next _ _ _ c.add-2.new.self c.add-3.new.self (codes " ") c.as_bytes-2.result.now c.in_ok-add-3.ensures.kept c.in_err-add-4.ensures.prefix))))

pub returns-clause-kept : goal.returns-clause-kept
returns-clause-kept g c =
    joins_same _ _ c.args.kept.now c.add-4.new.self (codes " from " ++ (c.as_bytes.result.now ++ (codes " " ++ c.as_bytes-2.result.now))) (flat_map (origin_text c.args.plan.now) (option_to_list c.args.origin))
    (origin_is c.args.plan.now c.args.origin c.in-Some.origin _ _ c.in-Some.is (c.as_bytes.ensures.value ∙ c.terminal_name.ensures) (c.as_bytes-2.ensures.value ∙ c.format.ensures.text))
    (joins_both _ _ _ c.args.kept.now c.add.new.self c.add-4.new.self (codes " from ") (c.as_bytes.result.now ++ (codes " " ++ c.as_bytes-2.result.now)) c.in_ok-add.ensures.kept
    (joins_both _ _ _ c.add.new.self c.add-2.new.self c.add-4.new.self c.as_bytes.result.now (codes " " ++ c.as_bytes-2.result.now) c.in_ok-add-2.ensures.kept
    (joins_both _ _ _ c.add-2.new.self c.add-3.new.self c.add-4.new.self (codes " ") c.as_bytes-2.result.now c.in_ok-add-3.ensures.kept c.in_ok-add-4.ensures.kept)))
