use Rattle.c104_plan.proofs.{PlanSettings.{are_settings, made_next, settings_at, settings_last}, PlanTables.continues_of_link}
use Rattle.{c104_plan.{proofs.PlanTables.rows_of_input, specs.{Plans.rows_of, Ports.{Port, is_any_at}}}, std.proofs.Common.{List, ap}}
use Rattle.std.proofs.Common.{arith, ◌∙◌}
use Rattle.c104_plan.proofs.hand.switch_settings.Goals as goal

pub settings_of-requires-clause-rows : goal.settings_of-requires-clause-rows
settings_of-requires-clause-rows c = ap (rows_of (Port.Switch c.args.switch c.loop-link.link)) (c.as_slice.ensures.value ∙ c.in_ok-rows.ensures.rows) ∙ rows_of_input c.args.switch c.loop-link.link c.args.plan.now.rows

pub settings_of-requires-clause-continues : goal.settings_of-requires-clause-continues
settings_of-requires-clause-continues c = ap (λ (ports : List Port). is_any_at (λ q. q) ports (Port.Switch c.args.switch c.loop-link.link)) (c.as_slice-in-loop-link.ensures.value ∙ c.in_ok-continues.ensures) ∙ continues_of_link c.args.switch c.loop-link.link c.args.plan.now.continues

pub loop-link-preserved : goal.loop-link-preserved
loop-link-preserved c = made_next (settings_at c.args.plan.now c.args.switch) c.loop-link.link _ _ _ c.loop-link.invariant c.in_ok-push.ensures.items c.settings_of.ensures

pub returns-clause-settings : goal.returns-clause-settings
returns-clause-settings c = c.loop-link.invariant ∙ settings_last c.args.plan.now c.args.switch c.loop-link.link (omega arith)

pub returns-clause-all : goal.returns-clause-all
returns-clause-all c = rw (c.loop-link.invariant, settings_last c.args.plan.now c.args.switch c.loop-link.link (omega arith)) (are_settings c.args.plan.now c.args.switch c.rows_of_switch.ensures.kept)
