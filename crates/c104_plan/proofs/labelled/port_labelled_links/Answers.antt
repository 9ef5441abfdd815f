use Rattle.c104_plan.proofs.LabelledSettings.{are_port_labelled, port_labelled_at, port_labelled_last, port_link_here}
use Rattle.c104_plan.{proofs.{PlanSettings.made_next, PlanTables.{continues_of_link, rows_of_input}}, specs.LabelledImages.port_grouped}
use Rattle.{c104_plan.specs.{LabelledImages.port_table, Plans.rows_of, Ports.{Port, is_any_at}}, std.proofs.Common.{List, ap, arith, ◌∙◌}}
use Rattle.c104_plan.proofs.labelled.port_labelled_links.Goals as goal

pub labelled_settings-requires-clause-rows : goal.labelled_settings-requires-clause-rows
labelled_settings-requires-clause-rows c = ap (rows_of (Port.Switch c.args.switch c.loop-link.link)) (c.as_slice-rows.ensures.value ∙ c.in_ok-rows.ensures.rows) ∙ rows_of_input c.args.switch c.loop-link.link c.args.plan.now.rows

pub labelled_settings-requires-clause-continues : goal.labelled_settings-requires-clause-continues
labelled_settings-requires-clause-continues c = ap (λ (ports : List Port). is_any_at (λ q. q) ports (Port.Switch c.args.switch c.loop-link.link)) (c.as_slice-continues.ensures.value ∙ c.in_ok-continues.ensures) ∙ continues_of_link c.args.switch c.loop-link.link c.args.plan.now.continues

pub loop-link-preserved : goal.loop-link-preserved
loop-link-preserved c =
    made_next (port_labelled_at c.args.plan.now (port_table c.args.tables.now c.args.switch) (port_grouped c.args.groups.now c.args.switch) c.args.switch) c.loop-link.link _ _ _ c.loop-link.invariant c.in_ok-push.ensures.items
    (port_link_here c.args.plan.now c.args.tables.now c.args.groups.now c.args.switch c.loop-link.link _ _ _ _ c.requires.switch c.loop-link-test.true c.requires.ports c.requires.groups c.labelled_settings.ensures c.with_group.ensures)

pub returns-clause-settings : goal.returns-clause-settings
returns-clause-settings c = c.loop-link.invariant ∙ port_labelled_last c.args.plan.now (port_table c.args.tables.now c.args.switch) (port_grouped c.args.groups.now c.args.switch) c.args.switch c.loop-link.link (omega arith)

pub returns-clause-all : goal.returns-clause-all
returns-clause-all c =
    rw (c.loop-link.invariant, port_labelled_last c.args.plan.now (port_table c.args.tables.now c.args.switch) (port_grouped c.args.groups.now c.args.switch) c.args.switch c.loop-link.link (omega arith))
    (are_port_labelled c.args.plan.now c.args.tables.now c.args.groups.now c.args.switch c.rows_of_switch.ensures.kept c.requires.ports c.requires.tables c.requires.switch)
