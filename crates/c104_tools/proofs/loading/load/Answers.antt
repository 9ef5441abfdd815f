use Rattle.{c104_control.specs.declared.commands.Command.TheVariants.{Reset, Start}, c104_tools.proofs.Asking.{err_is, leaves_all}}
use Rattle.c104_tools.proofs.{Asking.{leaves_on, leaves_stop}, KnownCommands.{left_open, outcome_due, outcome_shown}, LoadSteps.below_load}
use Rattle.c104_tools.{proofs.{LoadSteps.load_parts, ShownLoads.load_shown}, specs.{Loaded.{each_with, loaded}, Loads.for_each}}
use Rattle.{c104_tools.specs.{Loads.{load_list, steps_from, switch_pokes}, Outcomes.{any_value, nothing_made}}, std.proofs.Common.refl}
use Rattle.std.proofs.Common.{◌++◌, ◌∙◌}
use Rattle.c104_tools.proofs.loading.load.Goals as goal

pub returns-in_err-ask_each-clause-asked : goal.returns-in_err-ask_each-clause-asked
returns-in_err-ask_each-clause-asked g c same =
    let count = c.switches-count.result in
    let kept = c.switches-kept.result.now in
    let f = c.in_err-ask_each.field-0.0 in
    leaves_stop _ any_value _ _ _ _ _ (for_each count Reset) (steps_from switch_pokes 0 kept ++ for_each count Start) refl
    (leaves_all _ any_value _ _ _ (load_parts count kept _ (c.switches-count.ensures.count ∙ same) c.switches-kept.ensures.settings))
    c.from_residual.result f (err_is _ f c.from_residual.ensures) c.in_err-ask_each.ensures.asked

pub returns-in_err-poke_all-clause-asked : goal.returns-in_err-poke_all-clause-asked
returns-in_err-poke_all-clause-asked g c same =
    let count = c.switches-count.result in
    let kept = c.switches-kept.result.now in
    let f = c.in_err-poke_all.field-0.0 in
    leaves_stop _ any_value _ _ _ _ _ (steps_from switch_pokes 0 kept) (for_each count Start) refl
    (leaves_on _ any_value _ _ _ _ _ (for_each count Reset) (steps_from switch_pokes 0 kept ++ for_each count Start) refl
    (leaves_all _ any_value _ _ _ (load_parts count kept _ (c.switches-count.ensures.count ∙ same) c.switches-kept.ensures.settings)) c.in_ok-ask_each.ensures.asked)
    c.from_residual-in_err-poke_all.result f (err_is _ f c.from_residual-in_err-poke_all.ensures) c.in_err-poke_all.ensures.asked

pub returns-clause-asked : goal.returns-clause-asked
returns-clause-asked g c same =
    let count = c.switches-count.result in
    let kept = c.switches-kept.result.now in
    leaves_on _ any_value _ _ _ _ _ (steps_from switch_pokes 0 kept) (for_each count Start) refl
    (leaves_on _ any_value _ _ _ _ _ (for_each count Reset) (steps_from switch_pokes 0 kept ++ for_each count Start) refl
    (leaves_all _ any_value _ _ _ (load_parts count kept _ (c.switches-count.ensures.count ∙ same) c.switches-kept.ensures.settings)) c.in_ok-ask_each.ensures.asked)
    c.in_ok-poke_all.ensures.asked _ _ c.ask_each-2.ensures.asked

pub returns-in_err-ask_each-clause-due : goal.returns-in_err-ask_each-clause-due
returns-in_err-ask_each-clause-due g c same = outcome_due g.P.ControlPort.commands g.P.ControlPort.switch_count g.P.ControlPort.shown g.P.ControlPort.unanswered g.P.ControlPort.due any_value nothing_made _ _ _ _ (returns-in_err-ask_each-clause-asked g c same)

pub returns-in_err-ask_each-clause-left : goal.returns-in_err-ask_each-clause-left
returns-in_err-ask_each-clause-left g c same = left_open g.P.ControlPort.commands g.P.ControlPort.switch_count g.P.ControlPort.shown g.P.ControlPort.unanswered g.P.ControlPort.due _ (load_list c.args.image.now.settings) _ _ _ (below_load c.args.image.now.settings) same (returns-in_err-ask_each-clause-asked g c same)

pub returns-in_err-ask_each-clause-loaded : goal.returns-in_err-ask_each-clause-loaded
returns-in_err-ask_each-clause-loaded g c before is fits =
    let image = c.args.image.now.settings in
    outcome_shown g.P.ControlPort.commands g.P.ControlPort.switch_count g.P.ControlPort.shown g.P.ControlPort.unanswered g.P.ControlPort.due (each_with loaded before image) (load_list image) _ _ _ before (load_shown before image _ _ is c.switches-count.ensures.shown fits c.switches-kept.ensures.all) is (returns-in_err-ask_each-clause-asked g c fits)

pub returns-in_err-poke_all-clause-due : goal.returns-in_err-poke_all-clause-due
returns-in_err-poke_all-clause-due g c same = outcome_due g.P.ControlPort.commands g.P.ControlPort.switch_count g.P.ControlPort.shown g.P.ControlPort.unanswered g.P.ControlPort.due any_value nothing_made _ _ _ _ (returns-in_err-poke_all-clause-asked g c same)

pub returns-in_err-poke_all-clause-left : goal.returns-in_err-poke_all-clause-left
returns-in_err-poke_all-clause-left g c same = left_open g.P.ControlPort.commands g.P.ControlPort.switch_count g.P.ControlPort.shown g.P.ControlPort.unanswered g.P.ControlPort.due _ (load_list c.args.image.now.settings) _ _ _ (below_load c.args.image.now.settings) same (returns-in_err-poke_all-clause-asked g c same)

pub returns-in_err-poke_all-clause-loaded : goal.returns-in_err-poke_all-clause-loaded
returns-in_err-poke_all-clause-loaded g c before is fits =
    let image = c.args.image.now.settings in
    outcome_shown g.P.ControlPort.commands g.P.ControlPort.switch_count g.P.ControlPort.shown g.P.ControlPort.unanswered g.P.ControlPort.due (each_with loaded before image) (load_list image) _ _ _ before (load_shown before image _ _ is c.switches-count.ensures.shown fits c.switches-kept.ensures.all) is (returns-in_err-poke_all-clause-asked g c fits)

pub returns-clause-due : goal.returns-clause-due
returns-clause-due g c same = outcome_due g.P.ControlPort.commands g.P.ControlPort.switch_count g.P.ControlPort.shown g.P.ControlPort.unanswered g.P.ControlPort.due any_value nothing_made _ _ _ _ (returns-clause-asked g c same)

pub returns-clause-left : goal.returns-clause-left
returns-clause-left g c same = left_open g.P.ControlPort.commands g.P.ControlPort.switch_count g.P.ControlPort.shown g.P.ControlPort.unanswered g.P.ControlPort.due _ (load_list c.args.image.now.settings) _ _ _ (below_load c.args.image.now.settings) same (returns-clause-asked g c same)

pub returns-clause-loaded : goal.returns-clause-loaded
returns-clause-loaded g c before is fits =
    let image = c.args.image.now.settings in
    outcome_shown g.P.ControlPort.commands g.P.ControlPort.switch_count g.P.ControlPort.shown g.P.ControlPort.unanswered g.P.ControlPort.due (each_with loaded before image) (load_list image) _ _ _ before (load_shown before image _ _ is c.switches-count.ensures.shown fits c.switches-kept.ensures.all) is (returns-clause-asked g c fits)
