use Rattle.c104_check.proofs.{HomeLemmas.{random_is, refused_random}, ShownLemmas.random_homes, TrailLemmas.trail_first}
use Rattle.c104_check.specs.{Routes.SwitchPort, Trails.{IsTrail, routes_in}, Walking.{IsHalt, fault_on}}
use Rattle.{c104_check.specs.declared.walks.{Goal.TheVariants.Portal, Halt.Halt}, std.proofs.Common.{List, Some, [], ap, refl, subst, sym}}
use Rattle.std.proofs.Common.{◌++◌, ◌∙◌, ◌∷◌}
use Rattle.c104_check.proofs.routes.Routes.homeless.Goals as goal

pub walk_on-requires-clause-trail : goal.walk_on-requires-clause-trail
walk_on-requires-clause-trail c = λ new. subst (λ (xs : List SwitchPort). IsTrail (routes_in c.args.self.now) c.args.header (xs ++ (c.args.entry ∷ [])) c.args.entry) (sym c.new-walk.ensures.items) (trail_first (routes_in c.args.self.now) c.args.header c.args.entry c.requires.input)

pub returns-in-Ok : goal.returns-in-Ok
returns-in-Ok c =
    let routes = routes_in c.args.self.now in
    random_homes routes c.args.header c.args.entry c.requires.network (sym (random_is routes c.args.header c.args.entry) ∙ ap (λ (xs : List SwitchPort). fault_on routes c.args.header Portal xs c.args.entry) (sym c.new-walk.ensures.items) ∙ c.in-Ok.ensures.answer.0)

pub returns-in-Err-Fault : goal.returns-in-Err-Fault
returns-in-Err-Fault c =
    let routes = routes_in c.args.self.now in
    let found = subst (λ (halt : Halt). IsHalt halt (fault_on routes c.args.header Portal c.new-walk.result.items c.args.entry) c.walk_on.new.walk.items) c.in-Err-Fault.field-0-is c.in-Err-Fault.ensures.answer in
    refused_random routes c.args.terminal c.args.entry c.args.header (record { start = 0; why = c.in-Err-Fault.why; shown = record { entry = c.args.terminal; header = c.args.header; walk = c.new-walk-in-Err-Fault.result } }) c.requires.network c.requires.input refl refl (sym (random_is routes c.args.header c.args.entry) ∙ ap (λ (xs : List SwitchPort). fault_on routes c.args.header Portal xs c.args.entry) (sym c.new-walk.ensures.items) ∙ found ∙ ap (λ (xs : List SwitchPort). Some (c.in-Err-Fault.why, xs)) (sym c.new-walk-in-Err-Fault.ensures))
