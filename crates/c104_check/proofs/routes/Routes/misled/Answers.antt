use Rattle.c104_check.proofs.{RefusalLemmas.{entry_is, lands_from, no_start, owned_spared, refusal_from}, TrailLemmas.trail_first}
use Rattle.c104_check.specs.{Routes.SwitchPort, Trails.{IsTrail, routes_in}, Walking.{IsHalt, fault_on}}
use Rattle.{c104_check.specs.declared.walks.{Goal.TheVariants.Owner, Halt.Halt}, std.proofs.Common.{List, Some, [], ap, refl}}
use Rattle.std.proofs.{Common.{slice_index_or, subst, sym, ◌++◌, ◌∙◌, ◌∷◌}, lemmas.Option.slice_get-get_or}
use Rattle.c104_check.proofs.routes.Routes.misled.Goals as goal

pub walk_on-requires-clause-trail : goal.walk_on-requires-clause-trail
walk_on-requires-clause-trail c =
    let start = slice_index_or c.args.starts.now c.args.number no_start in
    let at = slice_get-get_or c.args.starts.now c.args.number no_start c.requires.number in
    λ new. subst (λ (xs : List SwitchPort). IsTrail (routes_in c.args.self.now) c.args.header (xs ++ (start.at ∷ [])) start.at) (sym c.new-walk.ensures.items) (trail_first (routes_in c.args.self.now) c.args.header start.at (c.requires.starts c.args.number start at).0)

pub walk_on-requires-clause-input : goal.walk_on-requires-clause-input
walk_on-requires-clause-input c =
    (c.requires.starts c.args.number (slice_index_or c.args.starts.now c.args.number no_start) (slice_get-get_or c.args.starts.now c.args.number no_start c.requires.number)).0

pub returns-in-Ok-clause-refusal : goal.returns-in-Ok-clause-refusal
returns-in-Ok-clause-refusal c =
    let routes = routes_in c.args.self.now in
    let start = slice_index_or c.args.starts.now c.args.number no_start in
    let at = slice_get-get_or c.args.starts.now c.args.number no_start c.requires.number in
    lands_from routes c.args.starts.now c.args.header c.args.number start (Some c.args.owner) c.requires.network at c.requires.owned (sym (entry_is routes c.args.header c.args.owner start.at) ∙ ap (λ (xs : List SwitchPort). fault_on routes c.args.header (Owner c.args.owner) xs start.at) (sym c.new-walk.ensures.items) ∙ c.in-Ok.ensures.answer.0)

pub returns-in-Err-Fault-clause-refusal : goal.returns-in-Err-Fault-clause-refusal
returns-in-Err-Fault-clause-refusal c =
    let routes = routes_in c.args.self.now in
    let start = slice_index_or c.args.starts.now c.args.number no_start in
    let at = slice_get-get_or c.args.starts.now c.args.number no_start c.requires.number in
    let found = subst (λ (halt : Halt). IsHalt halt (fault_on routes c.args.header (Owner c.args.owner) c.new-walk.result.items start.at) c.walk_on.new.walk.items) c.in-Err-Fault.field-0-is c.in-Err-Fault.ensures.answer in
    refusal_from routes c.args.starts.now c.args.header c.args.number start (Some c.args.owner) (record { start = c.args.number; why = c.in-Err-Fault.why; shown = record { entry = start.terminal; header = c.args.header; walk = c.new-walk-in-Err-Fault.result } }) c.requires.network (c.requires.starts c.args.number start at).0 at c.requires.owned refl refl refl (sym (entry_is routes c.args.header c.args.owner start.at) ∙ ap (λ (xs : List SwitchPort). fault_on routes c.args.header (Owner c.args.owner) xs start.at) (sym c.new-walk.ensures.items) ∙ found ∙ ap (λ (xs : List SwitchPort). Some (c.in-Err-Fault.why, xs)) (sym c.new-walk-in-Err-Fault.ensures)) (owned_spared routes c.args.header c.args.owner start c.requires.owned)
