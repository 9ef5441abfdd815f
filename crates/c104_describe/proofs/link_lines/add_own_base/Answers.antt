use Rattle.c104_describe.{proofs.LineSteps.base_twice, specs.{PlanDrafts.draft_of, PlanLines.{is_bad_number, is_from_to, port_link}}}
use Rattle.{c104_describe.specs.PlanLines.{port_name, value_said}, c104_plan.specs.{Plans.{last_link, switch_number}, Ports.is_any_at}}
use Rattle.{c104_plan.specs.{TextWords.is_name, declared.{plans.PlanBase.PlanBase, ports.Port.Port}}, std.proofs.Common.{Some, false, inl}}
use Rattle.std.proofs.Common.{rules, true, ◌≡◌}

pub returns-then-has_base : Rattle.c104_describe.proofs.link_lines.add_own_base.Goals.returns-then-has_base
returns-then-has_base c =
    let draft = draft_of c.args.draft.now in
    let at = c.args.port.now in
    let good : is_bad_number (Some (port_link at)) (is_from_to 0 last_link) ≡ false = search rules in
    let link : value_said (port_link at) ≡ c.in_ok-link.link = search rules in
    let named : is_name (port_name at) ≡ true = search rules in
    let known : switch_number draft.plan (port_name at) ≡ Some c.in-Some.switch = search rules in
    let said : is_any_at (λ (x : PlanBase). x.port) draft.plan.bases (Port.Switch c.in-Some.switch c.in_ok-link.link) ≡ true = search rules in
    inl (base_twice draft at c.in-Some.switch c.in_ok-link.link c.in_ok-port.ensures.0 good link named known c.args.base.now c.in_ok-base.ensures.number.1 said)
