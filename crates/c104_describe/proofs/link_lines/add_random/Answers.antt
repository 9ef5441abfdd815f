use Rattle.c104_describe.{proofs.LineSteps.random_twice, specs.{PlanDrafts.draft_of, PlanLines.{is_bad_number, is_from_to, port_link}}}
use Rattle.{c104_describe.specs.PlanLines.{port_name, value_said}, c104_plan.specs.{Plans.{last_link, switch_number}, Ports.is_any_at}}
use Rattle.{c104_plan.specs.{TextWords.is_name, declared.{plans.PlanRandom.PlanRandom, ports.Port.Port}}, std.proofs.Common.{Some, false}}
use Rattle.std.proofs.Common.{inl, rules, true, ◌≡◌}

pub returns-then-has_random : Rattle.c104_describe.proofs.link_lines.add_random.Goals.returns-then-has_random
returns-then-has_random c =
    let draft = draft_of c.args.draft.now in
    let at = c.args.port.now in
    let good : is_bad_number (Some (port_link at)) (is_from_to 0 last_link) ≡ false = search rules in
    let link : value_said (port_link at) ≡ c.in_ok-link.link = search rules in
    let named : is_name (port_name at) ≡ true = search rules in
    let known : switch_number draft.plan (port_name at) ≡ Some c.in-Some.switch = search rules in
    let said : is_any_at (λ (x : PlanRandom). x.port) draft.plan.randoms (Port.Switch c.in-Some.switch c.in_ok-link.link) ≡ true = search rules in
    inl (random_twice draft at c.in-Some.switch c.in_ok-link.link c.in_ok-port.ensures.0 good link named known c.args.base.now c.args.range.now c.in_ok-base.ensures.number.1 c.in_ok-range.ensures.1 said)
