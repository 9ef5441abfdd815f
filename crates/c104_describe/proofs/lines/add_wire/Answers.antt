use Rattle.c104_describe.{proofs.LineSteps.wire_self, specs.{PlanDrafts.draft_of, PlanLines.{is_bad_number, is_from_to, port_link}}}
use Rattle.{c104_describe.specs.PlanLines.port_name, c104_plan.specs.{Plans.{last_link, switch_number}, TextWords.is_name}}
use Rattle.std.proofs.Common.{Some, false, inl, rules, true, ◌==◌, ◌≡◌}

pub returns-then-is_self_wire : Rattle.c104_describe.proofs.lines.add_wire.Goals.returns-then-is_self_wire
returns-then-is_self_wire c =
    let draft = draft_of c.args.draft.now in
    let here = c.args.here.now in
    let there = c.args.there.now in
    let good : is_bad_number (Some (port_link here)) (is_from_to 0 last_link) ≡ false = search rules in
    let far_good : is_bad_number (Some (port_link there)) (is_from_to 0 last_link) ≡ false = search rules in
    let named : is_name (port_name here) ≡ true = search rules in
    let far_named : is_name (port_name there) ≡ true = search rules in
    let known : switch_number draft.plan (port_name here) ≡ Some c.in-Some.switch = search rules in
    let far_known : switch_number draft.plan (port_name there) ≡ Some c.in-Some-switch_number.far_switch = search rules in
    let equal : (c.in-Some.switch == c.in-Some-switch_number.far_switch) ≡ true = search rules in
    inl (wire_self draft here there c.in-Some.switch c.in-Some-switch_number.far_switch c.in_ok-from.ensures.0 c.in_ok-to.ensures.0 good far_good named far_named known far_known equal)
