use Rattle.{c104_plan.proofs.ImageSteps.{answered, fault_is, found_at, kept_image, others_at, written_at}, std.proofs.Common.length}
use Rattle.std.proofs.Common.{rules, ◌<◌}
use Rattle.c104_plan.proofs.image.Image.set.Goals as goal

pub invariant_of-self-2 : goal.invariant_of-self-2
invariant_of-self-2 c =
    let inside : c.args.switch < length c.self.inside.switches.items = search rules in
    let at = found_at c.self.inside.switches.items c.args.switch c.in-Some.switch.now inside c.in-Some.ensures.value in
    kept_image c.self.inside.ranges.items c.self.inside.switches.items c.args.switch c.args.addr c.args.value c.in-Some.switch.now c.set.new.self c.set.result at c.set.ensures.all c.set.ensures.refused c.self.invariant

pub returns-clause-answer : goal.returns-clause-answer
returns-clause-answer c =
    let inside : c.args.switch < length c.self.inside.switches.items = search rules in
    let at = found_at c.self.inside.switches.items c.args.switch c.in-Some.switch.now inside c.in-Some.ensures.value in
    rw (← c.self.view_is) (answered c.self.inside.ranges.items c.self.inside.switches.items c.args.switch c.args.addr c.args.value c.in-Some.switch.now c.set.new.self c.set.result at c.set.ensures.answer)

pub returns-clause-faults : goal.returns-clause-faults
returns-clause-faults c =
    let inside : c.args.switch < length c.self.inside.switches.items = search rules in
    let at = found_at c.self.inside.switches.items c.args.switch c.in-Some.switch.now inside c.in-Some.ensures.value in
    fault_is c.self.inside.ranges.items c.self.inside.switches.items c.args.switch c.args.addr c.args.value c.in-Some.switch.now c.set.new.self c.set.result at c.set.ensures.answer

pub returns-clause-written : goal.returns-clause-written
returns-clause-written c =
    let inside : c.args.switch < length c.self.inside.switches.items = search rules in
    let at = found_at c.self.inside.switches.items c.args.switch c.in-Some.switch.now inside c.in-Some.ensures.value in
    written_at c.self.inside.ranges.items c.self.inside.switches.items c.args.switch c.args.addr c.args.value c.in-Some.switch.now c.set.new.self c.set.result at c.set.ensures.written

pub returns-clause-others : goal.returns-clause-others
returns-clause-others c =
    let inside : c.args.switch < length c.self.inside.switches.items = search rules in
    let at = found_at c.self.inside.switches.items c.args.switch c.in-Some.switch.now inside c.in-Some.ensures.value in
    rw (← c.self.view_is) (others_at c.self.inside.ranges.items c.self.inside.switches.items c.args.switch c.args.addr c.args.value c.in-Some.switch.now c.set.new.self c.set.result at c.set.ensures.others)
