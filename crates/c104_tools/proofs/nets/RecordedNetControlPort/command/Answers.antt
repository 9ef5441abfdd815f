use Rattle.{c104_event.specs.declared.events.Event.Event, c104_run.specs.{NetRecords.RecordsEvent, RecordedRuns.AnswersRecord}}
use Rattle.c104_tools.{proofs.{NetAnswers.{by_switch, commands_grown, was_obeyed}, NetRuns.may_give}, specs.NetCommands.IsControlReply}
use Rattle.{c104_tools.specs.NetOutcomes.control_given, std.proofs.Common.{Ok, ap, subst, sym, ◌∙◌}}
use Rattle.c104_tools.proofs.nets.RecordedNetControlPort.command.Goals as goal

-- what is answered is a switch's reply
pub control_bytes-requires : goal.control_bytes-requires
control_bytes-requires g c =
    let before = c.args.self.now in
    let after = c.apply-answer.new.self in
    let it = by_switch before after c.told_plan-plan.ensures.told c.told_plan-plan-2.ensures.told c.args.switch c.new.result c.in_ok-reply.reply c.in_ok-reply.ensures.recorded in
    subst IsControlReply (sym it.replied) tt

-- the list grows by the command and its reply
pub returns-clause-commands : goal.returns-clause-commands
returns-clause-commands g c =
    let before = c.args.self.now in
    let after = c.apply-answer.new.self in
    let same = c.new.ensures ∙ c.as_slice.ensures.value in
    commands_grown before after c.told_plan-plan.ensures.told c.told_plan-plan-2.ensures.told c.args.switch c.args.bytes.now c.control_bytes.result
    (subst (λ r. RecordsEvent before (Event.Control c.args.switch c.args.bytes.now) (Ok r) after) c.control_bytes.ensures
    (subst (λ bytes. RecordsEvent before (Event.Control c.args.switch bytes) (Ok c.in_ok-reply.reply) after) same c.in_ok-reply.ensures.recorded))

-- its switch has obeyed it
pub returns-clause-shown : goal.returns-clause-shown
returns-clause-shown g c =
    let before = c.args.self.now in
    let after = c.apply-answer.new.self in
    let same = c.new.ensures ∙ c.as_slice.ensures.value in
    was_obeyed before after c.told_plan-plan.ensures.told c.told_plan-plan-2.ensures.told c.args.switch c.args.bytes.now c.control_bytes.result
    (subst (λ r. RecordsEvent before (Event.Control c.args.switch c.args.bytes.now) (Ok r) after) c.control_bytes.ensures
    (subst (λ bytes. RecordsEvent before (Event.Control c.args.switch bytes) (Ok c.in_ok-reply.reply) after) same c.in_ok-reply.ensures.recorded))

-- what is given is what its event is answered
pub returns-clause-due : goal.returns-clause-due
returns-clause-due g c =
    let before = c.args.self.now in
    let after = c.apply-answer.new.self in
    let same = c.new.ensures ∙ c.as_slice.ensures.value in
    may_give before after c.args.switch c.args.bytes.now (Ok c.in_ok-reply.reply) (Ok c.control_bytes.result) (ap control_given (ap Ok c.control_bytes.ensures))
    (subst (λ bytes. AnswersRecord before (Event.Control c.args.switch bytes) (Ok c.in_ok-reply.reply) after) same c.in_ok-reply.ensures.due)
