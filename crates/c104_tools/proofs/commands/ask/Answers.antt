use Rattle.c104_tools.{proofs.Asking.err_is, specs.{Ports.Commanded, Steps.told, declared.faults.LoadFault.LoadFault}}
use Rattle.std.proofs.Common.{Err, Ok, subst, ◌≡◌}
use Rattle.c104_tools.proofs.commands.ask.Goals as goal

pub returns-clause-asked : goal.returns-clause-asked
returns-clause-asked g c =
    let reply = c.in_ok-reply.reply in (
      Ok reply,
      subst (λ bytes. Commanded g.P.ControlPort.commands g.P.ControlPort.switch_count g.P.ControlPort.shown g.P.ControlPort.unanswered g.P.ControlPort.due c.args.port.now c.args.switch bytes (Ok reply) c.command.new.self) c.write_command.ensures.bytes
          (record { replied = (c.in_ok-reply.ensures.commands, c.in_ok-reply.ensures.shown); came = c.in_ok-reply.ensures.due; count = c.in_ok-reply.ensures.count }),
      subst (λ bytes. c.told.result ≡ told c.args.switch c.args.command (Ok bytes)) c.as_slice.ensures.value c.told.ensures.told,
    )

pub returns-in_err-reply-clause-asked : goal.returns-in_err-reply-clause-asked
returns-in_err-reply-clause-asked g c =
    let e = c.in_err-reply.field-0.0 in (
      Err e,
      subst (λ bytes. Commanded g.P.ControlPort.commands g.P.ControlPort.switch_count g.P.ControlPort.shown g.P.ControlPort.unanswered g.P.ControlPort.due c.args.port.now c.args.switch bytes (Err e) c.command.new.self) c.write_command.ensures.bytes
          (record { replied = (c.in_err-reply.ensures.commands, c.in_err-reply.ensures.shown, c.in_err-reply.ensures.fault); came = c.in_err-reply.ensures.due; count = c.in_err-reply.ensures.count }),
      err_is c.from_residual.result (LoadFault.Port e) c.from_residual.ensures,
    )
