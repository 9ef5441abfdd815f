use Rattle.{c104_switch.{proofs.StartLinks.start_kept, specs.Starts.IsSwitchStart}, std.proofs.Common.{subst, sym}}

pub invariant_of-self : Rattle.c104_switch.proofs.switch_start.SwitchStart.write.Goals.invariant_of-self
invariant_of-self g c = (
  subst (λ ls. IsSwitchStart (record { started = c.args.registers.now.started; settings = c.args.registers.now.settings; links = ls })) (sym c.write_links.ensures.links)
      (start_kept (record { started = c.args.registers.now.started; settings = c.args.registers.now.settings; inputs = c.args.inputs.now; outputs = c.args.outputs.now }) c.requires),
  c.write_links.ensures.room,
)
