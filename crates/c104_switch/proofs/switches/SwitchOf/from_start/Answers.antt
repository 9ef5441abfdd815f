use Rattle.{c104_regs.specs.Registers.RegisterBank, c104_switch.{proofs.StartLinks.sound_from, specs.Starts.{start_input, start_output}}}
use Rattle.std.proofs.Common.{ap, map, ◌∙◌}

pub invariant_of-result : Rattle.c104_switch.proofs.switches.SwitchOf.from_start.Goals.invariant_of-result
invariant_of-result g c =
    sound_from c.args.start.now c.links.ensures.kept c.in_ok-registers.registers.value.started c.in_ok-registers.registers.value.settings c.in_ok-inputs.inputs c.in_ok-outputs.outputs
    (ap (λ (b : RegisterBank). b.settings) c.in_ok-registers.ensures.ok ∙ c.registers.ensures.settings)
    (c.in_ok-inputs.ensures ∙ ap (map start_input) c.links-2.ensures.links)
    (c.in_ok-outputs.ensures ∙ ap (map start_output) c.links.ensures.links)
