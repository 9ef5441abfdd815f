use Rattle.{c104_node.specs.{Nodes.Node, declared.tagged.TaggedToken.TaggedToken}, c104_readback.proofs.SettingsRead.HasSettings}
use Rattle.{c104_readback.proofs.SettingsRead.settings_read, std.{proofs.Common.{Option, Some, ap, subst, ◌∙◌}, specs.Option.option_copied}}
use Rattle.c104_readback.proofs.registers.write_start.Goals as goal

pub returns-in-Switch : goal.returns-in-Switch
returns-in-Switch c = λ s here. (
    let has = settings_read c.args.net.now.network.plan c.places.result.now _ c.args.net.now c.args.switch _ c.places.ensures.shown c.node_at.ensures s here in
    rw c.write_start.ensures (subst (λ (o : Option (Node TaggedToken)). HasSettings o s) (ap option_copied c.in-Some.is ∙ ap Some c.in-Switch.is) has))

pub returns-in-Terminal : goal.returns-in-Terminal
returns-in-Terminal c = λ s here. (
    let has = settings_read c.args.net.now.network.plan c.places.result.now _ c.args.net.now c.args.switch _ c.places.ensures.shown c.node_at.ensures s here in
    absurd (subst (λ (o : Option (Node TaggedToken)). HasSettings o s) (ap option_copied c.in-Some.is ∙ ap Some c.in-Terminal.is) has))
