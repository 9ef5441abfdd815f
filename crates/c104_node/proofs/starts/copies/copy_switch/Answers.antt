use Rattle.{c104_node.proofs.StartCopies.switch_back, c104_switch.specs.Starts.switch_start, std.proofs.Common.{ap, ◌∙◌}}

pub returns : Rattle.c104_node.proofs.starts.copies.copy_switch.Goals.returns
returns c = c.write_start.ensures ∙ ap switch_start c.in_ok-switch.ensures ∙ switch_back c.args.start.now
