use Rattle.{c104_commands.proofs.WithoutKept.terminal_free, std.proofs.Common.{rules, ◌∙◌, ◌≡◌}}

pub push-requires : Rattle.c104_commands.proofs.plan_copies.copy_terminals.Goals.push-requires
push-requires c =
    let same : c.in_ok-own.own ≡ c.terminal-item.result = search rules in
    terminal_free c.args.plan.now c.loop-terminal.terminals c.terminals-terminal-items.result.now c.loop-terminal.terminal-index c.in_ok-own.own _ c.terminals-terminal-items.ensures.kept c.terminals-terminal-items.ensures.terminals c.loop-terminal.invariant c.loop-terminal-test.true (same ∙ c.terminal-item.is)
