use Rattle.{c104_plan.proofs.RangeLists.flat_next, c104_rows.specs.States.{Way, shown_way, terminal_ways}, std.proofs.Common.{ap, ◌++◌}}
use Rattle.std.proofs.Common.{◌∙◌}

pub loop-terminal-preserved : Rattle.c104_rows.proofs.seen.add_terminals.Goals.loop-terminal-preserved
loop-terminal-preserved c =
    flat_next (terminal_ways c.args.net.now c.args.still c.args.round) c.loop-terminal.terminal c.args.list.now.items c.loop-terminal.list.items _
    c.loop-terminal.invariant
    (c.in_ok-add_way.ensures ∙ ap (λ (w : Way). c.loop-terminal.list.items ++ shown_way w) c.terminal_way.ensures)
