use Rattle.c104_node.specs.{TerminalStarts.new_terminal_start, declared.starts.NodeStart.NodeStart}
use Rattle.{c104_regs.specs.{Settings.reset_settings, declared.registers.TheConstants.LINKS}, c104_switch.specs.Starts.new_start}
use Rattle.std.proofs.Common.{false, map, replicate, take, ◌++◌, ◌≡◌}
use Rattle.c104_run.proofs.traced_net.nodes.new_starts.Given as goal

-- the starts of the switches so far
abbrev pub invariant-loop-name : goal.invariant-loop-name
invariant-loop-name l = l.starts.items ≡ map (λ name. NodeStart.Switch (new_start l.cap (replicate LINKS reset_settings) false)) (take l._name-index l._name-items)

-- and those of the terminals so far
abbrev pub invariant-loop-terminal : goal.invariant-loop-terminal
invariant-loop-terminal l =
    l.starts.items
    ≡ map (λ name. NodeStart.Switch (new_start l.cap (replicate LINKS reset_settings) false)) l.plan.switches
    ++ map (λ terminal. NodeStart.Terminal (new_terminal_start l.cap)) (take l._terminal-index l._terminal-items)
