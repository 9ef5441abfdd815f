use Rattle.{c104_plan.specs.{PlanParts.without_first, Plans.Terminal}, std.proofs.Common.{ap, arith, slice_set, sym, ◌∙◌}}
use Rattle.std.proofs.lemmas.List.Edits.{map_over_more}

pub loop-terminal-preserved : Rattle.c104_plan.proofs.terminal_list.forget_firsts.Goals.loop-terminal-preserved
loop-terminal-preserved c =
    ap (λ (t : Terminal). slice_set c.loop-terminal.terminal-items c.loop-terminal.terminal-index (without_first t)) (sym c.terminal-item.is)
    ∙ map_over_more without_first c.deref_mut-terminal-items.result.now c.loop-terminal.terminal-items c.loop-terminal.terminal-index c.terminal-item.result (omega arith) c.loop-terminal.invariant c.terminal-item.is
