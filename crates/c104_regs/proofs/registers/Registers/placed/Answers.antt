use Rattle.{c104_regs.proofs.PlacedRegisters.kept_placed, std.proofs.Common.{ap, arith, replicate, sym, take, ◌∙◌, ◌≡◌}}
use Rattle.std.proofs.lemmas.List.{take_all}
use Rattle.c104_regs.proofs.registers.Registers.placed.Goals as goal

same : (c : goal.After-reset) → c.loop-link.own ≡ c.args.settings.now
same c =
    let own : take c.loop-link.link c.loop-link.own ≡ c.loop-link.own = take_all c.loop-link.link c.loop-link.own (omega (arith, c.loop-link.invariant.0)) in
    let given : take c.loop-link.link c.args.settings.now ≡ c.args.settings.now = take_all c.loop-link.link c.args.settings.now (omega (arith, c.requires.links)) in
    sym own ∙ c.loop-link.invariant.1 ∙ given

pub invariant_of-result : goal.invariant_of-result
invariant_of-result c = (kept_placed _ c.args.settings.now _ _ (same c) (ap (replicate 32) c.reset.ensures) c.requires.links c.requires.ranges, c.continues_of.ensures.number)
