use Rattle.c104_session.proofs.KeptLoops.{halted_due, halted_kept, halted_left, idle_due, idle_left, idle_passed, next_going}
use Rattle.{c104_session.{proofs.KeptRounds.Going, specs.Keepers.KeepsRound}, c104_stream.proofs.ScriptEnds.err_is, std.proofs.Common.Ok}
use Rattle.std.proofs.Common.{inl, subst, sym, ◌+◌, ◌∙◌}
use Rattle.c104_session.proofs.keepers.keep_rounds.Goals as goal

-- a fault stopped a round
pub returns-in_err-done-clause-due : goal.returns-in_err-done-clause-due
returns-in_err-done-clause-due g c =
    rw (err_is _ _ c.from_residual.ensures)
    (halted_due g.K.Meter.sees g.K.Keeper.keeps c.args.words c.args.net.now c.args.keeper.now c.args.count c.loop-round.round
    c.loop-round.handed c.loop-round.net c.keep_round.new.net c.loop-round.keeper c.keep_round.new.keeper
    c.loop-round.invariant c.loop-round-test.true c.in_err-done.field-0.0 c.in_err-done.ensures)

pub returns-in_err-done-clause-left : goal.returns-in_err-done-clause-left
returns-in_err-done-clause-left g c =
    halted_left g.K.Meter.sees g.K.Keeper.keeps c.args.words c.args.net.now c.args.keeper.now c.args.count c.loop-round.round
    c.loop-round.handed c.loop-round.net c.keep_round.new.net c.loop-round.keeper c.keep_round.new.keeper
    c.loop-round.invariant c.loop-round-test.true c.in_err-done.field-0.0 c.in_err-done.ensures

pub returns-in_err-done-clause-kept : goal.returns-in_err-done-clause-kept
returns-in_err-done-clause-kept g c =
    rw (err_is _ _ c.from_residual.ensures)
    (halted_kept g.K.Meter.sees g.K.Keeper.keeps c.args.words c.args.net.now c.args.keeper.now c.args.count c.loop-round.round
    c.loop-round.handed c.loop-round.net c.keep_round.new.net c.loop-round.keeper c.keep_round.new.keeper
    c.loop-round.invariant c.loop-round-test.true c.in_err-done.field-0.0 c.in_err-done.ensures)

-- nothing was done in a round
pub returns-then-not-done-clause-due : goal.returns-then-not-done-clause-due
returns-then-not-done-clause-due g c =
    idle_due g.K.Meter.sees g.K.Keeper.keeps c.args.words c.args.net.now c.args.keeper.now c.args.count c.loop-round.round
    c.loop-round.handed c.loop-round.net c.keep_round.new.net c.loop-round.keeper c.keep_round.new.keeper
    c.loop-round.invariant c.loop-round-test.true
    (subst (λ b. KeepsRound g.K.Meter.sees g.K.Keeper.keeps c.loop-round.handed c.loop-round.net c.loop-round.keeper (Ok b)
    c.keep_round.new.net c.keep_round.new.keeper) c.if-not-done.true c.in_ok-done.ensures)

pub returns-then-not-done-clause-left : goal.returns-then-not-done-clause-left
returns-then-not-done-clause-left g c =
    idle_left g.K.Meter.sees g.K.Keeper.keeps c.args.words c.args.net.now c.args.keeper.now c.args.count c.loop-round.round
    c.loop-round.handed c.loop-round.net c.keep_round.new.net c.loop-round.keeper c.keep_round.new.keeper
    c.loop-round.invariant c.loop-round-test.true
    (subst (λ b. KeepsRound g.K.Meter.sees g.K.Keeper.keeps c.loop-round.handed c.loop-round.net c.loop-round.keeper (Ok b)
    c.keep_round.new.net c.keep_round.new.keeper) c.if-not-done.true c.in_ok-done.ensures)

pub returns-then-not-done-clause-kept : goal.returns-then-not-done-clause-kept
returns-then-not-done-clause-kept g c =
    inl (c.pass.ensures
    ∙ idle_passed g.K.Meter.sees g.K.Keeper.keeps c.args.words c.args.net.now c.args.keeper.now c.args.count c.loop-round.round
    c.loop-round.handed c.loop-round.net c.keep_round.new.net c.loop-round.keeper c.keep_round.new.keeper
    c.loop-round.invariant c.loop-round-test.true
    (subst (λ b. KeepsRound g.K.Meter.sees g.K.Keeper.keeps c.loop-round.handed c.loop-round.net c.loop-round.keeper (Ok b)
    c.keep_round.new.net c.keep_round.new.keeper) c.if-not-done.true c.in_ok-done.ensures))

-- something was
pub loop-round-preserved : goal.loop-round-preserved
loop-round-preserved g c =
    subst (λ w. Going g.K.Meter.sees g.K.Keeper.keeps c.args.words c.args.net.now c.args.keeper.now c.args.count (c.loop-round.round + 1)
    w c.keep_round.new.net c.keep_round.new.keeper) (sym c.words_behind-handed.ensures)
    (next_going g.K.Meter.sees g.K.Keeper.keeps c.args.words c.args.net.now c.args.keeper.now c.args.count c.loop-round.round
    c.loop-round.handed c.loop-round.net c.keep_round.new.net c.loop-round.keeper c.keep_round.new.keeper
    c.loop-round.invariant c.loop-round-test.true
    (subst (λ b. KeepsRound g.K.Meter.sees g.K.Keeper.keeps c.loop-round.handed c.loop-round.net c.loop-round.keeper (Ok b)
    c.keep_round.new.net c.keep_round.new.keeper) c.if-not-done.false c.in_ok-done.ensures))
