use Rattle.c104_session.proofs.KeptFairLoops.{fair_halted_due, fair_halted_kept, fair_halted_left, fair_idle_due, fair_idle_left}
use Rattle.c104_session.{proofs.{KeptFairLoops.{fair_idle_passed, next_fair_going}, KeptFairRounds.FairGoing}, specs.Keepers.KeepsFairRound}
use Rattle.{c104_stream.proofs.ScriptEnds.err_is, std.proofs.Common.{Ok, inl, subst, sym, ◌+◌, ◌∙◌}}
use Rattle.c104_session.proofs.keepers.keep_fair_rounds.Goals as goal

-- a fault stopped a round
pub returns-in_err-done-clause-due : goal.returns-in_err-done-clause-due
returns-in_err-done-clause-due g c =
    rw (err_is _ _ c.from_residual.ensures)
    (fair_halted_due g.K.Meter.sees g.K.Keeper.keeps c.args.words c.args.net.now c.args.turns.now c.args.keeper.now c.args.count c.loop-round.round
    c.loop-round.handed c.loop-round.net c.keep_fair_round.new.net c.loop-round.turns c.keep_fair_round.new.turns c.loop-round.keeper c.keep_fair_round.new.keeper
    c.loop-round.invariant c.loop-round-test.true c.in_err-done.field-0.0 c.in_err-done.ensures)

pub returns-in_err-done-clause-left : goal.returns-in_err-done-clause-left
returns-in_err-done-clause-left g c =
    fair_halted_left g.K.Meter.sees g.K.Keeper.keeps c.args.words c.args.net.now c.args.turns.now c.args.keeper.now c.args.count c.loop-round.round
    c.loop-round.handed c.loop-round.net c.keep_fair_round.new.net c.loop-round.turns c.keep_fair_round.new.turns c.loop-round.keeper c.keep_fair_round.new.keeper
    c.loop-round.invariant c.loop-round-test.true c.in_err-done.field-0.0 c.in_err-done.ensures

pub returns-in_err-done-clause-kept : goal.returns-in_err-done-clause-kept
returns-in_err-done-clause-kept g c =
    rw (err_is _ _ c.from_residual.ensures)
    (fair_halted_kept g.K.Meter.sees g.K.Keeper.keeps c.args.words c.args.net.now c.args.turns.now c.args.keeper.now c.args.count c.loop-round.round
    c.loop-round.handed c.loop-round.net c.keep_fair_round.new.net c.loop-round.turns c.keep_fair_round.new.turns c.loop-round.keeper c.keep_fair_round.new.keeper
    c.loop-round.invariant c.loop-round-test.true c.in_err-done.field-0.0 c.in_err-done.ensures)

-- nothing was done in a round
pub returns-then-not-done-clause-due : goal.returns-then-not-done-clause-due
returns-then-not-done-clause-due g c =
    fair_idle_due g.K.Meter.sees g.K.Keeper.keeps c.args.words c.args.net.now c.args.turns.now c.args.keeper.now c.args.count c.loop-round.round
    c.loop-round.handed c.loop-round.net c.keep_fair_round.new.net c.loop-round.turns c.keep_fair_round.new.turns c.loop-round.keeper c.keep_fair_round.new.keeper
    c.loop-round.invariant c.loop-round-test.true
    (subst (λ b. KeepsFairRound g.K.Meter.sees g.K.Keeper.keeps c.loop-round.handed c.loop-round.net c.loop-round.turns c.loop-round.keeper (Ok b)
    c.keep_fair_round.new.net c.keep_fair_round.new.turns c.keep_fair_round.new.keeper) c.if-not-done.true c.in_ok-done.ensures)

pub returns-then-not-done-clause-left : goal.returns-then-not-done-clause-left
returns-then-not-done-clause-left g c =
    fair_idle_left g.K.Meter.sees g.K.Keeper.keeps c.args.words c.args.net.now c.args.turns.now c.args.keeper.now c.args.count c.loop-round.round
    c.loop-round.handed c.loop-round.net c.keep_fair_round.new.net c.loop-round.turns c.keep_fair_round.new.turns c.loop-round.keeper c.keep_fair_round.new.keeper
    c.loop-round.invariant c.loop-round-test.true
    (subst (λ b. KeepsFairRound g.K.Meter.sees g.K.Keeper.keeps c.loop-round.handed c.loop-round.net c.loop-round.turns c.loop-round.keeper (Ok b)
    c.keep_fair_round.new.net c.keep_fair_round.new.turns c.keep_fair_round.new.keeper) c.if-not-done.true c.in_ok-done.ensures)

pub returns-then-not-done-clause-kept : goal.returns-then-not-done-clause-kept
returns-then-not-done-clause-kept g c =
    inl (c.pass.ensures
    ∙ fair_idle_passed g.K.Meter.sees g.K.Keeper.keeps c.args.words c.args.net.now c.args.turns.now c.args.keeper.now c.args.count c.loop-round.round
    c.loop-round.handed c.loop-round.net c.keep_fair_round.new.net c.loop-round.turns c.keep_fair_round.new.turns c.loop-round.keeper c.keep_fair_round.new.keeper
    c.loop-round.invariant c.loop-round-test.true
    (subst (λ b. KeepsFairRound g.K.Meter.sees g.K.Keeper.keeps c.loop-round.handed c.loop-round.net c.loop-round.turns c.loop-round.keeper (Ok b)
    c.keep_fair_round.new.net c.keep_fair_round.new.turns c.keep_fair_round.new.keeper) c.if-not-done.true c.in_ok-done.ensures))

-- something was
pub loop-round-preserved : goal.loop-round-preserved
loop-round-preserved g c =
    subst (λ w. FairGoing g.K.Meter.sees g.K.Keeper.keeps c.args.words c.args.net.now c.args.turns.now c.args.keeper.now c.args.count (c.loop-round.round + 1)
    w c.keep_fair_round.new.net c.keep_fair_round.new.turns c.keep_fair_round.new.keeper) (sym c.words_behind-handed.ensures)
    (next_fair_going g.K.Meter.sees g.K.Keeper.keeps c.args.words c.args.net.now c.args.turns.now c.args.keeper.now c.args.count c.loop-round.round
    c.loop-round.handed c.loop-round.net c.keep_fair_round.new.net c.loop-round.turns c.keep_fair_round.new.turns c.loop-round.keeper c.keep_fair_round.new.keeper
    c.loop-round.invariant c.loop-round-test.true
    (subst (λ b. KeepsFairRound g.K.Meter.sees g.K.Keeper.keeps c.loop-round.handed c.loop-round.net c.loop-round.turns c.loop-round.keeper (Ok b)
    c.keep_fair_round.new.net c.keep_fair_round.new.turns c.keep_fair_round.new.keeper) c.if-not-done.false c.in_ok-done.ensures))
