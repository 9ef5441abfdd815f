use Rattle.c104_session.proofs.SettledRounds.{most_drives, most_settles, refused_drives, refused_settles, settling_first, settling_next}
use Rattle.c104_session.{proofs.SettledRounds.{still_drives, still_settles}, specs.FurtherRounds.{DoesFurther, DrivesFurther, Settles}}
use Rattle.{c104_stream.proofs.ScriptEnds.err_is, std.proofs.Common.{Ok, arith, inl, subst, sym}}
use Rattle.c104_session.proofs.settling.settle.Goals as goal

-- a round was refused, or there was no memory for it
pub returns-in_err-done-clause-due : goal.returns-in_err-done-clause-due
returns-in_err-done-clause-due g c =
    rw (err_is _ _ c.from_residual.ensures)
    (refused_settles g.D.Driver.drives c.args.net.now c.args.driver.now c.loop-round.round c.loop-round.net c.further_round.new.net
    c.loop-round.driver c.further_round.new.self c.loop-round.invariant (omega (arith, c.requires, c.loop-round-test.true)) c.in_err-done.field-0.0
    c.in_err-done.ensures.due)

pub returns-in_err-done-clause-driven : goal.returns-in_err-done-clause-driven
returns-in_err-done-clause-driven g c =
    rw (err_is _ _ c.from_residual.ensures)
    (refused_drives g.D.Driver.drives c.args.net.now c.args.driver.now c.loop-round.round c.loop-round.net c.further_round.new.net
    c.loop-round.driver c.further_round.new.self c.loop-round.invariant (omega (arith, c.requires, c.loop-round-test.true)) c.in_err-done.field-0.0
    c.in_err-done.ensures.due c.in_err-done.ensures.driven)

-- the network stood still
pub returns-then-not-done-clause-due : goal.returns-then-not-done-clause-due
returns-then-not-done-clause-due g c =
    still_settles g.D.Driver.drives c.args.net.now c.args.driver.now c.loop-round.round c.loop-round.net c.further_round.new.net
    c.loop-round.driver c.further_round.new.self c.loop-round.invariant (omega (arith, c.requires, c.loop-round-test.true))
    (subst (λ b. DoesFurther c.loop-round.net (Ok b) c.further_round.new.net) c.if-not-done.true c.in_ok-done.ensures.due)

pub returns-then-not-done-clause-driven : goal.returns-then-not-done-clause-driven
returns-then-not-done-clause-driven g c =
    inl (still_drives g.D.Driver.drives c.args.net.now c.args.driver.now c.loop-round.round c.loop-round.net c.further_round.new.net
    c.loop-round.driver c.further_round.new.self c.loop-round.invariant (omega (arith, c.requires, c.loop-round-test.true))
    (subst (λ b. DoesFurther c.loop-round.net (Ok b) c.further_round.new.net) c.if-not-done.true c.in_ok-done.ensures.due)
    (subst (λ b. DrivesFurther g.D.Driver.drives c.loop-round.driver c.loop-round.net (Ok b) c.further_round.new.self
    c.further_round.new.net) c.if-not-done.true c.in_ok-done.ensures.driven))

-- a round was done
pub loop-round-preserved : goal.loop-round-preserved
loop-round-preserved g c =
    settling_next g.D.Driver.drives c.args.net.now c.args.driver.now c.loop-round.round c.loop-round.net c.further_round.new.net
    c.loop-round.driver c.further_round.new.self c.loop-round.invariant (omega (arith, c.requires, c.loop-round-test.true))
    (subst (λ b. DoesFurther c.loop-round.net (Ok b) c.further_round.new.net) c.if-not-done.false c.in_ok-done.ensures.due)
    (subst (λ b. DrivesFurther g.D.Driver.drives c.loop-round.driver c.loop-round.net (Ok b) c.further_round.new.self
    c.further_round.new.net) c.if-not-done.false c.in_ok-done.ensures.driven)

pub loop-round-init : goal.loop-round-init
loop-round-init g c = settling_first g.D.Driver.drives c.args.net.now c.args.driver.now

-- as many were done as there may be
pub returns-clause-due : goal.returns-clause-due
returns-clause-due g c =
    subst (λ m. Settles c.args.net.now (Ok m) c.loop-round.net) (sym c.requires)
    (most_settles g.D.Driver.drives c.args.net.now c.args.driver.now c.loop-round.round c.loop-round.net c.loop-round.driver
    c.loop-round.invariant (omega (arith, c.requires, c.loop-round-test.false)))

pub returns-clause-driven : goal.returns-clause-driven
returns-clause-driven g c =
    inl (most_drives g.D.Driver.drives c.args.net.now c.args.driver.now c.loop-round.round c.loop-round.net c.loop-round.driver
    c.loop-round.invariant (omega (arith, c.requires, c.loop-round-test.false)))
