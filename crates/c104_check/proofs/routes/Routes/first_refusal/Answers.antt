use Rattle.c104_check.{proofs.{Homeless.told_first, OwnStarts.own_inputs}, specs.{Parts.{IsFirstRefusal, IsNeverRefused}, Refusals.Refusal}}
use Rattle.{c104_check.specs.Trails.routes_in, std.proofs.Common.{MatchOption, Option, arith, length, subst, sym, ◌∙◌}}
use Rattle.c104_check.proofs.routes.Routes.first_refusal.Goals as goal

pub returns-then-header-header_count : goal.returns-then-header-header_count
returns-then-header-header_count c = λ below. absurd (omega (arith, below, c.if-header-header_count.true, c.header_count.ensures))

pub refused_before-requires-clause-starts : goal.refused_before-requires-clause-starts
refused_before-requires-clause-starts c =
    let routes = routes_in c.args.self.now in
    own_inputs routes c.args.starts.now (length routes.ranges) c.requires.starts

pub returns-in-Some : goal.returns-in-Some
returns-in-Some c =
    let routes = routes_in c.args.self.now in
    let h = c.args.header in
    let told = told_first routes c.args.starts.now h (length c.args.starts.now) c.requires.network c.requires.starts (omega arith) (omega (arith, c.if-header-header_count.false, c.header_count.ensures)) c.in_ok-random.random c.in_ok-own.own c.in_ok-random.ensures c.in_ok-own.ensures in
    let first = subst (λ (o : Option Refusal). MatchOption o (IsNeverRefused routes h) (λ (r : Refusal). IsFirstRefusal routes h r.why r.shown)) (sym c.earlier.ensures ∙ c.in-Some.is) told in
    (c.in-Some.refusal.why, c.in-Some.refusal.shown, c.into_fault.ensures, first)

pub returns-in-None : goal.returns-in-None
returns-in-None c =
    let routes = routes_in c.args.self.now in
    let h = c.args.header in
    let told = told_first routes c.args.starts.now h (length c.args.starts.now) c.requires.network c.requires.starts (omega arith) (omega (arith, c.if-header-header_count.false, c.header_count.ensures)) c.in_ok-random.random c.in_ok-own.own c.in_ok-random.ensures c.in_ok-own.ensures in
    subst (λ (o : Option Refusal). MatchOption o (IsNeverRefused routes h) (λ (r : Refusal). IsFirstRefusal routes h r.why r.shown)) (sym c.earlier.ensures ∙ c.in-None.is) told
