use Rattle.c104_check.{proofs.StartLemmas.{starts_inputs, told_first, told_last}, specs.Refusals.{AllLand, AreInputs, IsFirstIn, Refusal}}
use Rattle.{c104_check.specs.{Refusals.Start, Trails.routes_in}, std.proofs.Common.{List, MatchOption, Option, subst, sym}}
use Rattle.c104_check.proofs.routes.Routes.first_refused.Goals as goal

pub first_at-requires-clause-starts : goal.first_at-requires-clause-starts
first_at-requires-clause-starts c = subst (AreInputs (routes_in c.args.self.now)) (sym c.as_slice-3.ensures.value) (starts_inputs (routes_in c.args.self.now) c.add_starts.new.starts.items c.in_ok-random.ensures.starts)

pub returns-in-Some : goal.returns-in-Some
returns-in-Some c =
    let routes = routes_in c.args.self.now in
    let starts = c.add_starts.new.starts.items in
    let first = subst (λ (o : Option Refusal). MatchOption o (AllLand routes c.as_slice-3.result.now) (IsFirstIn routes c.as_slice-3.result.now)) c.in-Some.is c.in_ok-refusal.ensures in
    told_first routes starts c.in-Some.refusal c.requires c.in_ok-random.ensures.starts (subst (λ (xs : List Start). IsFirstIn routes xs c.in-Some.refusal) c.as_slice-3.ensures.value first)

pub returns : goal.returns
returns c =
    let routes = routes_in c.args.self.now in
    let starts = c.add_starts.new.starts.items in
    let all = subst (λ (o : Option Refusal). MatchOption o (AllLand routes c.as_slice-3.result.now) (IsFirstIn routes c.as_slice-3.result.now)) c.in-None.is c.in_ok-refusal.ensures in
    told_last routes starts c.in_ok-random.random c.requires (subst (AllLand routes) c.as_slice-3.ensures.value all) c.in_ok-random.ensures.covers
