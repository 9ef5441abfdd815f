use Rattle.{c104_check.{proofs.RanksAcyclic.ranked_acyclic, specs.Routes.routes_of}, c104_fixes.specs.Fixes.LeavesAccepted}
use Rattle.{c104_fixes.specs.declared.fixes.TriedFix.TriedFix, std.proofs.Common.{IfSome, subst}}

-- ranks leave no cycle
pub returns-in-Ranks : Rattle.c104_fixes.proofs.waiting.try_break.Goals.returns-in-Ranks
returns-in-Ranks c = (
  subst (λ o. IfSome o (λ (tried : TriedFix). LeavesAccepted c.args.plan.now tried.image)) c.in-Some.is c.in_ok-tried.ensures,
  ranked_acyclic (routes_of c.args.plan.now c.in-Some.tried.image) _ _ c.in_ok-found.ensures.found c.in-Ranks.is,
)
