use Rattle.c104_check.proofs.{HomeLemmas.wired_entry, OwnStarts.{have_passed, have_quiet}, RandomLemmas.random_at_tells}
use Rattle.{c104_check.specs.{Parts.{AreJust, IsReachedFrom}, Trails.routes_in}, std.proofs.Common.{subst, sym, ◌∙◌, ◌≡◌}}
use Rattle.c104_check.proofs.routes.Routes.add_found_by.Goals as goal

pub returns-then-not-is_random_at-clause-portals : goal.returns-then-not-is_random_at-clause-portals
returns-then-not-is_random_at-clause-portals c = have_passed (routes_in c.args.self.now) c.args.entry c.args.starts.now.items c.args.header (sym c.is_random_at.ensures ∙ c.if-not-is_random_at.true) c.requires.before

pub returns-then-not-breaks-header-clause-portals : goal.returns-then-not-breaks-header-clause-portals
returns-then-not-breaks-header-clause-portals c = have_quiet (routes_in c.args.self.now) c.args.breaks.now c.args.entry c.args.starts.now.items c.args.header c.requires.network c.requires.breaks c.requires.below c.if-not-breaks-header.true (wired_entry (routes_in c.args.self.now) c.args.terminal c.args.entry c.requires.network c.requires.wired) c.requires.before

pub add_discarding-requires-clause-random : goal.add_discarding-requires-clause-random
add_discarding-requires-clause-random c = random_at_tells (routes_in c.args.self.now) c.args.entry c.args.header c.requires.below (sym c.is_random_at.ensures ∙ c.if-not-is_random_at.false)

pub add_discarding-requires-clause-reached : goal.add_discarding-requires-clause-reached
add_discarding-requires-clause-reached c = subst (AreJust (IsReachedFrom (routes_in c.args.self.now) c.args.header (λ x. c.args.entry ≡ x))) (sym c.as_slice.ensures.value) c.in_ok-inputs.ensures.reached
