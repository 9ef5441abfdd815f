use Rattle.c104_check.proofs.{HomeLemmas.{all_home, is_none_of}, StartLemmas.{first_random_of, plain_covers, plain_of, plain_starts}}
use Rattle.c104_check.{proofs.StartLemmas.portals_front, specs.{Refusals.Start, Routes.SwitchPort, Starts.{AreStarts, CoverPortals}}}
use Rattle.{c104_check.specs.{Starts.CoverTerminals, Trails.routes_in}, std.proofs.Common.{List, arith, false, subst, sym, ◌+◌, ◌∙◌}}
use Rattle.c104_check.proofs.routes.Routes.add_terminal.Goals as goal

pub returns-then-not-randomize-clause-starts : goal.returns-then-not-randomize-clause-starts
returns-then-not-randomize-clause-starts c =
    let routes = routes_in c.args.self.now in
    let plain = plain_of routes c.entry-entry.result c.settings.result.now c.settings.ensures.settings (sym c.randomize.ensures ∙ c.if-not-randomize.true) in
    subst (AreStarts routes) (sym c.in_ok-push.ensures.items) (plain_starts routes c.requires.network c.args.starts.now.items c.args.terminal c.entry-entry.result c.entry-entry.ensures.entry c.entry-entry.ensures.input plain c.requires.starts c.requires.covers)

pub returns-then-not-randomize-clause-covers : goal.returns-then-not-randomize-clause-covers
returns-then-not-randomize-clause-covers c =
    let routes = routes_in c.args.self.now in
    let plain = plain_of routes c.entry-entry.result c.settings.result.now c.settings.ensures.settings (sym c.randomize.ensures ∙ c.if-not-randomize.true) in
    subst (λ (xs : List Start). CoverTerminals routes xs (c.args.terminal + 1)) (sym c.in_ok-push.ensures.items) (plain_covers routes c.requires.network c.args.starts.now.items c.args.terminal c.entry-entry.result c.entry-entry.ensures.entry c.entry-entry.ensures.input plain c.requires.starts c.requires.covers)

pub returns-then-not-randomize-clause-portals : goal.returns-then-not-randomize-clause-portals
returns-then-not-randomize-clause-portals c = λ none.
    let routes = routes_in c.args.self.now in
    subst (λ (xs : List Start). CoverPortals routes xs c.args.portals.now.items) (sym c.in_ok-push.ensures.items) (portals_front routes c.args.starts.now.items (record { terminal = c.args.terminal; at = c.entry-entry.result; behind = false }) c.args.portals.now.items c.requires.portals)

pub returns-then-is_some-clause-covers : goal.returns-then-is_some-clause-covers
returns-then-is_some-clause-covers c = first_random_of (routes_in c.args.self.now) c.args.starts.now.items c.args.terminal c.entry-entry.result c.in_ok-refusal.refusal (sym c.is_some.ensures ∙ c.if-is_some.true) c.entry-entry.ensures.entry c.requires.covers c.in_ok-refusal.ensures.refused (CoverTerminals (routes_in c.args.self.now) c.args.starts.now.items (c.args.terminal + 1))

pub add_behind-requires-clause-homes : goal.add_behind-requires-clause-homes
add_behind-requires-clause-homes c = all_home (routes_in c.args.self.now) c.args.terminal c.entry-entry.result c.in_ok-refusal.refusal (sym c.is_some.ensures ∙ c.if-is_some.false) c.in_ok-refusal.ensures.refused

pub add_behind-requires-clause-portals : goal.add_behind-requires-clause-portals
add_behind-requires-clause-portals c = record {
  old = c.args.portals.now.items;
  count = omega (arith, c.len-known.ensures);
  joined = c.as_slice.ensures.value ∙ c.in_ok-refusal.ensures.met (is_none_of c.in_ok-refusal.refusal (sym c.is_some.ensures ∙ c.if-is_some.false));
  covers = c.requires.portals;
}

pub returns : goal.returns
returns c = record {
  starts = c.in_ok-add_behind.ensures.starts;
  covers = c.in_ok-add_behind.ensures.covers;
  portals = λ none. subst (λ (xs : List SwitchPort). CoverPortals (routes_in c.args.self.now) c.add_behind.new.starts.items xs) c.as_slice.ensures.value c.in_ok-add_behind.ensures.portals;
}
