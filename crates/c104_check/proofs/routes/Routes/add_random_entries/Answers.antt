use Rattle.c104_check.proofs.{PartLemmas.no_header, RandomLemmas.{random_at_tells, random_at_told}, ReachLemmas.entries_all}
use Rattle.c104_check.{proofs.ReachLemmas.{entries_first, entry_joined, entry_passed, just_none, none_found}, specs.Parts.AreJust}
use Rattle.c104_check.specs.{Parts.IsRandomBeginning, Reach.AreDistinctInputs, Routes.{IsRandomAt, header_count}, Trails.routes_in}
use Rattle.std.proofs.Common.{ap, arith, false, length, subst, sym, true, ◌<◌, ◌∙◌, ◌≡◌}
use Rattle.c104_check.proofs.routes.Routes.add_random_entries.Goals.{else-is_random_at, then-is_random_at+in_ok-add}
use Rattle.c104_check.proofs.routes.Routes.add_random_entries.Goals as goal

pub returns-then-header-header_count : goal.returns-then-header-header_count
returns-then-header-header_count c =
    let routes = routes_in c.args.self.now in
    record {
      distinct = subst (AreDistinctInputs routes) (sym c.requires) (none_found routes);
      entries = subst (AreJust (IsRandomBeginning routes c.args.header)) (sym c.requires) (just_none (IsRandomBeginning routes c.args.header) (no_header routes c.args.header (omega (arith, c.if-header-header_count.true, c.header_count.ensures))));
    }

pub loop-terminal-init : goal.loop-terminal-init
loop-terminal-init c =
    let first = entries_first (routes_in c.args.self.now) (λ p. IsRandomAt (routes_in c.args.self.now) p c.args.header) c.args.inputs.now c.requires in
    record { distinct = first.0; entries = first.1 }

pub loop-terminal-preserved : goal.loop-terminal-preserved
loop-terminal-preserved c =
    let routes = routes_in c.args.self.now in
    let low : c.args.header < header_count routes = omega (arith, c.if-header-header_count.false, c.header_count.ensures) in
    elim c.if-is_random_at.branch [
      | then-is_random_at+in_ok-add w ↦
          let next = entry_joined routes (λ p. IsRandomAt routes p c.args.header) c.loop-terminal.terminal c.loop-terminal.inputs w.add.new.self c.entry-entry.result c.entry-entry.ensures.entry c.entry-entry.ensures.input
          (random_at_tells routes c.entry-entry.result c.args.header low (sym c.is_random_at.ensures ∙ w.if-is_random_at.true)) c.loop-terminal.invariant.distinct c.loop-terminal.invariant.entries w.in_ok-add.ensures in
          rw w.inputs-is (record { distinct = next.0; entries = next.1 })
      | else-is_random_at w ↦
          let not : IsRandomAt routes c.entry-entry.result c.args.header → ⊥ = λ random. let clash : true ≡ false = sym (random_at_told routes c.entry-entry.result c.args.header random) ∙ sym c.is_random_at.ensures ∙ w.if-is_random_at.false in absurd cc in
          rw w.inputs-is (record {
            distinct = c.loop-terminal.invariant.distinct;
            entries = entry_passed routes (λ p. IsRandomAt routes p c.args.header) c.loop-terminal.terminal c.loop-terminal.inputs c.entry-entry.result c.entry-entry.ensures.entry not c.loop-terminal.invariant.entries;
          })
    ]

pub returns-clause-entries : goal.returns-clause-entries
returns-clause-entries c =
    let routes = routes_in c.args.self.now in
    let same = ap length c.ranges-terminal-end.ensures.ranges in
    entries_all routes (λ p. IsRandomAt routes p c.args.header) (IsRandomBeginning routes c.args.header) c.loop-terminal.terminal c.loop-terminal.inputs c.ranges-terminal-end.ensures.network (omega (arith, c.loop-terminal-test.false, c.loop-terminal.auto.terminal-end, same))
    (λ p. (λ is. is, λ is. is)) c.loop-terminal.invariant.entries
