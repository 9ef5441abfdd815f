-- A plan to be labelled as a tree, as it is while its lines are read: made line by line, and each terminal's
-- range begins where that of the one before ends.
use Rattle.c104_describe.specs.PlanPrint.{continue_words, counted_words, delete_words, wire_words}
use Rattle.c104_plan.specs.{Distinctness.AreDistinct, PlanParts.without_first, Plans.{AreNames, IsPlan, IsRange, Plan, host_port}}
use Rattle.c104_plan.specs.{Plans.{label_count, next_first, total_count}, PortTexts.{port_text, terminal_name}, Ports.IsSwitchPort}
use Rattle.c104_plan.specs.{Ports.{both_ends, is_port}, declared.{plans.{Shape.TheVariants.Hand, Terminal.Terminal}, ports.Port.Port}}
use Rattle.{c104_plan.specs.declared.ports.Wire.Wire, std.proofs.Common.{All, List, [], ap, arith, codes, length, map, refl, slice_get}}
use Rattle.std.proofs.{Common.{subst, suc, sym, zero, ℕ, ◌++◌, ◌+◌, ◌<◌, ◌∙◌, ◌∷◌, ◌≡◌, ◌≤◌}, lemmas.List.Elements.{All-cons, All-head}}
use Rattle.std.{proofs.lemmas.List.Elements.{All-nil, All-tail}, specs.Option.option_map_or}

-- the first range begins at n
abbrev pub counted_from : ℕ → List Terminal → List Terminal
counted_from n [] = []
counted_from n (t ∷ terminals) = record t { first = n } ∷ counted_from (n + t.count) terminals

-- where the last range ends, and n where there is none
end_from : ℕ → List Terminal → ℕ
end_from n [] = n
end_from n (t ∷ terminals) = end_from (t.first + t.count) terminals

last_end : (n : ℕ) (t : Terminal) (terminals : List Terminal) → next_first (t ∷ terminals) ≡ end_from n (t ∷ terminals)
unfolding end_from
last_end n t [] = refl
last_end n t (u ∷ terminals) = last_end (t.first + t.count) u terminals

next_end : (terminals : List Terminal) → next_first terminals ≡ end_from 0 terminals
unfolding end_from
next_end [] = refl
next_end (t ∷ terminals) = last_end 0 t terminals

begins_at : (n : ℕ) (terminals done : List Terminal) (t : Terminal) (more : List Terminal) → done ++ t ∷ more ≡ counted_from n terminals → t.first ≡ end_from n done
unfolding end_from
begins_at n [] [] t more is = cc
begins_at n [] (d ∷ done) t more is = cc
begins_at n (u ∷ terminals) [] t more is = let same : t ≡ record u { first = n } = cc in ap (λ (v : Terminal). v.first) same
begins_at n (u ∷ terminals) (d ∷ done) t more is =
    let same : d ≡ record u { first = n } = cc in
    let rest : done ++ t ∷ more ≡ counted_from (n + u.count) terminals = cc in
    begins_at (n + u.count) terminals done t more rest ∙ ap (λ (v : Terminal). end_from (v.first + v.count) done) (sym same)

-- each begins where the one before ends
pub begins_there : (terminals done : List Terminal) (t : Terminal) (more : List Terminal) → done ++ t ∷ more ≡ counted_from 0 terminals → next_first done ≡ t.first
begins_there terminals done t more is = next_end done ∙ sym (begins_at 0 terminals done t more is)

-- What is as it was

same_hosts : (n : ℕ) (terminals : List Terminal) → map host_port (counted_from n terminals) ≡ map host_port terminals
same_hosts n [] = refl
same_hosts n (t ∷ terminals) = ap (λ ports. host_port t ∷ ports) (same_hosts (n + t.count) terminals)

same_names : (n : ℕ) (terminals : List Terminal) → map (λ (t : Terminal). t.name) (counted_from n terminals) ≡ map (λ (t : Terminal). t.name) terminals
same_names n [] = refl
same_names n (t ∷ terminals) = ap (λ names. t.name ∷ names) (same_names (n + t.count) terminals)

same_count : (n : ℕ) (terminals : List Terminal) → length (counted_from n terminals) ≡ length terminals
same_count n [] = refl
same_count n (t ∷ terminals) = ap suc (same_count (n + t.count) terminals)

name_at : (n : ℕ) (terminals : List Terminal) (k : ℕ) → option_map_or (λ (t : Terminal). t.name) (slice_get (counted_from n terminals) k) [] ≡ option_map_or (λ (t : Terminal). t.name) (slice_get terminals k) []
name_at n [] k = refl
name_at n (t ∷ terminals) zero = refl
name_at n (t ∷ terminals) (suc k) = name_at (n + t.count) terminals k

hosts_all : (switches n : ℕ) (terminals : List Terminal) → All (λ (t : Terminal). IsSwitchPort switches (host_port t)) terminals → All (λ (t : Terminal). IsSwitchPort switches (host_port t)) (counted_from n terminals)
hosts_all switches n [] all = All-nil _
hosts_all switches n (t ∷ terminals) all =
    All-cons (λ (u : Terminal). IsSwitchPort switches (host_port u)) (record t { first = n }) (counted_from (n + t.count) terminals) (All-head (λ (u : Terminal). IsSwitchPort switches (host_port u)) t terminals all)
    (hosts_all switches (n + t.count) terminals (All-tail (λ (u : Terminal). IsSwitchPort switches (host_port u)) t terminals all))

-- ranges that end within the labels
ranges_all : (n : ℕ) (terminals : List Terminal) → All (λ (t : Terminal). IsRange t.first t.count) terminals → n + total_count terminals ≤ label_count → All (λ (t : Terminal). IsRange t.first t.count) (counted_from n terminals)
ranges_all n [] all few = All-nil _
ranges_all n (t ∷ terminals) all few =
    let range : IsRange t.first t.count = All-head (λ (u : Terminal). IsRange u.first u.count) t terminals all in
    All-cons (λ (u : Terminal). IsRange u.first u.count) (record t { first = n }) (counted_from (n + t.count) terminals) (range.0, omega (arith, few))
    (ranges_all (n + t.count) terminals (All-tail (λ (u : Terminal). IsRange u.first u.count) t terminals all) (omega (arith, few)))

-- their counts alone
pub counts_again : (n : ℕ) (terminals : List Terminal) → All (λ (t : Terminal). t.first ≡ 0) terminals → map without_first (counted_from n terminals) ≡ terminals
counts_again n [] all = refl
counts_again n (t ∷ terminals) all =
    let first : t.first ≡ 0 = All-head (λ (u : Terminal). u.first ≡ 0) t terminals all in
    λ i. record t { first = sym first i } ∷ counts_again (n + t.count) terminals (All-tail (λ (u : Terminal). u.first ≡ 0) t terminals all) i

module _ (plan : Plan) where
  -- the plan as it is read
  abbrev pub counted : Plan
  counted = record plan { shape = Hand; terminals = counted_from 0 plan.terminals }

  pub counted_kept : IsPlan plan → total_count plan.terminals ≤ label_count → IsPlan counted
  counted_kept kept few = record {
    header = kept.header;
    cap = kept.cap;
    shape = tt;
    few_switches = kept.few_switches;
    names = subst AreNames (ap (λ names. plan.switches ++ names) (sym (same_names 0 plan.terminals))) kept.names;
    terminals = record {
      few = omega (arith, same_count 0 plan.terminals, kept.terminals.few);
      on_switches = hosts_all (length plan.switches) 0 plan.terminals kept.terminals.on_switches;
      ranges = ranges_all 0 plan.terminals kept.terminals.ranges (omega (arith, few));
    };
    wires = kept.wires;
    links = subst (AreDistinct is_port) (ap (λ ports. ports ++ both_ends plan.wires) (sym (same_hosts 0 plan.terminals))) kept.links;
    continues = kept.continues;
    deletes = record {
      known = subst (λ n. All (λ t. t < n) plan.deletes) (sym (same_count 0 plan.terminals)) kept.deletes.known;
      once = kept.deletes.once;
    };
    bases = kept.bases;
    rows = kept.rows;
    randoms = kept.randoms;
  }

  -- its lines are those of the plan

  same_terminal : (k : ℕ) → terminal_name counted k ≡ terminal_name plan k
  same_terminal k = name_at 0 plan.terminals k

  same_port : (p : Port) → port_text counted p ≡ port_text plan p
  same_port p = search (arith, same_terminal)

  pub same_wires : (wires : List Wire) → map (wire_words counted) wires ≡ map (wire_words plan) wires
  same_wires wires = search (arith, codes, same_port)

  pub same_continues : (continues : List Port) → map (continue_words counted) continues ≡ map (continue_words plan) continues
  same_continues continues = search (arith, codes, same_port)

  pub same_deletes : (deletes : List ℕ) → map (delete_words counted) deletes ≡ map (delete_words plan) deletes
  same_deletes deletes = search (arith, codes, same_terminal)

  pub same_terminals : (n : ℕ) (terminals : List Terminal) → map (counted_words counted) (counted_from n terminals) ≡ map (counted_words plan) terminals
  same_terminals n [] = refl
  same_terminals n (t ∷ terminals) = ap (λ lines. counted_words plan t ∷ lines) (same_terminals (n + t.count) terminals)
