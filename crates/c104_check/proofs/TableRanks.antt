-- What the table of dependencies, and ranks that fall along those in it, tell of a network.
use Rattle.c104_check.proofs.{AcyclicLemmas.arrived_input, LinkLemmas.{first_link, input_at, place_below}, OwnerLemmas.owner_owns}
use Rattle.c104_check.{proofs.{RandomLemmas.random_header, ReachLemmas.input_same}, specs.ChannelDependencies.{AreRanksWithin, Depends}}
use Rattle.c104_check.specs.{ChannelDependencies.{DependsBy, IsBeginningBy, IsRanking, input_count}, Checks.IsFirstLink}
use Rattle.c104_check.specs.{Cycles.{AreAllRanked, ArePartialRanks, LeadsToUnranked}, Dependencies.{AreDependencies, AreListedBelow}}
use Rattle.c104_check.specs.{Dependencies.{Dependency, dependency_at, dependency_place, is_by_from}, FirstCycles.{IsOver, LeadsOver}}
use Rattle.c104_check.specs.{FirstCycles.LeadsToCycle, Ranks.{rank_at, rank_in}, Routes.{IsAccepted, Routes, SwitchPort, header_count}}
use Rattle.{c104_check.specs.{Routes.{place, port_at, to_port}, Trails.{IsInput, IsNetwork}}, c104_plan.specs.declared.ports.Port.Port}
use Rattle.std.proofs.Common.{List, Option, Some, ap, arith, inl, inr, length, subst, suc, sym, true, zero, ℕ, ◌*◌, ◌<◌, ◌∙◌, ◌≡◌, ◌≤◌}
use Rattle.std.proofs.lemmas.{Bool.{Decides.nat_tests, cases_lt}, Option.same_Some}

by_some : (h : ℕ) (o : Option Dependency) → is_by_from h o ≡ true → (d : Dependency) × (o ≡ Some d) × (h ≤ d.header)
by_some h o is = search (arith, nat_tests)

-- packets begin to go by headers of the network alone
begun_header : (routes : Routes) (h : ℕ) (x : SwitchPort) → IsAccepted routes → IsBeginningBy routes h x → h < header_count routes
begun_header routes h x accepted (inl (t, owned, begins)) = accepted.small t h (owner_owns routes h t owned)
begun_header routes h x accepted (inr (t, wired, random)) = random_header routes x h random

-- wires join two ports
same_link : (s o u : ℕ) → Some (Port.Switch s o) ≡ Some (Port.Switch s u) → o ≡ u
same_link s o u is = cc

pub one_link : (routes : Routes) (p q : SwitchPort) (o u : ℕ) → IsNetwork routes → IsOver routes p o q → IsOver routes p u q → o ≡ u
one_link routes p q o u net first second =
    same_link p.switch o u (sym (net.back (Port.Switch p.switch o) (to_port q) first) ∙ net.back (Port.Switch p.switch u) (to_port q) second)

-- what stands for an input and a link is a dependency of it, over that link
pub entry_is : (routes : Routes) (table : List (Option Dependency)) (at : SwitchPort) (o : ℕ) (d : Dependency) → AreDependencies routes table → IsInput (length routes.settings) at → o < 32 → dependency_at table (dependency_place at o) ≡ Some d → DependsBy routes d.header at d.next × IsOver routes at o d.next
entry_is routes table at o d dependencies here low there = search arith

-- what the table has for a dependency
pub record IsFound (routes : Routes) (table : List (Option Dependency)) (p q : SwitchPort) : Type 0 where
  pub link : ℕ
  pub dependency : Dependency
  pub low : link < 32
  pub there : dependency_at table (dependency_place p link) ≡ Some dependency
  pub next : dependency.next ≡ q
  pub input : IsInput (length routes.settings) p
  pub over : IsOver routes p link q

module _ (routes : Routes) (table : List (Option Dependency)) (net : IsNetwork routes) (accepted : IsAccepted routes) (dependencies : AreDependencies routes table) (listed : AreListedBelow routes table (header_count routes)) where
  -- one by a header stands over a link
  listed_over : (p q : SwitchPort) (h : ℕ) → DependsBy routes h p q → (o : ℕ) × (d : Dependency) × (o < 32) × IsOver routes p o q × (dependency_at table (dependency_place p o) ≡ Some d) × (h ≤ d.header)
  listed_over p q h (arrives, follows) =
      let o : ℕ = follows.1 in
      let note = listed h (begun_header routes h arrives.0 accepted arrives.2) p arrives q follows in
      let found = by_some h (dependency_at table (dependency_place p o)) note.1 in
      (o, found.0, note.0, follows.4, found.1, found.2)

  pub find_listed : (p q : SwitchPort) → Depends routes p q → IsFound routes table p q
  find_listed p q (h, by) =
      let found = listed_over p q h by in
      let o : ℕ = found.0 in
      let d : Dependency = found.1 in
      let here = arrived_input routes h p net by.0 in
      search (arith, entry_is, input_same)

  -- none depends so by a higher header than the one that stands there
  pub most_listed : (p : SwitchPort) (o h : ℕ) (d : Dependency) → IsInput (length routes.settings) p → o < 32 → dependency_at table (dependency_place p o) ≡ Some d → DependsBy routes h p d.next → h ≤ d.header
  most_listed p o h d here low there by =
      let found = listed_over p d.next h by in
      search (arith, one_link, entry_is, same_Some)

  all_listed : (p q : SwitchPort) (o : ℕ) → Depends routes p q → IsOver routes p o q → (d : Dependency) × (dependency_at table (dependency_place p o) ≡ Some d) × (d.next ≡ q)
  all_listed p q o depends over =
      let found = find_listed p q depends in
      let links : o ≡ found.link = one_link routes p q o found.link net over found.over in
      (found.dependency, ap (λ k. dependency_at table (dependency_place p k)) links ∙ found.there, found.next)

  -- ranks of the inputs from which no dependencies lead into a cycle
  module _ (ranks : List ℕ) (part : ArePartialRanks table ranks) (size : length ranks ≡ length routes.settings * 32) (stuck : (k : ℕ) → k < length ranks → rank_at ranks k ≡ 0 → (d : Dependency) × LeadsToUnranked table ranks k d) where
    -- ranks fall along dependencies, so there are no longer ways
    none_over : (k : ℕ) (p : SwitchPort) → rank_in ranks p ≤ k → 0 < rank_in ranks p → LeadsOver routes k p → ⊥
    none_over zero p within some leads = omega (arith, within, some)
    none_over (suc k) p within some (q, depends, more) =
        let found = find_listed p q depends in
        let down = part.falls (place p) found.dependency some (found.link, found.low, found.there) in
        let low : rank_in ranks q < rank_in ranks p = subst (λ x. rank_in ranks x < rank_in ranks p) found.next down.1 in
        none_over k q (omega (arith, low, within)) (subst (λ x. 0 < rank_in ranks x) found.next down.0) more

    unranked : (p : SwitchPort) → LeadsToCycle routes p → rank_in ranks p ≡ 0
    unranked p leads = elim (cases_lt 0 (rank_in ranks p)) [
      | inl some ↦ absurd (none_over (rank_in ranks p) p (omega arith) some (leads (rank_in ranks p)))
      | inr none ↦ omega (arith, none)
    ]

    -- and from an input without a rank one goes on for ever
    pub leads_over : (k : ℕ) (p : SwitchPort) → IsInput (length routes.settings) p → rank_in ranks p ≡ 0 → LeadsOver routes k p
    leads_over zero p here none = tt
    leads_over (suc k) p here none =
        let below = place_below (length routes.settings) p here in
        let step = stuck (place p) (omega (arith, below, size)) none in
        let d : Dependency = step.0 in
        let o : ℕ = step.1.0.0 in
        let is = entry_is routes table p o d dependencies here step.1.0.1 step.1.0.2 in
        (d.next, (d.header, is.0), leads_over k d.next (net.inputs (Port.Switch p.switch o) d.next is.1) step.1.1)

    pub all_ranked : AreAllRanked routes table ranks
    all_ranked = search (arith, most_listed, all_listed, leads_over, unranked)

    leading_input : (p : SwitchPort) → LeadsToCycle routes p → IsInput (length routes.settings) p
    leading_input p leads = let one = leads 1 in arrived_input routes one.1.0 p net one.1.1.0

    -- the first input without a rank is the first from which dependencies lead into a cycle
    pub first_leading : (k : ℕ) → k < length ranks → rank_at ranks k ≡ 0 → ((j : ℕ) → j < k → 0 < rank_at ranks j) → IsFirstLink (LeadsToCycle routes) (port_at k)
    first_leading k below none before =
        let here = input_at (length routes.settings) k (omega (arith, below, size)) in
        let same : place (port_at k) ≡ k = omega arith in
        first_link (LeadsToCycle routes) (length routes.settings) k leading_input
        (λ q lower leads. (let some = before (place q) lower in let zero_rank = unranked q leads in omega (arith, some, zero_rank)))
        (λ n. leads_over n (port_at k) here (ap (rank_at ranks) same ∙ none))

-- the same of what was read of lists
pub stuck_in : (table : List (Option Dependency)) (ranks : List ℕ) (places : ℕ) (seen : List (Option Dependency)) → seen ≡ table → length ranks ≡ places → ((k : ℕ) → k < places → rank_at ranks k ≡ 0 → (d : Dependency) × LeadsToUnranked seen ranks k d) → (k : ℕ) → k < length ranks → rank_at ranks k ≡ 0 → (d : Dependency) × LeadsToUnranked table ranks k d
stuck_in table ranks places seen read size stuck k below none = search arith

pub first_in : (ranks seen : List ℕ) (k : ℕ) → seen ≡ ranks → (k < length seen) × (rank_at seen k ≡ 0) × ((j : ℕ) → j < k → 0 < rank_at seen j) → (k < length ranks) × (rank_at ranks k ≡ 0) × ((j : ℕ) → j < k → 0 < rank_at ranks j)
first_in ranks seen k read is = subst (λ (xs : List ℕ). (k < length xs) × (rank_at xs k ≡ 0) × ((j : ℕ) → j < k → 0 < rank_at xs j)) read is

pub table_ranking : (routes : Routes) (table : List (Option Dependency)) (ranks : List ℕ) → IsNetwork routes → IsAccepted routes → AreDependencies routes table → AreListedBelow routes table (header_count routes) → ArePartialRanks table ranks → length ranks ≡ length routes.settings * 32 → ((k : ℕ) → k < length ranks → 0 < rank_at ranks k) → IsRanking routes (rank_in ranks)
table_ranking routes table ranks net accepted dependencies listed part size all p q depends =
    let found = find_listed routes table net accepted dependencies listed p q depends in
    let inside = place_below (length routes.settings) p found.input in
    subst (λ x. rank_in ranks x < rank_in ranks p) found.next (part.falls (place p) found.dependency (all (place p) (omega (arith, inside, size))) (found.link, found.low, found.there)).1

pub table_ranks_within : (routes : Routes) (table : List (Option Dependency)) (ranks : List ℕ) → ArePartialRanks table ranks → length ranks ≡ length routes.settings * 32 → AreRanksWithin (input_count routes) (rank_in ranks)
table_ranks_within routes table ranks part size p = (let low = part.low (place p) in omega (arith, low, size))
