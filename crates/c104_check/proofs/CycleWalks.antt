-- The walk from input to input along dependencies, until it meets an input again.
use Rattle.c104_check.proofs.CycleCuts.{IsChain, chain_more, dependency_of, inputs-snoc, inputs_of, is_cycle_cut, is_of_input}
use Rattle.c104_check.proofs.{CycleCuts.length-inputs, FirstCycleLemmas.{distinct_rest, way_more}, TableRanks.entry_is}
use Rattle.c104_check.{proofs.TrailLemmas.{All-snoc, IsDistinct-snoc, inputs_room}, specs.ChannelDependencies.{ChannelDependency, Depends}}
use Rattle.c104_check.specs.{Checks.IsFirstLink, Cycles.{AreAllRanked, LeadsFirst}, Dependencies.{AreDependencies, Dependency}}
use Rattle.c104_check.specs.{FirstCycles.{GoesOn, IsFirstCycle, IsOver, IsWay, LeadsToCycle}, Ranks.rank_in, Routes.{Routes, SwitchPort}}
use Rattle.{c104_check.specs.{Routes.place, Trails.{IsInput, IsNetwork}, Walks.{is_met, is_port}}, c104_plan.specs.declared.ports.Port.Port}
use Rattle.std.proofs.Common.{Bool, List, None, Option, Some, [], ap, arith, drop, false, length, nat_lt, not, position, refl, subst, suc}
use Rattle.std.proofs.{Common.{sym, ℕ, ◌*◌, ◌++◌, ◌+◌, ◌<◌, ◌||◌, ◌∙◌, ◌∷◌, ◌≡◌, ◌≤◌}, lemmas.{Bool.Decides.nat_tests, List.length-append}}
use Rattle.std.specs.List.{AllByRecursion, IsDistinct, position_or_len}
use mathlib.Core.Bool.{cond}

not_met : (at : SwitchPort) (steps : List ChannelDependency) → length steps ≤ position_or_len (is_of_input at) steps → is_met at (inputs_of steps) ≡ false
not_met at [] over = refl
not_met at (a ∷ steps) over = by_first (is_port at a.input) refl over (not_met at steps)
  where
    by_first : (b : Bool) → is_port at a.input ≡ b → suc (length steps) ≤ cond (not b) (1 + position_or_len (is_of_input at) steps) 0 → (length steps ≤ position_or_len (is_of_input at) steps → is_met at (inputs_of steps) ≡ false) → (b || is_met at (inputs_of steps)) ≡ false
    by_first b same more later = search arith

none_far : (n m : ℕ) (b : Bool) → nat_lt n m ≡ b → cond b (Some n) None ≡ None → m ≤ n
none_far n m b less is = search (arith, nat_tests)

-- an input that isn't among these
pub met_none : (at : SwitchPort) (steps : List ChannelDependency) → position (is_of_input at) steps ≡ None → is_met at (inputs_of steps) ≡ false
met_none at steps is = not_met at steps (none_far (position_or_len (is_of_input at) steps) (length steps) (nat_lt (position_or_len (is_of_input at) steps) (length steps)) refl is)

-- one dependency more
pub record IsFollowed (routes : Routes) (ranks : List ℕ) (steps new : List ChannelDependency) (start at : SwitchPort) : Type 0 where
  pub chain : IsChain routes new at
  pub way : IsWay routes start new at
  pub inside : AllByRecursion (IsInput (length routes.settings)) (inputs_of new)
  pub once : IsDistinct is_port (inputs_of new)
  pub here : IsInput (length routes.settings) at
  pub rankless : rank_in ranks at ≡ 0
  pub longer : length new ≡ length steps + 1
  pub room : length new ≤ 32 * length routes.settings

-- the first dependency that leads to an input without a rank is the one by which the way goes on
goes_on : (routes : Routes) (table : List (Option Dependency)) (ranks : List ℕ) (at : SwitchPort) (d : Dependency) → IsNetwork routes → AreDependencies routes table → AreAllRanked routes table ranks → IsInput (length routes.settings) at → LeadsFirst table ranks (place at) d → GoesOn routes (dependency_of at d.header) d.next
goes_on routes table ranks at d net dependencies ranked here (o, low, there, rankless, before) =
    let is = entry_is routes table at o d dependencies here low there in
    record {
      link = o;
      over = is.1;
      most = (is.0, λ g by. ranked.most at o g d here low there by);
      leads = (ranked.told d.next (net.inputs (Port.Switch at.switch o) d.next is.1)).0 rankless;
      lowest = lower;
    }
  where
    lower : (u : ℕ) (r : SwitchPort) → u < o → IsOver routes at u r → Depends routes at r → LeadsToCycle routes r → ⊥
    lower u r below over depends leads =
        let entry = ranked.listed at r u depends over in
        let e : Dependency = entry.0 in
        let some : 0 < rank_in ranks r = subst (λ x. 0 < rank_in ranks x) entry.2 (before u e below entry.1) in
        let none : rank_in ranks r ≡ 0 = (ranked.told r (net.inputs (Port.Switch at.switch u) r over)).1 leads in
        omega (arith, some, none)

pub follow_next : (routes : Routes) (table : List (Option Dependency)) (ranks : List ℕ) (steps seen new : List ChannelDependency) (start at : SwitchPort) (k : ℕ) (d : Dependency) → IsNetwork routes → AreDependencies routes table → AreAllRanked routes table ranks → IsChain routes steps at → IsWay routes start steps at → AllByRecursion (IsInput (length routes.settings)) (inputs_of steps) → IsDistinct is_port (inputs_of steps) → IsInput (length routes.settings) at → seen ≡ steps → position (is_of_input at) seen ≡ None → k ≡ place at → LeadsFirst table ranks k d → new ≡ steps ++ dependency_of at d.header ∷ [] → IsFollowed routes ranks steps new start d.next
follow_next routes table ranks steps seen new start at k d net dependencies ranked chain way inside once here read absent placed unranked is =
    let fresh : is_met at (inputs_of steps) ≡ false = met_none at steps (ap (position (is_of_input at)) (sym read) ∙ absent) in
    let of : LeadsFirst table ranks (place at) d = subst (λ j. LeadsFirst table ranks j d) placed unranked in
    let step = entry_is routes table at of.0 d dependencies here of.1 of.2 in
    let more : AllByRecursion (IsInput (length routes.settings)) (inputs_of steps ++ at ∷ []) = All-snoc (IsInput (length routes.settings)) (inputs_of steps) at inside here in
    let apart : IsDistinct is_port (inputs_of steps ++ at ∷ []) = IsDistinct-snoc (inputs_of steps) at once fresh in
    let size = length-append steps (dependency_of at d.header ∷ []) in
    search (arith, inputs_room, inputs_of, length-append, length-inputs, chain_more, way_more, goes_on, inputs-snoc)

-- cut where it meets an input again it is the cycle
pub first_cut : (routes : Routes) (start at : SwitchPort) (steps seen all back cycle : List ChannelDependency) (k : ℕ) → IsFirstLink (LeadsToCycle routes) start → IsChain routes steps at → IsWay routes start steps at → IsDistinct is_port (inputs_of steps) → seen ≡ steps → all ≡ steps → position (is_of_input at) seen ≡ Some k → back ≡ drop k all → cycle ≡ back → IsFirstCycle routes cycle
first_cut routes start at steps seen all back cycle k first chain way once read again found cut copied =
    search (arith, is_cycle_cut, inputs_of, distinct_rest, position)

pub none_chained : IsDistinct is_port (inputs_of [])
unfolding IsDistinct
none_chained = tt
