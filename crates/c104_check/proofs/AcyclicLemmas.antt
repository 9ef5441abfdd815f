-- Ranks that fall along every dependency: a cycle leaves none, and a limit for the inputs of a network does for all.
use Rattle.c104_check.proofs.{PartLemmas.reached_plain, RouteLemmas.portal_input, StartLemmas.random_is_randomized}
use Rattle.c104_check.specs.ChannelDependencies.{AreByLabels, AreChained, AreNeverBoth, ChannelDependency, Depends, DependsByLabels}
use Rattle.c104_check.specs.ChannelDependencies.{IsAcyclic, IsBeginningBy, IsCycle, IsNeverRandomized, IsRanking, MayComeBy, input_count}
use Rattle.c104_check.specs.{Parts.{Begins, IsBeginning}, Reach.IsReached, Routes.{Routes, SwitchPort, owner}, Trails.{IsInput, IsNetwork}}
use Rattle.{c104_check.specs.Trails.Reaches, c104_plan.specs.declared.ports.Port.Port, std.proofs.Common.{Bool, List, Some, [], arith}}
use Rattle.std.proofs.Common.{false, inl, inr, length, min, refl, subst, sym, true, ℕ, ◌<◌, ◌∷◌, ◌≡◌, ◌≤◌}

falls_along : (routes : Routes) (rank : SwitchPort → ℕ) → IsRanking routes rank → (a : ChannelDependency) (more : List ChannelDependency) (end : SwitchPort) → AreChained routes a more end → rank end < rank a.input
falls_along routes rank falls a [] end is = falls a.input end (a.header, is)
falls_along routes rank falls a (b ∷ more) end is =
    let one = falls a.input b.input (a.header, is.0) in
    let rest = falls_along routes rank falls b more end is.1 in
    omega (arith, one, rest)

pub no_ranks : (routes : Routes) (rank : SwitchPort → ℕ) (cycle : List ChannelDependency) → IsCycle routes cycle → IsRanking routes rank → ⊥
no_ranks routes rank [] is falls = is
no_ranks routes rank (a ∷ more) is falls = let down = falls_along routes rank falls a more a.input is in omega (arith, down)

pub never_both : (routes : Routes) → AreNeverBoth routes
never_both routes cycle is acyclic = no_ranks routes acyclic.0 cycle is acyclic.1

-- a header comes from inputs of the network to such alone
reached_input : (routes : Routes) (h m : ℕ) (start p : SwitchPort) → IsNetwork routes → IsInput (length routes.settings) start → Reaches routes h m start p → IsInput (length routes.settings) p
reached_input routes h m start p net here same = search arith

own_input : (routes : Routes) (behind : Bool) (entry p : SwitchPort) → IsNetwork routes → IsInput (length routes.settings) entry → Begins routes entry behind p → IsInput (length routes.settings) p
own_input routes false entry p net inside begins = subst (IsInput (length routes.settings)) (sym begins.0) inside
own_input routes true entry p net inside begins = portal_input routes entry p net begins

beginning_input : (routes : Routes) (p : SwitchPort) → IsNetwork routes → IsBeginning routes p → IsInput (length routes.settings) p
beginning_input routes p net (t, behind, (entry, wired, begins)) = own_input routes behind entry p net (net.inputs (Port.Terminal t) entry wired) begins

-- they begin at such
start_input : (routes : Routes) (h : ℕ) (p : SwitchPort) → IsNetwork routes → IsBeginningBy routes h p → IsInput (length routes.settings) p
start_input routes h p net (inl (t, owned, begins)) = beginning_input routes p net begins
start_input routes h p net (inr (t, wired, random)) = net.inputs (Port.Terminal t) p wired

-- and packets come to such alone
pub arrived_input : (routes : Routes) (h : ℕ) (p : SwitchPort) → IsNetwork routes → MayComeBy routes h p → IsInput (length routes.settings) p
arrived_input routes h p net (start, m, is, reaches) = reached_input routes h m start p net (start_input routes h start net is) reaches

-- ranks of the network's inputs that are within the limit, cut to it at all others
pub acyclic_by : (routes : Routes) (rank : SwitchPort → ℕ) → IsNetwork routes → IsRanking routes rank → ((p : SwitchPort) → IsInput (length routes.settings) p → rank p ≤ input_count routes) → IsAcyclic routes
acyclic_by routes rank net falls low = (λ p. min (rank p) (input_count routes), cut, λ p. omega arith)
  where
    cut : (p q : SwitchPort) → Depends routes p q → min (rank q) (input_count routes) < min (rank p) (input_count routes)
    cut p q (h, (arrives, follows)) =
        let high = low p (arrived_input routes h p net arrives) in
        let down = falls p q (h, (arrives, follows)) in
        omega (arith, high, down)

-- Where no random headers are put before packets, the dependencies are those of labels from the inputs of terminals on

own_plain : (routes : Routes) (h m : ℕ) (x p : SwitchPort) → IsNeverRandomized routes → IsBeginning routes x → Reaches routes h m x p → IsReached routes h p
own_plain routes h m x p never (t, behind, (entry, wired, begins)) reaches = reached_plain routes h m x p never t behind entry wired begins reaches

plain_arrives : (routes : Routes) (h m : ℕ) (x p : SwitchPort) → IsNeverRandomized routes → IsBeginningBy routes h x → Reaches routes h m x p → (t : ℕ) × (owner routes h ≡ Some t) × IsReached routes h p
plain_arrives routes h m x p never (inl (t, owned, begins)) reaches = (t, owned, own_plain routes h m x p never begins reaches)
plain_arrives routes h m x p never (inr (t, wired, random)) reaches = absurd (never x (random_is_randomized routes x h random))

plain_depends : (routes : Routes) (p q : SwitchPort) → IsNeverRandomized routes → Depends routes p q → DependsByLabels routes p q
plain_depends routes p q never (h, ((x, m, begins, reaches), follows)) = let one = plain_arrives routes h m x p never begins reaches in (h, (one.0, one.1, one.2, follows))

depends_plain : (routes : Routes) (p q : SwitchPort) → IsNeverRandomized routes → DependsByLabels routes p q → Depends routes p q
depends_plain routes p q never (h, (t, owned, (u, entry, m, wired, reaches), follows)) = (h, ((entry, m, inl (t, owned, (u, false, (entry, wired, (refl, never entry)))), reaches), follows))

pub by_labels : (routes : Routes) → AreByLabels routes
by_labels routes never p q = (plain_depends routes p q never, depends_plain routes p q never)

-- so ranks that fall wherever a label goes on are enough
abbrev pub FallsByLabels : Routes → (SwitchPort → ℕ) → Type 0
FallsByLabels routes rank = (p q : SwitchPort) → DependsByLabels routes p q → rank q < rank p

pub plain_ranking : (routes : Routes) (rank : SwitchPort → ℕ) → IsNeverRandomized routes → FallsByLabels routes rank → IsRanking routes rank
plain_ranking routes rank never falls p q depends = falls p q (plain_depends routes p q never depends)
