-- What comes where it should: a header to its owner, and a random one to a portal.
use Rattle.c104_check.{proofs.RouteLemmas.{Some-Link-same, leaves_arrives}, specs.Routes.{Routes, SwitchPort, is_in_group, select}}
use Rattle.c104_check.specs.{Shown.{Comes, ComesBy, IsForeign, IsPortalFor, MayLeave}, Walks.{Goal, is_home}}
use Rattle.{c104_check.specs.declared.walks.Goal.TheVariants.Portal, c104_interval.specs.declared.intervals.Select.Select}
use Rattle.{c104_interval.specs.declared.intervals.Select.TheVariants.{Discard, Link}, c104_plan.specs.declared.ports.Port.Port}
use Rattle.std.proofs.{Common.{None, Option, Some, arith, false, suc, true, zero, ℕ, ◌≡◌, ◌≢◌, ◌⊎◌}, lemmas.Bool.{eq-eqb, eqb-true}}

pub comes_never : (routes : Routes) (h : ℕ) (t : Goal) (s i : ℕ) → Comes routes h t zero s i → ⊥
comes_never routes h t s i comes = search arith

-- over the links of the group that it selects
pub comes_over : (routes : Routes) (h : ℕ) (t : Goal) (k g : ℕ) (p : SwitchPort) → select routes p.switch p.link h ≡ Some (Link g) → ((o : ℕ) → is_in_group routes p.switch g o ≡ true → ComesBy (Comes routes h t k) t (routes.peer (Port.Switch p.switch o))) → Comes routes h t (suc k) p.switch p.link
comes_over routes h t k g p at all = search arith

-- it is there already, or comes over them
pub comes_parts : (routes : Routes) (h : ℕ) (t : Goal) (k : ℕ) (p : SwitchPort) → Comes routes h t (suc k) p.switch p.link → ((t ≡ Portal) × (select routes p.switch p.link h ≡ Some Discard)) ⊎ ((g : ℕ) × (select routes p.switch p.link h ≡ Some (Link g)))
comes_parts routes h t k p comes = search arith

pub leaves_comes : (routes : Routes) (h : ℕ) (t : Goal) (k : ℕ) (p : SwitchPort) (e : Option Port) → MayLeave routes h p e → Comes routes h t (suc k) p.switch p.link → ComesBy (Comes routes h t k) t e
leaves_comes routes h t k p e leaves comes = search (arith, leaves_arrives, Some-Link-same)

-- over what a link is wired to
pub comes_nothing : (next : ℕ → ℕ → Type 0) (t : Goal) → ComesBy next t None → ⊥
comes_nothing next t comes = search arith

pub comes_home : (next : ℕ → ℕ → Type 0) (t : Goal) (u : ℕ) → is_home t u ≡ true → ComesBy next t (Some (Port.Terminal u))
comes_home next t u is = search (arith, eqb-true)

pub home_of : (next : ℕ → ℕ → Type 0) (t : Goal) (u : ℕ) → ComesBy next t (Some (Port.Terminal u)) → is_home t u ≡ true
home_of next t u comes = search (arith, eq-eqb)

pub comes_on : (next : ℕ → ℕ → Type 0) (t : Goal) (s i : ℕ) → next s i → ComesBy next t (Some (Port.Switch s i))
comes_on next t s i comes = search arith

pub on_comes : (next : ℕ → ℕ → Type 0) (t : Goal) (s i : ℕ) → ComesBy next t (Some (Port.Switch s i)) → next s i
on_comes next t s i comes = search arith

pub foreign_of : (t : Goal) (u : ℕ) → is_home t u ≡ false → IsForeign t u
foreign_of t u is = search (arith, eq-eqb)

pub foreign_comes : (next : ℕ → ℕ → Type 0) (t : Goal) (u : ℕ) → IsForeign t u → ComesBy next t (Some (Port.Terminal u)) → ⊥
foreign_comes next t u foreign comes = search arith

pub no_portal : (routes : Routes) (h : ℕ) (t : Goal) (p : SwitchPort) (o : Option Select) → select routes p.switch p.link h ≡ o → o ≢ Some Discard → IsPortalFor routes h t p → ⊥
no_portal routes h t p o at other is = search arith

-- what is stuck at an input comes nowhere
pub stuck_comes : (routes : Routes) (h : ℕ) (t : Goal) (k : ℕ) (p : SwitchPort) → ((g : ℕ) → select routes p.switch p.link h ≢ Some (Link g)) → (IsPortalFor routes h t p → ⊥) → Comes routes h t (suc k) p.switch p.link → ⊥
stuck_comes routes h t k p link portal comes = search arith
