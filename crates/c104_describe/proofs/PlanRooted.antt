-- A plan to be labelled from a root keeps what every plan does.
use Rattle.{c104_describe.specs.PlanDrafts.excludes_groups, c104_plan.proofs.{NamesKept.same_names, PlanRanges.next_first-le}}
use Rattle.c104_plan.specs.{PlanParts.without_first, Plans.{AreTerminals, HasGroupsAlone, IsNamedIn, IsOfShape, IsPlan, IsRange}}
use Rattle.c104_plan.specs.{Plans.{IsTreePlan, IsUnset, IsUpDownPlan, Plan, host_port, next_first, total_count}, Ports.IsSwitchPort}
use Rattle.c104_plan.specs.declared.plans.{Shape.{Shape, TheVariants.{Cube, Hand, Mesh, Tree, UpDown}}, Terminal.Terminal}
use Rattle.std.proofs.Common.{List, Option, Some, [], ap, arith, length, map, refl, true, ℕ, ◌+◌, ◌<◌, ◌∷◌, ◌≡◌, ◌≤◌}
use Rattle.std.proofs.lemmas.{List.{Elements.{All-map, All-weaker}, length-map}, Simd.map-map}

-- in a plan of n switches, the root of a shape that has one is one of them
abbrev pub IsRootIn : ℕ → Shape → Type 0
IsRootIn n Hand = ⊥
IsRootIn n (Tree root) = root < n
IsRootIn n (UpDown root) = IsNamedIn n root
IsRootIn n (Mesh w h p) = ⊥
IsRootIn n (Cube d p) = ⊥

-- and so is one of more
named_in_more : (n m : ℕ) (root : Option ℕ) → n ≤ m → IsNamedIn n root → IsNamedIn m root
named_in_more n m root le is = search arith

pub root_in_more : (n m : ℕ) (shape : Shape) → n ≤ m → IsRootIn n shape → IsRootIn m shape
root_in_more n m shape le is = search (arith, named_in_more)

-- nothing but groups is set at its links, and these too only where they go with the labels
abbrev pub IsUnsetFor : Shape → Plan → Type 0
IsUnsetFor shape plan = HasGroupsAlone plan × (excludes_groups (Some shape) ≡ true → plan.continues ≡ [])

total_same : (terminals : List Terminal) → total_count (map without_first terminals) ≡ total_count terminals
total_same [] = refl
total_same (t ∷ terminals) = ap (λ n. t.count + n) (total_same terminals)

module _ (plan : Plan) (kept : IsPlan plan) where
  counts : List Terminal
  counts = map without_first plan.terminals

  how_many : length counts ≡ length plan.terminals
  unfolding counts
  how_many = length-map plan.terminals without_first

  counts_are : AreTerminals (length plan.switches) counts
  unfolding counts
  counts_are = record {
    few = omega (arith, how_many, kept.terminals.few);
    on_switches = All-map (λ (t : Terminal). IsSwitchPort (length plan.switches) (host_port t)) without_first plan.terminals kept.terminals.on_switches;
    ranges = All-map (λ (t : Terminal). IsRange t.first t.count) without_first plan.terminals
        (All-weaker (λ (t : Terminal). IsRange t.first t.count) (λ (t : Terminal). IsRange 0 t.count) (λ (t : Terminal) is. (is.0, omega (arith, is.1))) plan.terminals kept.terminals.ranges);
  }

  asked : Shape → Plan
  asked shape = record plan { shape = shape; terminals = map without_first plan.terminals }

  tree_plan : (shape : Shape) (root : ℕ) → root < length plan.switches → next_first plan.terminals ≡ total_count plan.terminals → IsUnset plan → IsTreePlan root (asked shape)
  unfolding counts asked
  tree_plan shape root inside counted unset = search (arith, asked, All-map, total_same, next_first-le)

  up_down_plan : (root : Option ℕ) → IsNamedIn (length plan.switches) root → next_first plan.terminals ≡ total_count plan.terminals → HasGroupsAlone plan → IsUpDownPlan root (asked (UpDown root))
  unfolding counts asked
  up_down_plan root inside counted unset = search (arith, asked, All-map, total_same, next_first-le)

  of_root : (shape : Shape) → IsRootIn (length plan.switches) shape → next_first plan.terminals ≡ total_count plan.terminals → IsUnsetFor shape plan → IsOfShape shape (asked shape)
  unfolding counts asked
  of_root Hand inside counted unset = absurd inside
  of_root (Tree root) inside counted unset =
      tree_plan (Tree root) root inside counted (record { continues = unset.1 refl; bases = unset.0.bases; rows = unset.0.rows; randoms = unset.0.randoms })
  of_root (UpDown root) inside counted unset = up_down_plan root inside counted unset.0
  of_root (Mesh w h p) inside counted unset = absurd inside
  of_root (Cube d p) inside counted unset = absurd inside

  pub rooted_kept : (shape : Shape) → IsRootIn (length plan.switches) shape → next_first plan.terminals ≡ total_count plan.terminals → IsUnsetFor shape plan → IsPlan (record plan { shape = shape; terminals = map without_first plan.terminals })
  unfolding counts asked
  rooted_kept shape inside counted unset = search (arith, asked, of_root, same_names, counts_are, map-map, how_many)
