-- An output is owned where its owner is found.
use Rattle.{c104_switch.specs.{Phases.is_stream, Switch.{Input, is_owned}, Views.owner_from}, std.proofs.Common.{Bool, List, Some, []}}
use Rattle.std.proofs.Common.{arith, if◌then◌else◌, is_some, refl, suc, ℕ, ◌||◌, ◌∷◌, ◌≡◌}

pub owner_found : {A : Type 0} (n : ℕ) (ps : List (Input A)) (o : ℕ) → is_some (owner_from n ps o) ≡ is_owned ps o
owner_found n [] o = refl
owner_found n (p ∷ ps) o = by_stream (is_stream o p.phase) (owner_found (suc n) ps o)
  where
    by_stream : (streams : Bool) → is_some (owner_from (suc n) ps o) ≡ is_owned ps o → is_some (if streams then Some n else owner_from (suc n) ps o) ≡ (streams || is_owned ps o)
    by_stream streams rest = search arith
