-- Steps that can be made or not: Some is what a step leaves and what comes of it, and None is
-- NotReady, where nothing changes.
use Rattle.std.specs.Prelude.{Bool, Err, List, None, Ok, Option, Result, Some, false, slice_get, slice_set, true, ℕ}

infixl 20 ◌>>=◌
infixl 20 ◌>>◌
-- a step, and then one that is given what came of it
abbrev pub ◌>>=◌ : {X Y : Type 0} → Option X → (X → Option Y) → Option Y
None >>= f = None
Some x >>= f = f x

-- a step, and then another
abbrev pub ◌>>◌ : {X Y : Type 0} → Option X → Option Y → Option Y
None >> o = None
Some x >> o = o

-- a condition without which a step is not ready
abbrev pub require : Bool → Option Bool
require true = Some true
require false = None

-- a change of one element of a list, where there is one and it can be done
abbrev pub step_at : {X : Type 0} → List X → ℕ → (X → Option X) → Option (List X)
step_at xs i f = do
  x ← slice_get xs i
  y ← f x
  Some (slice_set xs i y)

-- the same, where something comes of it
abbrev pub yield_step_at : {X Y : Type 0} → List X → ℕ → (X → Option (Y × X)) → Option (Y × List X)
yield_step_at xs i f = do
  x ← slice_get xs i
  y ← f x
  Some (y.0, slice_set xs i y.1)

-- the same, where the change is also of something beside the list
abbrev pub joint_step_at : {X Y : Type 0} → List X → ℕ → (X → Option (X × Y)) → Option (List X × Y)
joint_step_at xs i f = do
  x ← slice_get xs i
  y ← f x
  Some (slice_set xs i y.0, y.1)

-- whether a step was made, and the state after it
abbrev pub bool_outcome : {S : Type 0} → Option S → S → Bool × S
bool_outcome (Some s) old = (true, s)
bool_outcome None old = (false, old)

-- what a step gave, if it was made, and the state after it
abbrev pub option_outcome : {A S : Type 0} → Option (A × S) → S → Option A × S
option_outcome (Some p) old = (Some p.0, p.1)
option_outcome None old = (None, old)

-- what became of a thing that was offered to a step: Ok where the step was made, and else the thing
-- handed back; and the state after it
abbrev pub result_outcome : {A S : Type 0} → A → Option S → S → Result (Unit {0}) A × S
result_outcome x (Some s) old = (Ok tt, s)
result_outcome x None old = (Err x, old)
