-- Conditions and values in turn, of which the first that fails is answered: a grammar's line.
use Rattle.std.specs.Prelude.{Bool, Err, None, Ok, Option, Result, Some, false, true}

infixl 20 ◌>>=◌
infixl 20 ◌>>◌
-- what is read, and then what is read by it
abbrev pub ◌>>=◌ : {X Y Fault : Type 0} → Result X Fault → (X → Result Y Fault) → Result Y Fault
Ok x >>= f = f x
Err fault >>= f = Err fault

-- a condition, and then what is read where it holds
abbrev pub ◌>>◌ : {Y Fault : Type 0} → Result Bool Fault → Result Y Fault → Result Y Fault
Ok x >> r = r
Err fault >> r = Err fault

-- a condition, and the fault where it doesn't hold
abbrev pub require : {Fault : Type 0} → Bool → Fault → Result Bool Fault
require true fault = Ok true
require false fault = Err fault

-- a value, and the fault where there is none
abbrev pub value_or_fault : {X Fault : Type 0} → Option X → Fault → Result X Fault
value_or_fault (Some x) fault = Ok x
value_or_fault None fault = Err fault
