-- The wiring of a plan: which port is wired to which.
use Rattle.c104_plan.specs.{Plans.{Plan, Terminal, host_port}, Ports.{AreApart, IsSwitchPort, Port, Wire, other_end}}
use Rattle.std.specs.Prelude.{List, Option, Some, [], length, slice_get, suc, ℕ, ◌++◌, ◌<◌, ◌∷◌, ◌≡◌, ◌⊎◌}

-- the wires of terminals, the first of which has number n
abbrev pub terminal_wires : ℕ → List Terminal → List Wire
terminal_wires n [] = []
terminal_wires n (t ∷ terminals) =
    record { here = Port.Terminal n; there = host_port t } ∷ terminal_wires (suc n) terminals

-- all wires: terminal k's is at place k, and those between switches follow
abbrev pub wires : Plan → List Wire
wires plan = terminal_wires 0 plan.terminals ++ plan.wires

-- the port that a port is wired to, if it is
abbrev pub peer : Plan → Port → Option Port
peer plan p = other_end (wires plan) p

-- one of the plan's ports
abbrev pub IsPlanPort : Plan → Port → Type 0
IsPlanPort plan (Port.Switch s l) = IsSwitchPort (length plan.switches) (Port.Switch s l)
IsPlanPort plan (Port.Terminal t) = t < length plan.terminals

-- some one of these wires joins two ports
abbrev pub IsJoined : List Wire → Port → Port → Type 0
IsJoined ws p q =
    (k : ℕ) × (w : Wire) × (slice_get ws k ≡ Some w)
    × (((p ≡ w.here) × (q ≡ w.there)) ⊎ ((p ≡ w.there) × (q ≡ w.here)))

-- what a wiring keeps: wires go both ways, join ports of the plan, and join two switches, or a switch
-- and a terminal; each wire, those between switches too, joins its two ends, and no other ports are joined; and each
-- terminal has one, to the switch that it is on
pub record IsWiring (plan : Plan) : Type 0 where
  pub back : (p q : Port) → peer plan p ≡ Some q → peer plan q ≡ Some p
  pub inside : (p q : Port) → peer plan p ≡ Some q → IsPlanPort plan p
  pub apart : (p q : Port) → peer plan p ≡ Some q → AreApart p q
  pub joined : (k : ℕ) (w : Wire) → slice_get (wires plan) k ≡ Some w → (peer plan w.here ≡ Some w.there) × (peer plan w.there ≡ Some w.here)
  pub no_other : (p q : Port) → peer plan p ≡ Some q → IsJoined (wires plan) p q
  pub host : (number : ℕ) (t : Terminal) → slice_get plan.terminals number ≡ Some t → peer plan (Port.Terminal number) ≡ Some (host_port t)
