-- Ports, and the wires that join them.
pub use Rattle.c104_plan.specs.declared.ports.{Port.Port, Wire.Wire}
use Rattle.{c104_plan.specs.Distinctness.AreDistinct, c104_regs.specs.declared.registers.TheConstants.LINKS}
use Rattle.std.specs.{List.list_any, Prelude.{Bool, List, None, Option, Some, [], false, if◌then◌else◌, map, ℕ, ◌&&◌, ◌<◌, ◌==◌, ◌∷◌, ◌≢◌}}

-- whether two ports are the same
abbrev pub is_port : Port → Port → Bool
is_port (Port.Switch s l) (Port.Switch s' l') = s == s' && l == l'
is_port (Port.Terminal t) (Port.Terminal t') = t == t'
is_port (Port.Switch s l) (Port.Terminal t) = false
is_port (Port.Terminal t) (Port.Switch s l) = false

-- whether two ports are links of one switch
abbrev pub are_of_one_switch : Port → Port → Bool
are_of_one_switch (Port.Switch s l) (Port.Switch s' l') = s == s'
are_of_one_switch (Port.Switch s l) (Port.Terminal t) = false
are_of_one_switch (Port.Terminal t) p = false

-- whether a port is a link of this switch
abbrev pub is_of_switch : ℕ → Port → Bool
is_of_switch switch (Port.Switch s l) = s == switch
is_of_switch switch (Port.Terminal t) = false

-- the other end of the first of these wires that has this port
abbrev pub other_end : List Wire → Port → Option Port
other_end [] p = None
other_end (w ∷ ws) p =
    if is_port w.here p then Some w.there
    else (if is_port w.there p then Some w.here
    else other_end ws p)

-- the two ends of each of these wires
abbrev pub both_ends : List Wire → List Port
both_ends [] = []
both_ends (w ∷ ws) = w.here ∷ w.there ∷ both_ends ws

-- whether one of these is at a port
unfoldable pub is_any_at : {X : Type 0} → (X → Port) → List X → Port → Bool
is_any_at port_of xs p = list_any (λ x. is_port (port_of x) p) xs

-- no two of these are at one port
abbrev pub AreOncePerPort : {X : Type 0} → (X → Port) → List X → Type 0
AreOncePerPort port_of xs = AreDistinct is_port (map port_of xs)

-- a link of one of a given number of switches
abbrev pub IsSwitchPort : ℕ → Port → Type 0
IsSwitchPort switches (Port.Switch s l) = (s < switches) × (l < LINKS)
IsSwitchPort switches (Port.Terminal t) = ⊥

-- ports of two switches, or of a switch and a terminal
abbrev pub AreApart : Port → Port → Type 0
AreApart (Port.Switch s l) (Port.Switch s' l') = s ≢ s'
AreApart (Port.Switch s l) (Port.Terminal t) = Unit {0}
AreApart (Port.Terminal t) (Port.Switch s l) = Unit {0}
AreApart (Port.Terminal t) (Port.Terminal u) = ⊥
