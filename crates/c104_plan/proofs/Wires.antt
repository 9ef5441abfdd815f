-- The wires of a plan go both ways, join ports of the plan, and no node to itself; and each terminal has one.
use Rattle.c104_plan.{proofs.PortLemmas.{cases_port, is_port-flips, is_port-ne, is_port-refl}, specs.Distinctness.AreDistinct}
use Rattle.c104_plan.specs.{Plans.{IsPlan, IsPlanWire, Plan, Terminal, host_port, linked_ports}, Ports.{AreApart, IsSwitchPort, Port, Wire}}
use Rattle.c104_plan.specs.{Ports.{both_ends, is_port, other_end}, Wiring.{IsJoined, IsPlanPort, IsWiring, peer, terminal_wires, wires}}
use Rattle.std.proofs.Common.{All, List, None, Option, Some, [], ap, arith, false, if◌then◌else◌, inl, inr, length, refl, slice_get, subst}
use Rattle.std.proofs.{Common.{suc, sym, zero, ℕ, ◌++◌, ◌+◌, ◌<◌, ◌∙◌, ◌∷◌, ◌≡◌, ◌≢◌}, lemmas.Bool.{cases_Bool, eq-eqb, ne_eqb}}
use Rattle.std.{proofs.lemmas.List.Elements.{All-head, All-tail}, specs.{List.AllByRecursion, Option.IfSome}}

-- Any list of wires

-- what each wire says of its two ports, either way
abbrev EachWire : (Port → Port → Type 0) → List Wire → Type 0
EachWire J [] = Unit {0}
EachWire J (w ∷ ws) = J w.here w.there × J w.there w.here × EachWire J ws

each_append : (J : Port → Port → Type 0) (ws vs : List Wire) → EachWire J ws → EachWire J vs → EachWire J (ws ++ vs)
each_append J [] vs a b = b
each_append J (w ∷ ws) vs a b = (a.0, a.1, each_append J ws vs a.2 b)

-- what each wire says holds of a port and its other end
of_wires : (J : Port → Port → Type 0) (ws : List Wire) (p q : Port) → EachWire J ws → other_end ws p ≡ Some q → J p q
of_wires J [] p q all e = absurd (cc)
of_wires J (w ∷ ws) p q all e = elim (cases_port w.here p) [
  | inl a ↦ let f : Some w.there ≡ Some q = rw (← a, is_port-refl w.here) at e in let same : w.there ≡ q = cc in subst (λ z. J z q) a (subst (J w.here) same all.0)
  | inr a ↦ elim (cases_port w.there p) [
    | inl b ↦ let f : (if is_port w.there p then Some w.here else other_end ws p) ≡ Some q = rw a at e in let g : Some w.here ≡ Some q = rw (← b, is_port-refl w.there) at f in let same : w.here ≡ q = cc in subst (λ z. J z q) b (subst (J w.there) same all.1)
    | inr b ↦ of_wires J ws p q all.2 (rw (a, b) at e)
  ]
]

-- the other end among the first of two lists of wires
other_end-append : (ws vs : List Wire) (p q : Port) → other_end ws p ≡ Some q → other_end (ws ++ vs) p ≡ Some q
other_end-append [] vs p q e = absurd (cc)
other_end-append (w ∷ ws) vs p q e = elim (cases_Bool (is_port w.here p)) [
  | inl a ↦ rw a (rw a at e)
  | inr a ↦ rw a (elim (cases_Bool (is_port w.there p)) [
    | inl b ↦ rw b (rw (a, b) at e)
    | inr b ↦ rw b (other_end-append ws vs p q (rw (a, b) at e))
  ])
]

-- and among both, where the first has none
other_end-past : (ws vs : List Wire) (p : Port) → other_end ws p ≡ None → other_end (ws ++ vs) p ≡ other_end vs p
other_end-past [] vs p e = refl
other_end-past (w ∷ ws) vs p e = elim (cases_Bool (is_port w.here p)) [
  | inl a ↦ let no : Some w.there ≡ None = rw a at e in cc
  | inr a ↦ rw a (elim (cases_Bool (is_port w.there p)) [
    | inl b ↦ let no : Some w.here ≡ None = rw (a, b) at e in cc
    | inr b ↦ rw b (other_end-past ws vs p (rw (a, b) at e))
  ])
]

-- no port stands at two wires, or at both ends of one
abbrev IsOnce : List Wire → Type 0
IsOnce [] = Unit {0}
IsOnce (w ∷ ws) = (is_port w.here w.there ≡ false) × (other_end ws w.here ≡ None) × (other_end ws w.there ≡ None) × IsOnce ws

-- wires go both ways, whatever they join
goes_back : (ws : List Wire) → IsOnce ws → (p q : Port) → other_end ws p ≡ Some q → other_end ws q ≡ Some p
goes_back [] once p q e = absurd (cc)
goes_back (w ∷ ws) once p q e = elim (cases_port w.here p) [
  | inl a ↦ let f : Some w.there ≡ Some q = rw (← a, is_port-refl w.here) at e in let same : w.there ≡ q = cc in rw (← same, once.0, is_port-refl w.there) (ap Some a)
  | inr a ↦ elim (cases_port w.there p) [
    | inl b ↦ let f : (if is_port w.there p then Some w.here else other_end ws p) ≡ Some q = rw a at e in let g : Some w.here ≡ Some q = rw (← b, is_port-refl w.there) at f in let same : w.here ≡ q = cc in rw (← same, is_port-refl w.here) (ap Some b)
    | inr b ↦
        let f : other_end ws p ≡ Some q = rw (a, b) at e in
        search (arith, is_port-ne, goes_back ws once.3 p q f)
  ]
]

-- Terminals' wires

terminals_apart : (n : ℕ) (ts : List Terminal) → EachWire AreApart (terminal_wires n ts)
terminals_apart n [] = tt
terminals_apart n (t ∷ ts) = (tt, tt, terminals_apart (suc n) ts)

-- a terminal's wire leads to its link
terminal_end : (n : ℕ) (ts : List Terminal) (k : ℕ) (t : Terminal) → slice_get ts k ≡ Some t → other_end (terminal_wires n ts) (Port.Terminal (n + k)) ≡ Some (host_port t)
terminal_end n [] k t e = absurd (cc)
terminal_end n (u ∷ ts) zero t e = let same : u ≡ t = cc in rw (eq-eqb n (n + 0) (omega arith)) (ap (λ (v : Terminal). Some (host_port v)) same)
terminal_end n (u ∷ ts) (suc k) t e = search (arith, ne_eqb, terminal_end (suc n) ts k t e)

-- terminals' wires join terminals of the plan, and ports of its switches
terminals_inside : (plan : Plan) (n : ℕ) (ts : List Terminal) → n + length ts ≡ length plan.terminals → All (λ (t : Terminal). IsSwitchPort (length plan.switches) (host_port t)) ts → EachWire (λ p q. IsPlanPort plan p) (terminal_wires n ts)
terminals_inside plan n [] all is = tt
terminals_inside plan n (t ∷ ts) all is = (omega (arith, all), All-head (λ (u : Terminal). IsSwitchPort (length plan.switches) (host_port u)) t ts is, terminals_inside plan (suc n) ts (omega (arith, all)) (All-tail (λ (u : Terminal). IsSwitchPort (length plan.switches) (host_port u)) t ts is))

-- Wires between switches

abbrev IsBetween : Port → Port → Type 0
IsBetween (Port.Switch s l) (Port.Switch s' l') = s ≢ s'
IsBetween (Port.Switch s l) (Port.Terminal t) = ⊥
IsBetween (Port.Terminal t) q = ⊥

between : (switches : ℕ) (p q : Port) → IsSwitchPort switches p → IsSwitchPort switches q → AreApart p q → IsBetween p q
between switches p q is is' apart = search arith

apart_flips : (p q : Port) → AreApart p q → AreApart q p
apart_flips p q apart = search arith

inside : (plan : Plan) (p : Port) → IsSwitchPort (length plan.switches) p → IsPlanPort plan p
inside plan p is = search arith

wires_apart : (switches : ℕ) (ws : List Wire) → All (IsPlanWire switches) ws → EachWire AreApart ws
wires_apart switches [] all = tt
wires_apart switches (w ∷ ws) all =
    search (arith, All-head, apart_flips, All-tail, wires_apart switches ws (All-tail (IsPlanWire switches) w ws all))

wires_between : (switches : ℕ) (ws : List Wire) → All (IsPlanWire switches) ws → EachWire IsBetween ws
wires_between switches [] all = tt
wires_between switches (w ∷ ws) all =
    search (arith, All-head, apart_flips, All-tail, wires_between switches ws (All-tail (IsPlanWire switches) w ws all))

wires_inside : (plan : Plan) (ws : List Wire) → All (IsPlanWire (length plan.switches)) ws → EachWire (λ p q. IsPlanPort plan p) ws
wires_inside plan [] all = tt
wires_inside plan (w ∷ ws) all =
    search (arith, All-head, inside, All-tail, wires_inside plan ws (All-tail (IsPlanWire (length plan.switches)) w ws all))

-- where the ports of switches differ, none stands twice

abbrev IsNone : Port → List Port → Type 0
IsNone p ports = AllByRecursion (λ q. is_port p q ≡ false) ports

none_of : (ws : List Wire) (p : Port) → IsNone p (both_ends ws) → other_end ws p ≡ None
none_of [] p h = refl
none_of (w ∷ ws) p h = rw (is_port-flips w.here p, h.0, is_port-flips w.there p, h.1.0) (none_of ws p h.1.1)

once_of : (ws : List Wire) → AreDistinct is_port (both_ends ws) → IsOnce ws
once_of [] h = tt
once_of (w ∷ ws) h = (h.0.0, none_of ws w.here h.0.1, none_of ws w.there h.1.0, once_of ws h.1.1)

-- wires between switches end at no terminal
no_end : (ws : List Wire) (t : ℕ) → EachWire IsBetween ws → other_end ws (Port.Terminal t) ≡ None
no_end [] t h = refl
no_end (w ∷ ws) t h = rw (not_here w.here w.there h.0, not_here w.there w.here h.1) (no_end ws t h.2)
  where
    not_here : (p q : Port) → IsBetween p q → is_port p (Port.Terminal t) ≡ false
    not_here p q h = search arith

no_terminal : (n m : ℕ) (ts : List Terminal) (ws : List Wire) → n < m → EachWire IsBetween ws → other_end (terminal_wires m ts ++ ws) (Port.Terminal n) ≡ None
no_terminal n m [] ws lt h = no_end ws n h
no_terminal n m (t ∷ ts) ws lt h = rw (ne_eqb m n (λ e. (omega (arith, lt, e)))) (no_terminal n (suc m) ts ws (omega (arith, lt)) h)

no_link : (m : ℕ) (ts : List Terminal) (ws : List Wire) (s l : ℕ) → IsNone (Port.Switch s l) (linked_ports ts ws) → other_end (terminal_wires m ts ++ ws) (Port.Switch s l) ≡ None
no_link m [] ws s l h = none_of ws (Port.Switch s l) h
no_link m (t ∷ ts) ws s l h = rw (is_port-flips (host_port t) (Port.Switch s l), h.0) (no_link (suc m) ts ws s l h.1)

wires_once : (n : ℕ) (ts : List Terminal) (ws : List Wire) → AreDistinct is_port (linked_ports ts ws) → EachWire IsBetween ws → IsOnce (terminal_wires n ts ++ ws)
wires_once n [] ws h are = once_of ws h
wires_once n (t ∷ ts) ws h are = (refl, no_terminal n (suc n) ts ws (omega arith) are, no_link (suc n) ts ws t.switch t.link h.0, wires_once (suc n) ts ws h.1 are)

-- each wire joins its two ends
wire_end : (ws : List Wire) → IsOnce ws → (k : ℕ) (w : Wire) → slice_get ws k ≡ Some w → other_end ws w.here ≡ Some w.there
wire_end [] once k w is = absurd (cc)
wire_end (v ∷ ws) once zero w is = search (arith, is_port-refl)
wire_end (v ∷ ws) once (suc k) w is = search (arith, cases_port, wire_end ws once.3 k w is)

-- and each of these does, which stand among all from the n-th on
each_joined : (all ws : List Wire) (n : ℕ) → ((k : ℕ) (w : Wire) → slice_get ws k ≡ Some w → slice_get all (n + k) ≡ Some w) → EachWire (IsJoined all) ws
each_joined all [] n at = tt
each_joined all (w ∷ ws) n at = (
  (n + 0, w, at 0 w refl, inl (refl, refl)),
  (n + 0, w, at 0 w refl, inr (refl, refl)),
  each_joined all ws (n + 1) (λ k v there. let on : n + 1 + k ≡ n + suc k = omega arith in ap (slice_get all) on ∙ at (suc k) v there),
)

-- The wiring of a plan

pub wiring : (plan : Plan) → IsPlan plan → IsWiring plan
wiring plan kept = record {
  back = λ p q is. goes_back (terminal_wires 0 plan.terminals ++ plan.wires) (wires_once 0 plan.terminals plan.wires kept.links (wires_between (length plan.switches) plan.wires kept.wires)) p q is;
  inside = λ p q is. of_wires (λ r s. IsPlanPort plan r) (terminal_wires 0 plan.terminals ++ plan.wires) p q (each_append (λ r s. IsPlanPort plan r) (terminal_wires 0 plan.terminals) plan.wires (terminals_inside plan 0 plan.terminals (omega arith) kept.terminals.on_switches) (wires_inside plan plan.wires kept.wires)) is;
  apart = λ p q is. of_wires AreApart (terminal_wires 0 plan.terminals ++ plan.wires) p q (each_append AreApart (terminal_wires 0 plan.terminals) plan.wires (terminals_apart 0 plan.terminals) (wires_apart (length plan.switches) plan.wires kept.wires)) is;
  joined = λ k w is.
      let once = wires_once 0 plan.terminals plan.wires kept.links (wires_between (length plan.switches) plan.wires kept.wires) in
      let there = wire_end (terminal_wires 0 plan.terminals ++ plan.wires) once k w is in
      (there, goes_back (terminal_wires 0 plan.terminals ++ plan.wires) once w.here w.there there);
  no_other = λ p q is. of_wires (IsJoined (wires plan)) (wires plan) p q (each_joined (wires plan) (wires plan) 0 (λ k w there. let same : 0 + k ≡ k = omega arith in ap (slice_get (wires plan)) same ∙ there)) is;
  host = λ number t is.
      let first : 0 + number ≡ number = omega arith in
      other_end-append (terminal_wires 0 plan.terminals) plan.wires (Port.Terminal number) (host_port t) (subst (λ k. other_end (terminal_wires 0 plan.terminals) (Port.Terminal k) ≡ Some (host_port t)) first (terminal_end 0 plan.terminals number t is));
}

-- a port's other end, by the wires of terminals first
pub peer_of_terminal : (plan : Plan) (p q : Port) → other_end (terminal_wires 0 plan.terminals) p ≡ Some q → peer plan p ≡ Some q
peer_of_terminal plan p q is = other_end-append (terminal_wires 0 plan.terminals) plan.wires p q is

pub peer_of_wire : (plan : Plan) (p : Port) → other_end (terminal_wires 0 plan.terminals) p ≡ None → peer plan p ≡ other_end plan.wires p
peer_of_wire plan p none = other_end-past (terminal_wires 0 plan.terminals) plan.wires p none

-- what a port is wired to is a port of the plan
pub peer_inside : (plan : Plan) → IsPlan plan → (p : Port) (other : Option Port) → other ≡ peer plan p → IfSome other (IsPlanPort plan)
peer_inside plan kept p None is = tt
peer_inside plan kept p (Some q) is = let all = wiring plan kept in all.inside q p (all.back p q (sym is))
