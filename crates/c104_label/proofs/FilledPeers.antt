-- What the links of a plan of a layout are wired to.
use Rattle.{c104_label.proofs.MappedRanges.map_at, c104_plan.proofs.{LayoutJoins.{AreJoined, IsJoin, IsJoined}, PortLemmas.is_port-refl}}
use Rattle.c104_plan.{proofs.Wires.wiring, specs.{Distinctness.AreDistinct, Layouts.{Layout, filled_terminal, filled_wires, wire_at}}}
use Rattle.c104_plan.specs.{Layouts.wires_from, Plans.{IsFilled, IsPlan, Plan, linked_ports}, Ports.{both_ends, is_port, other_end}}
use Rattle.c104_plan.specs.{Wiring.{peer, terminal_wires}, declared.{plans.Terminal.Terminal, ports.{Port.Port, Wire.Wire}}}
use Rattle.std.proofs.Common.{List, Some, [], ap, arith, false, inl, inr, not, refl, slice_get, subst, suc, sym, true, zero, ℕ, ◌%◌, ◌*◌}
use Rattle.std.proofs.{Common.{◌++◌, ◌+◌, ◌/◌, ◌<◌, ◌∙◌, ◌∷◌, ◌≡◌, ◌≤◌, ◌⊎◌}, lemmas.Bool.{cases_Bool, cases_eq}}
use Rattle.std.specs.List.{AllByRecursion, flat_map, range_with_len}

-- x is one of these
abbrev IsIn : {X : Type 0} → X → List X → Type 0
IsIn x [] = ⊥
IsIn x (y ∷ ys) = (y ≡ x) ⊎ IsIn x ys

in_first : {X : Type 0} (x : X) (xs ys : List X) → IsIn x xs → IsIn x (xs ++ ys)
in_first x [] ys is = absurd is
in_first x (y ∷ xs) ys (inl is) = inl is
in_first x (y ∷ xs) ys (inr is) = inr (in_first x xs ys is)

in_second : {X : Type 0} (x : X) (xs ys : List X) → IsIn x ys → IsIn x (xs ++ ys)
in_second x [] ys is = is
in_second x (y ∷ xs) ys is = inr (in_second x xs ys is)

in_range : {X : Type 0} (x : X) (f : ℕ → List X) (n count i : ℕ) → n ≤ i → i < n + count → IsIn x (f i) → IsIn x (flat_map f (range_with_len n count))
in_range x f n zero i le lt is = absurd (omega (arith, le, lt))
in_range x f n (suc count) i le lt is = elim (cases_eq i n) [
  | inl same ↦ in_first x (f n) (flat_map f (range_with_len (n + 1) count)) (subst (λ j. IsIn x (f j)) same is)
  | inr differ ↦ in_second x (f n) (flat_map f (range_with_len (n + 1) count)) (in_range x f (n + 1) count i (omega (arith, le, differ)) (omega (arith, lt)) is)
]

-- what is said of each is said of one of them
each_in : {X : Type 0} (P : X → Type 0) (x : X) (xs : List X) → AllByRecursion P xs → IsIn x xs → P x
each_in P x [] all is = absurd is
each_in P x (y ∷ ys) all (inl is) = subst P is all.0
each_in P x (y ∷ ys) all (inr is) = each_in P x ys all.1 is

-- a wire is the one that its first end has

begin_in : (w : Wire) (ws : List Wire) → IsIn w ws → IsIn w.here (both_ends ws)
begin_in w [] is = absurd is
begin_in w (v ∷ ws) (inl is) = inl (ap (λ (x : Wire). x.here) is)
begin_in w (v ∷ ws) (inr is) = inr (inr (begin_in w ws is))

end_of_wire : (w : Wire) (ws : List Wire) → AreDistinct is_port (both_ends ws) → IsIn w ws → other_end ws w.here ≡ Some w.there
end_of_wire w [] once is = absurd is
end_of_wire w (v ∷ ws) once (inl is) = subst (λ (x : Wire). other_end (v ∷ ws) x.here ≡ Some x.there) is (rw (is_port-refl v.here) refl)
end_of_wire w (v ∷ ws) once (inr is) =
    let among = begin_in w ws is in
    rw (each_in (λ q. is_port v.here q ≡ false) w.here (v.there ∷ both_ends ws) once.0 (inr among), each_in (λ q. is_port v.there q ≡ false) w.here (both_ends ws) once.1.0 among)
    (end_of_wire w ws once.1.1 is)

end_of_linked : (n : ℕ) (ts : List Terminal) (ws : List Wire) (w : Wire) (s l : ℕ) → w.here ≡ Port.Switch s l → AreDistinct is_port (linked_ports ts ws) → IsIn w ws → other_end (terminal_wires n ts ++ ws) (Port.Switch s l) ≡ Some w.there
end_of_linked n [] ws w s l here once is = subst (λ q. other_end ws q ≡ Some w.there) here (end_of_wire w ws once is)
end_of_linked n (t ∷ ts) ws w s l here once is =
    search (arith, begin_in, each_in, in_second, end_of_linked (suc n) ts ws w s l here once.1 is)

module _ (plan : Plan) (layout : Layout) (p : ℕ) (kept : IsPlan plan) (filled : IsFilled layout p plan) (joined : AreJoined layout) where
  begin_peer : (s l t k : ℕ) → s < layout.switches → l < layout.links → layout.beyond s l ≡ Some (Port.Switch t k) → layout.begins s l ≡ true → peer plan (Port.Switch s l) ≡ Some (Port.Switch t k)
  begin_peer s l t k a b is begins =
      let w : Wire = record { here = Port.Switch s l; there = Port.Switch t k } in
      let one : IsIn w (wire_at layout s l) = rw (begins, is) (inl refl) in
      let all : IsIn w (filled_wires layout) = in_range w (wires_from layout) 0 layout.switches s (omega arith) (omega (arith, a)) (in_range w (wire_at layout s) 0 layout.links l (omega arith) (omega (arith, b)) one) in
      end_of_linked 0 plan.terminals plan.wires w s l refl kept.links (subst (IsIn w) (sym filled.wires) all)

  -- a link for another switch
  pub beyond_peer : (s l t k : ℕ) → s < layout.switches → l < layout.links → layout.beyond s l ≡ Some (Port.Switch t k) → peer plan (Port.Switch s l) ≡ Some (Port.Switch t k)
  beyond_peer s l t k a b is =
      let join : IsJoin layout s l t k = subst (IsJoined layout s l) is (joined s l a b) in
      elim (cases_Bool (layout.begins s l)) [
        | inl begins ↦ begin_peer s l t k a b is begins
        | inr ends ↦ (wiring plan kept).back (Port.Switch t k) (Port.Switch s l) (begin_peer t k s l join.inside join.link join.back (join.one_end ∙ ap not ends))
      ]

  -- and the link of a terminal
  pub terminal_peer : (t : ℕ) → t < layout.switches * p → peer plan (Port.Terminal t) ≡ Some (Port.Switch (t / p) (layout.links + t % p))
  terminal_peer t below =
      let at : slice_get plan.terminals t ≡ Some (filled_terminal layout.links p t) = ap (λ ts. slice_get ts t) filled.terminals ∙ map_at (filled_terminal layout.links p) (layout.switches * p) t below in
      (wiring plan kept).host t (filled_terminal layout.links p t) at

  pub own_peer : (t : ℕ) → t < layout.switches * p → peer plan (Port.Switch (t / p) (layout.links + t % p)) ≡ Some (Port.Terminal t)
  own_peer t below = (wiring plan kept).back (Port.Terminal t) (Port.Switch (t / p) (layout.links + t % p)) (terminal_peer t below)
