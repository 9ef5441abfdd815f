-- No link has two terminals or wires in a filled plan.
use Rattle.{c104_describe.specs.ShapeLayouts.hosted_terminals, c104_plan.proofs.{LayoutJoins.{AreJoined, IsJoined}, PortLemmas.is_port-ne}}
use Rattle.c104_plan.{proofs.RangeLists.each_flat, specs.{Distinctness.AreDistinct, Layouts.{Layout, filled_terminal, filled_wires}}}
use Rattle.c104_plan.specs.{Layouts.{wire_at, wire_to, wires_from}, Plans.{host_port, linked_ports}, Ports.{both_ends, is_port}}
use Rattle.{c104_plan.specs.declared.ports.{Port.Port, Wire.Wire}, std.proofs.Common.{List, None, Option, Some, [], ap, arith, false, inl}}
use Rattle.std.proofs.Common.{inr, map, refl, subst, suc, sym, true, zero, ℕ, ⊎_elim, ◌%◌, ◌*◌, ◌++◌, ◌+◌, ◌/◌, ◌<◌, ◌∙◌, ◌∷◌, ◌≡◌, ◌≢◌}
use Rattle.std.{proofs.{Common.{◌≤◌, ◌⊎◌}, lemmas.{Bool.cases_Bool, Nat.div_below}}, specs.List.{AllByRecursion, flat_map, range_with_len}}

-- a link of a switch that is for no other, or isn't wired
abbrev pub IsFree : Layout → ℕ → ℕ → Type 0
IsFree layout s l = (layout.links ≤ l) ⊎ (layout.beyond s l ≡ None)

-- where a link for a switch leads
leads : Layout → Port → Option Port
leads layout (Port.Switch s l) = layout.beyond s l
leads layout (Port.Terminal t) = None

-- a link at which a wire begins, and one at which it ends
abbrev IsBegin : Layout → Port → Type 0
IsBegin layout (Port.Switch s l) = (l < layout.links) × (layout.begins s l ≡ true)
IsBegin layout (Port.Terminal t) = ⊥

abbrev IsEnd : Layout → Port → Type 0
IsEnd layout (Port.Switch s l) = (l < layout.links) × (layout.begins s l ≡ false)
IsEnd layout (Port.Terminal t) = ⊥

record IsGood (layout : Layout) (w : Wire) : Type 0 where
  begin : IsBegin layout w.here
  end : IsEnd layout w.there
  forth : leads layout w.here ≡ Some w.there
  back : leads layout w.there ≡ Some w.here

clash : (layout : Layout) (q : Port) → IsBegin layout q → IsEnd layout q → ⊥
clash layout q a b = search arith

-- links in order
rank : Layout → Port → ℕ
rank layout (Port.Switch s l) = s * layout.links + l
rank layout (Port.Terminal t) = 0

-- wires whose beginnings ascend, from lo on and below hi
abbrev IsRun : Layout → ℕ → ℕ → List Wire → Type 0
IsRun layout lo hi [] = lo ≤ hi
IsRun layout lo hi (w ∷ ws) = (lo ≤ rank layout w.here) × IsRun layout (suc (rank layout w.here)) hi ws

run_from : (layout : Layout) (lo mid hi : ℕ) (ws : List Wire) → lo ≤ mid → IsRun layout mid hi ws → IsRun layout lo hi ws
run_from layout lo mid hi [] le is = omega (arith, le, is)
run_from layout lo mid hi (w ∷ ws) le is = (omega (arith, le, is.0), is.1)

run_append : (layout : Layout) (lo mid hi : ℕ) (ws vs : List Wire) → IsRun layout lo mid ws → IsRun layout mid hi vs → IsRun layout lo hi (ws ++ vs)
run_append layout lo mid hi [] vs a b = run_from layout lo mid hi vs a b
run_append layout lo mid hi (w ∷ ws) vs a b = (a.0, run_append layout (suc (rank layout w.here)) mid hi ws vs a.1 b)

run_range : (layout : Layout) (base step n count lo hi : ℕ) (f : ℕ → List Wire) → lo ≡ base + n * step → hi ≡ lo + count * step → ((i : ℕ) → i < n + count → IsRun layout (base + i * step) (base + i * step + step) (f i)) → IsRun layout lo hi (flat_map f (range_with_len n count))
run_range layout base step n zero lo hi f a b each = omega (arith, b)
run_range layout base step n (suc count) lo hi f a b each =
    run_append layout lo (base + (n + 1) * step) hi (f n) (flat_map f (range_with_len (n + 1) count))
    (let e : base + n * step ≡ lo = sym a in let u : base + n * step + step ≡ base + (n + 1) * step = omega arith in subst (λ x. IsRun layout x (base + (n + 1) * step) (f n)) e (subst (λ x. IsRun layout (base + n * step) x (f n)) u (each n (omega arith))))
    (run_range layout base step (n + 1) count (base + (n + 1) * step) hi f refl (omega (arith, a, b)) (λ i lt. each i (omega (arith, lt))))

wire_run : (layout : Layout) (s l : ℕ) (q : Option Port) → IsRun layout (s * layout.links + l) (s * layout.links + l + 1) (wire_to (Port.Switch s l) q)
unfolding rank
wire_run layout s l q = search (arith, rank)

wire_at_run : (layout : Layout) (s l : ℕ) → IsRun layout (s * layout.links + l) (s * layout.links + l + 1) (wire_at layout s l)
wire_at_run layout s l = search (arith, wire_run, cases_Bool)

wires_run : (layout : Layout) → IsRun layout 0 (layout.switches * layout.links) (filled_wires layout)
wires_run layout = run_range layout 0 layout.links 0 layout.switches 0 (layout.switches * layout.links) (wires_from layout) (omega arith) (omega arith)
    (λ s a. run_range layout (0 + s * layout.links) 1 0 layout.links (0 + s * layout.links) (0 + s * layout.links + layout.links) (wire_at layout s) (omega arith) (omega arith) (λ l b.
    let lo : s * layout.links + l ≡ 0 + s * layout.links + l * 1 = omega arith in
    let hi : s * layout.links + l + 1 ≡ 0 + s * layout.links + l * 1 + 1 = omega arith in
    subst (λ x. IsRun layout x (0 + s * layout.links + l * 1 + 1) (wire_at layout s l)) lo (subst (λ x. IsRun layout (s * layout.links + l) x (wire_at layout s l)) hi (wire_at_run layout s l))))

wire_good : (layout : Layout) (s l : ℕ) (q : Option Port) → s < layout.switches → l < layout.links → layout.begins s l ≡ true → layout.beyond s l ≡ q → IsJoined layout s l q → AllByRecursion (IsGood layout) (wire_to (Port.Switch s l) q)
unfolding leads
wire_good layout s l q a b c is j = search arith

wires_good : (layout : Layout) → AreJoined layout → AllByRecursion (IsGood layout) (filled_wires layout)
wires_good layout joined = each_flat (IsGood layout) (wires_from layout) 0 layout.switches (λ s a. each_flat (IsGood layout) (wire_at layout s) 0 layout.links (λ l b. ⊎_elim
    (λ (t : layout.begins s l ≡ true). rw t (wire_good layout s l (layout.beyond s l) (omega (arith, a)) (omega (arith, b)) t refl (joined s l (omega (arith, a)) (omega (arith, b)))))
    (λ (t : layout.begins s l ≡ false). rw t tt)
    (cases_Bool (layout.begins s l))))

-- a port is none of these
abbrev IsNone : Port → List Port → Type 0
IsNone p ports = AllByRecursion (λ q. is_port p q ≡ false) ports

same_end : (layout : Layout) (v w : Wire) → IsGood layout v → IsGood layout w → v.there ≡ w.there → rank layout v.here ≡ rank layout w.here
same_end layout v w a b same = let e : Some v.here ≡ Some w.here = sym a.back ∙ ap (leads layout) same ∙ b.back in let f : v.here ≡ w.here = cc in ap (rank layout) f

module _ (layout : Layout) where
  none_later : (w : Wire) (n hi : ℕ) (ws : List Wire) → rank layout w.here < n → IsRun layout n hi ws → AllByRecursion (IsGood layout) ws → IsGood layout w → IsNone w.here (both_ends ws) × IsNone w.there (both_ends ws)
  none_later w n hi [] lt run good is = (tt, tt)
  none_later w n hi (v ∷ ws) lt run good is =
      search (arith, rank, is_port-ne, clash, same_end, none_later w (suc (rank layout v.here)) hi ws (omega (arith, lt, run.0)) run.1 good.1 is)

  wires_differ : (n hi : ℕ) (ws : List Wire) → IsRun layout n hi ws → AllByRecursion (IsGood layout) ws → AreDistinct is_port (both_ends ws)
  wires_differ n hi [] run good = tt
  wires_differ n hi (w ∷ ws) run good =
      search (arith, none_later, rank, is_port-ne, clash, wires_differ (suc (rank layout w.here)) hi ws run.1 good.1)

  -- terminals are on other links

  no_begin : (s l : ℕ) (p q : Port) → IsFree layout s l → IsBegin layout p → leads layout p ≡ Some q → Port.Switch s l ≢ p
  unfolding leads
  no_begin s l p q (inl past) a is = search arith
  no_begin s l p q (inr none) a is = λ e. let nowhere : None ≡ Some q = sym none ∙ ap (leads layout) e ∙ is in cc

  no_end : (s l : ℕ) (p q : Port) → IsFree layout s l → IsEnd layout p → leads layout p ≡ Some q → Port.Switch s l ≢ p
  unfolding leads
  no_end s l p q (inl past) a is = search arith
  no_end s l p q (inr none) a is = λ e. let nowhere : None ≡ Some q = sym none ∙ ap (leads layout) e ∙ is in cc

  own_none : (s l : ℕ) (ws : List Wire) → IsFree layout s l → AllByRecursion (IsGood layout) ws → IsNone (Port.Switch s l) (both_ends ws)
  own_none s l [] free good = tt
  own_none s l (w ∷ ws) free good = (is_port-ne (Port.Switch s l) w.here (no_begin s l w.here w.there free good.0.begin good.0.forth), (is_port-ne (Port.Switch s l) w.there (no_end s l w.there w.here free good.0.end good.0.back), own_none s l ws free good.1))

  module _ (hosts first p : ℕ) (some : 0 < p) (free : (s l : ℕ) → s < hosts → first ≤ l → IsFree layout s l) where
    own_port : ℕ → Port
    own_port t = host_port (filled_terminal first p t)

    own_same : (t u : ℕ) → own_port t ≡ own_port u → t ≡ u
    unfolding own_port
    own_same t u is = search (arith, own_port)

    terminal_none : (t n count : ℕ) (ws : List Wire) → t < n → n + count ≤ hosts * p → AllByRecursion (IsGood layout) ws → IsNone (own_port t) (linked_ports (map (filled_terminal first p) (range_with_len n count)) ws)
    unfolding own_port
    terminal_none t n zero ws lt fit good = own_none (t / p) (first + t % p) ws (free (t / p) (first + t % p) (div_below t p hosts some (omega (arith, lt, fit))) (omega arith)) good
    terminal_none t n (suc count) ws lt fit good = (is_port-ne (own_port t) (own_port n) (λ e. let same : t ≡ n = own_same t n e in omega (arith, lt, same)), terminal_none t (n + 1) count ws (omega (arith, lt)) (omega (arith, fit)) good)

    terminals_differ : (n count : ℕ) (ws : List Wire) → n + count ≤ hosts * p → AllByRecursion (IsGood layout) ws → AreDistinct is_port (both_ends ws) → AreDistinct is_port (linked_ports (map (filled_terminal first p) (range_with_len n count)) ws)
    unfolding own_port
    terminals_differ n zero ws fit good differ = differ
    terminals_differ n (suc count) ws fit good differ = (terminal_none n (n + 1) count ws (omega arith) (omega (arith, fit)) good, terminals_differ (n + 1) count ws (omega (arith, fit)) good differ)

    pub hosted_links : AreJoined layout → AreDistinct is_port (linked_ports (hosted_terminals hosts first p) (filled_wires layout))
    hosted_links joined = terminals_differ 0 (hosts * p) (filled_wires layout) (omega arith) (wires_good layout joined) (wires_differ 0 (layout.switches * layout.links) (filled_wires layout) (wires_run layout) (wires_good layout joined))
