-- The table of the far ends of links, made one wire after the other.
use Rattle.{c104_node.specs.declared.ends.End.End, c104_plan.proofs.{PortLemmas.{is_port-ne, is_port-refl}, Wires.wiring}}
use Rattle.c104_plan.specs.{Plans.{IsPlan, Plan, host_port}, Ports.other_end, Wiring.{terminal_wires, wires}}
use Rattle.{c104_plan.specs.declared.{plans.Terminal.Terminal, ports.{Port.Port, Wire.Wire}}, c104_run.specs.{Ends.end_of, FarEnds.end_by}}
use Rattle.{c104_run.specs.FarEnds.{ends_by, far_end, link_ends, with_end}, std.proofs.Common.{List, None, Option, Some, [], ap, arith}}
use Rattle.std.proofs.Common.{drop, get_or, length, refl, replicate, slice_set, sym, ℕ, ◌%◌, ◌*◌, ◌++◌, ◌+◌, ◌-◌, ◌/◌, ◌<◌, ◌∙◌, ◌∷◌, ◌≡◌}
use Rattle.std.proofs.lemmas.{Bool.cases_eq, Grind.get_or-set_at, List.FromFn.{fill_by_all, get_or-map-range_with_len}}
use Rattle.std.proofs.lemmas.List.{FromFn.length-map-range_with_len, drop_all, drop_more, ext_get_or, get_or-replicate, get_or-set_other}
use Rattle.std.{proofs.lemmas.{List.{length-replicate, length-set}, Option.slice_get-get_or}, specs.Option.option_map}

pub ends_counted : (far : Port → Option End) (n : ℕ) → length (ends_by far n) ≡ n * 32
ends_counted far n = length-map-range_with_len (λ place. far (Port.Switch (place / 32) (place % 32))) 0 (n * 32)

read : (far : Port → Option End) (n k : ℕ) → k < n * 32 → get_or (ends_by far n) k None ≡ far (Port.Switch (k / 32) (k % 32))
read far n k below = get_or-map-range_with_len (λ place. far (Port.Switch (place / 32) (place % 32))) 0 (n * 32) k k None (omega (arith, below)) (omega arith)

-- without a wire no link has a far end
pub none_yet : (plan : Plan) (n count : ℕ) → count ≡ n * 32 → replicate count None ≡ ends_by (end_by plan []) n
none_yet plan n count all =
    ap (λ (m : ℕ). replicate {A = Option End} m None) all
    ∙ fill_by_all (λ place. end_by plan [] (Port.Switch (place / 32) (place % 32))) (replicate (n * 32) None) (n * 32) None (length-replicate {A = Option End} (n * 32) None) (λ k below. get_or-replicate {A = Option End} (n * 32) k None None below)

-- one link more has one
module _ (far : Port → Option End) (n s l : ℕ) (e : End) (inside : s < n) (below : l < 32) where
  abbrev after : Port → Option End
  after = with_end far (Port.Switch s l) e

  same : (k : ℕ) → k ≡ s * 32 + l → after (Port.Switch (k / 32) (k % 32)) ≡ Some e
  same k at = search (arith, is_port-refl)

  differs : (k : ℕ) → (k ≡ s * 32 + l → ⊥) → after (Port.Switch (k / 32) (k % 32)) ≡ far (Port.Switch (k / 32) (k % 32))
  differs k apart = search (arith, is_port-ne)

  element : (k : ℕ) → k < n * 32 → get_or (slice_set (ends_by far n) (s * 32 + l) (Some e)) k None ≡ get_or (ends_by after n) k None
  element k lt = search (arith, ends_counted, cases_eq, get_or-set_at, read, same, get_or-set_other, differs)

  pub end_set : (ends : List (Option End)) → ends ≡ ends_by far n → slice_set ends (s * 32 + l) (Some e) ≡ ends_by after n
  end_set ends are =
      let count : length (slice_set (ends_by far n) (s * 32 + l) (Some e)) ≡ n * 32 = length-set (ends_by far n) (s * 32 + l) (Some e) ∙ ends_counted far n in
      ap (λ ys. slice_set ys (s * 32 + l) (Some e)) are
      ∙ ext_get_or None _ _ (count ∙ sym (ends_counted after n)) (λ k lt. element k (omega (arith, lt, count)))

-- past the last there is none
pub none_left : {X : Type 0} (xs : List X) → drop (length xs - 0) xs ≡ []
none_left xs = drop_all (length xs - 0) xs (omega arith)

module _ (plan : Plan) where
  -- the wires from one on, and that one
  pub wire_added : (ws : List Wire) (k m : ℕ) (d : Wire) (e f : End) (n : ℕ) (new : List (Option End)) → k < length ws → m ≡ k + 1 → e ≡ end_of plan (get_or ws k d).here → f ≡ end_of plan (get_or ws k d).there →
      new ≡ ends_by (with_end (with_end (end_by plan (drop m ws)) (get_or ws k d).there e) (get_or ws k d).here f) n → new ≡ ends_by (end_by plan (drop k ws)) n
  wire_added ws k m d e f n new below next here there is =
      let w : Wire = get_or ws k d in
      is
      ∙ ap (λ j. ends_by (with_end (with_end (end_by plan (drop j ws)) w.there e) w.here f) n) next
      ∙ ap (λ x. ends_by (with_end (with_end (end_by plan (drop (k + 1) ws)) w.there x) w.here f) n) here
      ∙ ap (λ x. ends_by (with_end (with_end (end_by plan (drop (k + 1) ws)) w.there (end_of plan w.here)) w.here x) n) there
      ∙ ap (λ xs. ends_by (end_by plan xs) n) (sym (drop_more ws k d below))

  -- terminals' wires, from one on, before those between switches
  abbrev pub from_terminal : List Terminal → List Wire → ℕ → Port → Option End
  from_terminal ts ws k = end_by plan (terminal_wires k (drop k ts) ++ ws)

  pub terminal_added : (ts : List Terminal) (ws : List Wire) (k m : ℕ) (t : Terminal) (p : Port) (n : ℕ) (new : List (Option End)) → k < length ts → m ≡ k + 1 → t ≡ get_or ts k t → p ≡ host_port t →
      new ≡ ends_by (with_end (from_terminal ts ws m) p (end_of plan (Port.Terminal k))) n → new ≡ ends_by (from_terminal ts ws k) n
  terminal_added ts ws k m t p n new below next is host made = search (arith, drop_more)

  -- by wires, the far end is that of the other end
  by_wires : (ws : List Wire) (p : Port) → end_by plan ws p ≡ option_map (end_of plan) (other_end ws p)
  by_wires [] p = refl
  by_wires (w ∷ ws) p = search (arith, by_wires ws p)

  -- so by all wires the table is that of the plan
  pub all_added : (ends : List (Option End)) → ends ≡ ends_by (end_by plan (wires plan)) (length plan.switches) → ends ≡ link_ends plan
  all_added ends are = search (arith, fill_by_all, ends_counted, read, by_wires)

  -- a terminal's wire leads to the link that it is on
  pub terminal_far : IsPlan plan → (k : ℕ) (t : Terminal) → k < length plan.terminals → t ≡ get_or plan.terminals k t → Some (end_of plan (host_port t)) ≡ far_end plan (Port.Terminal k)
  terminal_far is_plan k t inside is = sym (ap (option_map (end_of plan)) ((wiring plan is_plan).host k t (slice_get-get_or plan.terminals k t inside ∙ ap Some (sym is))))
