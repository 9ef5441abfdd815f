-- Where a header with an owner goes on in a network of a layout: over the link that is picked.
use Rattle.c104_check.specs.{Reach.IsReached, Routes.{IsEntryOf, Routes, owner, to_port}, Shown.Follows, Trails.IsNetwork}
use Rattle.{c104_check.specs.declared.ports.SwitchPort.SwitchPort, c104_interval.specs.declared.intervals.Table.Table}
use Rattle.c104_label.proofs.{AcceptedLayouts.{IsLabelling, layout_routes, leaves, ranges, switch_count}, CrossedWires.IsWired}
use Rattle.c104_label.proofs.{CrossedWires.LeavesByPick, FilledPeers.terminal_peer, OwnLabels.{no_owner, one_label}}
use Rattle.c104_plan.{proofs.Wires.wiring, specs.{Layouts.Layout, Plans.{IsFilled, IsPlan, Plan}, declared.ports.Port.Port}}
use Rattle.std.proofs.Common.{None, Some, ap, arith, inl, inr, is_some, length, subst, suc, sym, zero, ℕ, ◌%◌, ◌*◌, ◌+◌, ◌/◌, ◌<◌, ◌∙◌, ◌≡◌}
use Rattle.std.proofs.{Common.{◌≤◌, ◌⊎◌}, lemmas.{Bool.{cases_lt, eqb-true}, List.FromFn.length-map-range_with_len}}

module _ (plan : Plan) (layout : Layout) (p : ℕ) (tables : ℕ → Table) (pick : ℕ → ℕ → ℕ → ℕ) (distance : ℕ → ℕ → ℕ) (kept : IsPlan plan) (filled : IsFilled layout p plan) (labelling : IsLabelling layout p tables pick distance) (is_network : IsNetwork (layout_routes plan layout tables)) where
  abbrev net : Routes
  net = layout_routes plan layout tables

  -- a header goes on from an input to another: it is a label, and the link that it picks leads there
  pub record GoesOn (h : ℕ) (q r : SwitchPort) : Type 0 where
    pub below : h < layout.switches * p
    pub inside : q.switch < layout.switches
    pub leaves : LeavesByPick layout p pick (layout_routes plan layout tables) h
    pub leads : (layout_routes plan layout tables).peer (Port.Switch q.switch (pick q.switch (h / p) (layout.links + h % p))) ≡ Some (to_port r)

  owned_below : (h t : ℕ) → owner net h ≡ Some t → h < layout.switches * p
  owned_below h t owned = elim (cases_lt h (layout.switches * p)) [
    | inl below ↦ below
    | inr past ↦
        let none = no_owner net (layout.switches * p) (ranges plan layout p tables pick distance kept filled labelling is_network) h (omega (arith, past)) in
        let clash : None ≡ Some t = sym none ∙ owned in absurd cc
  ]

  -- an input to which a header may come is wired
  reached_wired : (h : ℕ) (q : SwitchPort) → IsReached net h q → (b : Port) × (net.peer (to_port q) ≡ Some b)
  reached_wired h q (t, x, zero, entry, same) = (Port.Terminal t, (wiring plan kept).back (Port.Terminal t) (to_port q) (entry ∙ ap (λ z. Some (to_port z)) same))
  reached_wired h q (t, x, suc m, entry, (z, from, follows)) = (Port.Switch z.switch follows.1, (wiring plan kept).back (Port.Switch z.switch follows.1) (to_port q) follows.4)

  pub goes_on : (h t : ℕ) (q r : SwitchPort) → owner net h ≡ Some t → IsReached net h q → Follows net h q r → GoesOn h q r
  goes_on h t q r owned reached (g, o, sel, group, wire) =
      let below = owned_below h t owned in
      let at = reached_wired h q reached in
      let inside = (wiring plan kept).inside (to_port q) at.0 at.1 in
      let lt : q.switch < layout.switches = omega (arith, inside.0, switch_count plan layout p tables pick distance kept filled labelling is_network) in
      let lv = leaves plan layout p tables pick distance kept filled labelling is_network h below in
      let wired : IsWired net q.switch q.link = ap is_some at.1 in
      search (arith, eqb-true, leaves)

  -- the input of a terminal is none of a link between switches
  pub entry_link : (t : ℕ) (q : SwitchPort) → IsEntryOf net t q → layout.links ≤ q.link
  entry_link t q entry =
      let inside : t < length net.ranges = is_network.terminals t q entry in
      let below : t < layout.switches * p = omega (arith, inside, ap length (ranges plan layout p tables pick distance kept filled labelling is_network), length-map-range_with_len one_label 0 (layout.switches * p)) in
      link_same (t / p) (layout.links + t % p) q (omega arith) (sym (terminal_peer plan layout p kept filled labelling.joined t below) ∙ entry)
    where
      link_same : (s l : ℕ) (q : SwitchPort) → layout.links ≤ l → Some (Port.Switch s l) ≡ Some (to_port q) → layout.links ≤ q.link
      link_same s l q le is = let e : l ≡ q.link = cc in subst (λ n. layout.links ≤ n) e le

  -- an input to which a header may come is one of a terminal, or one to which it goes on from another
  pub came_from : (h t : ℕ) (q : SwitchPort) → owner net h ≡ Some t → IsReached net h q → ((x : ℕ) × IsEntryOf net x q) ⊎ ((z : SwitchPort) × GoesOn h z q)
  came_from h t q owned (x, e, zero, entry, same) = inl (x, subst (IsEntryOf net x) same entry)
  came_from h t q owned (x, e, suc m, entry, (z, from, follows)) = inr (z, goes_on h t z q owned (x, e, m, entry, from) follows)
