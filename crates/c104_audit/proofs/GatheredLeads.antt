-- The entries that lead, as they are gathered.
use Rattle.{c104_audit.specs.{Leads.{Lead, leads_at, leads_from}, Tests.lead_in}, c104_net.specs.declared.leading.Lead.Lead as Leading}
use Rattle.{c104_node.specs.declared.acts.Entry.Entry, c104_run.proofs.KeptElements.drop_next, std.proofs.Common.{Bool, List, Some, []}}
use Rattle.std.proofs.Common.{append_assoc, arith, drop, false, map, refl, slice_get, true, ℕ, ◌++◌, ◌+◌, ◌∷◌, ◌≡◌}
use Rattle.std.proofs.lemmas.List.{map-append}

module _ (leads : ℕ → Entry → Bool) where
  abbrev Tickets : Entry → ℕ
  Tickets e = e.ticket

  abbrev At : ℕ → List Entry → List (ℕ × Lead Entry)
  At k es = leads_at Tickets leads k es

  at_true : (k : ℕ) (e : Entry) (es : List Entry) → leads k e ≡ true → At k (e ∷ es) ≡ (e.ticket, record { place = k; entry = e }) ∷ At k es
  at_true k e es is = rw is refl

  at_false : (k : ℕ) (e : Entry) (es : List Entry) → leads k e ≡ false → At k (e ∷ es) ≡ At k es
  at_false k e es is = rw is refl

  lead_at : (traces : List (List Entry)) (place at : ℕ) (trace : List Entry) (e : Entry) → slice_get traces place ≡ Some trace → slice_get trace at ≡ Some e → lead_in traces (record { ticket = e.ticket; place = place; at = at }) ≡ (e.ticket, record { place = place; entry = e })
  lead_at traces place at trace e there here = search arith

  -- one more that leads was added
  pub add_on : (traces : List (List Entry)) (place at : ℕ) (trace : List Entry) (e : Entry) (items new : List Leading) (all : List (ℕ × Lead Entry)) → slice_get traces place ≡ Some trace → slice_get trace at ≡ Some e → leads place e ≡ true → new ≡ items ++ record { ticket = e.ticket; place = place; at = at } ∷ [] →
      map (lead_in traces) items ++ leads_at (λ (e : Entry). e.ticket) leads place (drop at trace) ≡ all → map (lead_in traces) new ++ leads_at (λ (e : Entry). e.ticket) leads place (drop (at + 1) trace) ≡ all
  add_on traces place at trace e items new all there here is added before =
      search (arith, drop_next, at_true, map-append, lead_at, append_assoc)

  -- one that doesn't was passed over
  pub pass_on : (traces : List (List Entry)) (place at : ℕ) (trace : List Entry) (e : Entry) (items new : List Leading) (all : List (ℕ × Lead Entry)) → slice_get trace at ≡ Some e → leads place e ≡ false → new ≡ items →
      map (lead_in traces) items ++ leads_at (λ (e : Entry). e.ticket) leads place (drop at trace) ≡ all → map (lead_in traces) new ++ leads_at (λ (e : Entry). e.ticket) leads place (drop (at + 1) trace) ≡ all
  pass_on traces place at trace e items new all here is same before = search (arith, drop_next, at_false)

  -- the leads of one more trace were added
  pub trace_on : (traces : List (List Entry)) (place : ℕ) (trace lent : List Entry) (items new : List Leading) (all : List (ℕ × Lead Entry)) → slice_get traces place ≡ Some trace → lent ≡ trace →
      map (lead_in traces) new ≡ map (lead_in traces) items ++ leads_at (λ (e : Entry). e.ticket) leads place lent →
      map (lead_in traces) items ++ leads_from (λ (e : Entry). e.ticket) leads place (drop place traces) ≡ all → map (lead_in traces) new ++ leads_from (λ (e : Entry). e.ticket) leads (place + 1) (drop (place + 1) traces) ≡ all
  trace_on traces place trace lent items new all there same added before = search (arith, drop_next, append_assoc)
