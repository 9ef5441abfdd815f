-- What would go out next over a link is the first token that waits there, where one can go out.
use Rattle.c104_link.{proofs.MadeSteps.{from_place_made, given, required}, specs.{Buffers.{Outgoing, outgoing_emit}, Steps.yield_step_at}}
use Rattle.{c104_link.specs.Steps.◌>>=◌, c104_node.specs.{Nodes.Node, Terminals.{Terminal, terminal_leave}, Views.node_next_token}}
use Rattle.{c104_node.specs.declared.node.NodeOf.NodeOf, c104_switch.specs.{Switch.{Switch, switch_leave}, Views.output_token}}
use Rattle.std.proofs.Common.{List, None, Option, Some, [], ap, drop, false, is_some, nat_lt, refl, slice_get, true, ℕ, ◌-◌, ◌∙◌, ◌∷◌, ◌≡◌}
use Rattle.std.proofs.lemmas.Bool.{both_ways}

pub first_some : {A : Type 0} (l : List A) (x : A) → slice_get l 0 ≡ Some x → l ≡ x ∷ drop 1 l
first_some [] x e = absurd (cc)
first_some (y ∷ l) x e = let d : y ≡ x = cc in ap (λ z. z ∷ l) d

pub leave_some : {A : Type 0} (q : Outgoing A) (l : A × Outgoing A) → outgoing_emit q ≡ Some l → q.items ≡ l.0 ∷ l.1.items
leave_some q l e = given (slice_get q.items 0) _ l e (λ x ex e1. required (nat_lt 0 q.credit) _ l e1 (λ b e2.
    (let d : (x, record { items = drop 1 q.items; credit = q.credit - 1 }) ≡ l = cc in first_some q.items x ex ∙ ap (λ (z : _ × Outgoing _). z.0 ∷ z.1.items) d)))

module _ {A : Type 0} where
  -- a token that goes out of a part of a node, as it goes out of the node
  abbrev token_of : {S : Type 0} → (S → Node A) → Option (A × S) → Option A
  token_of {S} put made = whole made >>= told
    where
      whole : Option (A × S) → Option (A × Node A)
      whole o = o >>= (λ r. Some (r.0, put r.1))

      told : A × Node A → Option A
      told r = Some r.0

  first_by : {S : Type 0} (put : S → Node A) (first : Option A) (made : Option (A × S)) → ((r : A × S) → made ≡ Some r → first ≡ Some r.0) → is_some made ≡ true → first ≡ token_of put made
  first_by put first None gives ready = absurd (both_ways false refl ready)
  first_by put first (Some r) gives ready = gives r refl

  none_by : {S : Type 0} (put : S → Node A) (made : Option (A × S)) → is_some made ≡ false → None ≡ token_of put made
  none_by put None closed = refl
  none_by put (Some r) closed = absurd (both_ways true closed refl)

  first_of : (q : Outgoing A) (y : A × Outgoing A) → outgoing_emit q ≡ Some y → slice_get q.items 0 ≡ Some y.0
  first_of q y made = ap (λ (xs : List A). slice_get xs 0) (leave_some q y made)

  module _ (s : Switch A) (l : ℕ) where
    pub switch_none : is_some (switch_leave s l) ≡ false → None ≡ node_next_token l (NodeOf.Switch s)
    switch_none closed = none_by NodeOf.Switch (switch_leave s l) closed

    pub switch_first : is_some (switch_leave s l) ≡ true → output_token s l 0 ≡ node_next_token l (NodeOf.Switch s)
    switch_first ready = first_by NodeOf.Switch (output_token s l 0) (switch_leave s l) (λ v left.
        given (yield_step_at s.outputs l outgoing_emit) _ v left (λ w there last.
        from_place_made s.outputs l outgoing_emit w there (λ q y here made set.
        (let one : y.0 ≡ w.0 = ap (λ (z : A × List (Outgoing A)). z.0) set in
        let two : w.0 ≡ v.0 = cc last in
        rw here (first_of q y made ∙ ap Some (one ∙ two)))))) ready

  module _ (t : Terminal A) (l : ℕ) where
    pub terminal_none : is_some (terminal_leave t) ≡ false → None ≡ node_next_token l (NodeOf.Terminal t)
    terminal_none closed = none_by NodeOf.Terminal (terminal_leave t) closed

    pub terminal_first : is_some (terminal_leave t) ≡ true → slice_get t.output.items 0 ≡ node_next_token l (NodeOf.Terminal t)
    terminal_first ready = first_by NodeOf.Terminal (slice_get t.output.items 0) (terminal_leave t) (λ v left.
        given (outgoing_emit t.output) _ v left (λ y made last.
        (let two : y.0 ≡ v.0 = cc last in first_of t.output y made ∙ ap Some two))) ready
