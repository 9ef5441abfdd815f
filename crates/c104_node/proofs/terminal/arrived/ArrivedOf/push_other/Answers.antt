use Rattle.{c104_node.{proofs.ArrivedLists.{other_keeps, other_more}, specs.Arrivals.OtherOf}, std.proofs.Common.{List, [], ap, length, ℕ}}
use Rattle.std.proofs.Common.{◌++◌, ◌∙◌, ◌∷◌, ◌≡◌}
use Rattle.c104_node.proofs.terminal.arrived.ArrivedOf.push_other.Goals as goal

pub invariant_of-self-2 : goal.invariant_of-self-2
invariant_of-self-2 g c =
    let o : OtherOf g.row.T.Denot = record { place = length {A = ℕ} c.as_slice-place.result.now; token = c.args.token } in
    let joined : c.push_reserved.new.self.items ≡ c.self.inside.bytes.items ++ 0 ∷ [] = c.push_reserved.ensures.items ∙ ap (λ (bs : List ℕ). bs ++ 0 ∷ []) c.reserve.ensures.items in
    let placed : length {A = ℕ} c.as_slice-place.result.now ≡ length c.self.inside.bytes.items = ap (length {A = ℕ}) c.as_slice-place.ensures.value in
    other_keeps g.T.TokenKind.kind c.self.inside.bytes.items c.push_reserved.new.self.items c.self.inside.others.items c.push.new.self.items 0 o c.self.invariant joined c.in_ok-push.ensures.items placed c.requires

pub returns-clause-done : goal.returns-clause-done
returns-clause-done g c =
    let o : OtherOf g.row.T.Denot = record { place = length {A = ℕ} c.as_slice-place.result.now; token = c.args.token } in
    let joined : c.push_reserved.new.self.items ≡ c.self.inside.bytes.items ++ 0 ∷ [] = c.push_reserved.ensures.items ∙ ap (λ (bs : List ℕ). bs ++ 0 ∷ []) c.reserve.ensures.items in
    let placed : length {A = ℕ} c.as_slice-place.result.now ≡ length c.self.inside.bytes.items = ap (length {A = ℕ}) c.as_slice-place.ensures.value in
    other_more g.T.TokenKind.kind c.self.inside.bytes.items c.push_reserved.new.self.items c.self.inside.others.items c.push.new.self.items 0 o c.self.invariant joined c.in_ok-push.ensures.items placed
    ∙ ap (λ (list : List g.row.T.Denot). list ++ c.args.token ∷ []) c.self.view_is
