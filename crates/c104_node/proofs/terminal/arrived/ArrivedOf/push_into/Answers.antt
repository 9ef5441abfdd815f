use Rattle.c104_node.{proofs.ArrivedLists.{arrived_length, byte_keeps, byte_more, other_keeps, other_more}, specs.Arrivals.OtherOf}
use Rattle.std.proofs.Common.{List, [], ap, arith, length, sym, ℕ, ◌++◌, ◌∙◌, ◌∷◌, ◌≡◌}
use Rattle.c104_node.proofs.terminal.arrived.ArrivedOf.push_into.Goals as goal

pub push_roomy-requires-clause-room : goal.push_roomy-requires-clause-room
push_roomy-requires-clause-room g c =
    let long = arrived_length g.T.TokenKind.kind c.self.inside.bytes.items c.self.inside.others.items in
    let seen = ap (length {A = g.row.T.Denot}) c.self.view_is in
    let same = ap (length {A = ℕ}) c.as_slice-place.ensures.value in
    omega (arith, long, seen, same, c.as_slice-place.ensures.len, c.requires.bytes)

pub push_roomy-requires-in-None-clause-room : goal.push_roomy-requires-in-None-clause-room
push_roomy-requires-in-None-clause-room g c =
    let long = arrived_length g.T.TokenKind.kind c.self.inside.bytes.items c.self.inside.others.items in
    let seen = ap (length {A = g.row.T.Denot}) c.self.view_is in
    let same = ap (length {A = ℕ}) c.as_slice-place.ensures.value in
    omega (arith, long, seen, same, c.as_slice-place.ensures.len, c.requires.bytes)

pub invariant_of-self : goal.invariant_of-self
invariant_of-self g c =
    byte_keeps g.T.TokenKind.kind c.self.inside.bytes.items c.push_roomy.new.list.items c.self.inside.others.items c.in-Some.byte c.args.token c.self.invariant c.push_roomy.ensures.items c.in-Some.ensures.told (sym c.in-Some.ensures.byte)

pub invariant_of-self-in-None : goal.invariant_of-self-in-None
invariant_of-self-in-None g c =
    let o : OtherOf g.row.T.Denot = record { place = length {A = ℕ} c.as_slice-place.result.now; token = c.args.token } in
    let placed : length {A = ℕ} c.as_slice-place.result.now ≡ length c.self.inside.bytes.items = ap (length {A = ℕ}) c.as_slice-place.ensures.value in
    other_keeps g.T.TokenKind.kind c.self.inside.bytes.items c.push_roomy-in-None.new.list.items c.self.inside.others.items c.push_roomy-in-None-2.new.list.items 0 o c.self.invariant c.push_roomy-in-None.ensures.items c.push_roomy-in-None-2.ensures.items placed (sym c.in-None.ensures.byte)

pub returns-in-Some-clause-pushed : goal.returns-in-Some-clause-pushed
returns-in-Some-clause-pushed g c =
    byte_more g.T.TokenKind.kind c.self.inside.bytes.items c.push_roomy.new.list.items c.self.inside.others.items c.in-Some.byte c.args.token c.self.invariant c.push_roomy.ensures.items c.in-Some.ensures.told
    ∙ ap (λ (list : List g.row.T.Denot). list ++ c.args.token ∷ []) c.self.view_is

pub returns-in-None-clause-pushed : goal.returns-in-None-clause-pushed
returns-in-None-clause-pushed g c =
    let o : OtherOf g.row.T.Denot = record { place = length {A = ℕ} c.as_slice-place.result.now; token = c.args.token } in
    let placed : length {A = ℕ} c.as_slice-place.result.now ≡ length c.self.inside.bytes.items = ap (length {A = ℕ}) c.as_slice-place.ensures.value in
    other_more g.T.TokenKind.kind c.self.inside.bytes.items c.push_roomy-in-None.new.list.items c.self.inside.others.items c.push_roomy-in-None-2.new.list.items 0 o c.self.invariant c.push_roomy-in-None.ensures.items c.push_roomy-in-None-2.ensures.items placed
    ∙ ap (λ (list : List g.row.T.Denot). list ++ c.args.token ∷ []) c.self.view_is
