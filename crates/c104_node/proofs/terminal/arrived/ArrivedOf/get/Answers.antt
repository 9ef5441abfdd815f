use Rattle.c104_node.{proofs.ArrivedLists.{arrived_length, byte_there}, specs.Arrivals.{OtherOf, overlaid}}
use Rattle.{c104_token.specs.Kinds.byte_token, std.proofs.Common.{List, Some, ap, arith, length, map, slice_get, slice_index_or, sym, ℕ}}
use Rattle.std.proofs.{Common.{◌<◌, ◌∙◌, ◌≤◌}, lemmas.Option.{slice_get-get_or, slice_get_past}}
use Rattle.c104_node.proofs.terminal.arrived.ArrivedOf.get.Goals as goal

pub returns-then-index-bytes : goal.returns-then-index-bytes
returns-then-index-bytes g c =
    let long = arrived_length g.T.TokenKind.kind c.self.inside.bytes.items c.self.inside.others.items in
    let seen = ap (length {A = g.row.T.Denot}) c.self.view_is in
    let same = ap (length {A = ℕ}) c.as_slice-bytes.ensures.value in
    let past : length c.args.self.now ≤ c.args.index = omega (arith, long, seen, same, c.if-index-bytes.true) in
    sym (slice_get_past c.args.self.now c.args.index past)

pub returns : goal.returns
returns g c =
    let kind = g.T.TokenKind.kind in
    let lent = c.as_slice-bytes.result.now in
    let bytes = c.self.inside.bytes.items in
    let inside : c.args.index < length {A = ℕ} lent = omega arith in
    let there = byte_there kind bytes lent c.args.index (slice_index_or lent c.args.index 0) c.as_slice-bytes.ensures.value (slice_get-get_or lent c.args.index 0 inside) in
    sym (c.token_among.ensures (map (byte_token kind) bytes) (there ∙ ap Some (sym c.random-first.ensures)))
    ∙ ap (λ (os : List (OtherOf g.row.T.Denot)). slice_get (overlaid os (map (byte_token kind) bytes)) c.args.index) c.as_slice.ensures.value
    ∙ ap (λ (list : List g.row.T.Denot). slice_get list c.args.index) c.self.view_is
