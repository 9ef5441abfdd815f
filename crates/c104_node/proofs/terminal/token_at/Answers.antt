use Rattle.{c104_node.proofs.Waiting.{byte_at, end_at}, std.proofs.Common.{List, Some, ap, arith, length, slice_get, slice_index_or, subst}}
use Rattle.std.proofs.{Common.{sym, ℕ, ◌<◌, ◌∙◌, ◌≡◌}, lemmas.Option.slice_get-get_or}
use Rattle.c104_node.proofs.terminal.token_at.Goals as goal

byte_there : (bytes lent : List ℕ) (k : ℕ) → lent ≡ bytes → k < length lent → slice_get bytes k ≡ Some (slice_index_or lent k 0)
byte_there bytes lent k same inside = subst (λ (xs : List ℕ). slice_get xs k ≡ Some (slice_index_or lent k 0)) same (slice_get-get_or lent k 0 inside)

pub returns-then-place-bytes : goal.returns-then-place-bytes
returns-then-place-bytes g c =
    byte_at g.T.TokenKind.kind c.args.posted.now.terminal c.args.number c.args.place (slice_index_or c.as_slice-bytes.result.now c.args.place 0) c.args.posted.now.packet (byte_there c.args.posted.now.packet.bytes c.as_slice-bytes.result.now c.args.place c.as_slice-bytes.ensures c.if-place-bytes.true)
    ∙ ap Some (sym c.sent.ensures)

pub returns : goal.returns
returns g c =
    let same : length c.as_slice-bytes.result.now ≡ length c.args.posted.now.packet.bytes = ap (length {A = ℕ}) c.as_slice-bytes.ensures in
    end_at g.T.TokenKind.kind c.args.posted.now.terminal c.args.number c.args.place c.args.posted.now.packet (omega (arith, same, c.requires, c.if-place-bytes.false))
    ∙ ap Some (sym (c.sent-2.ensures ∙ ap (g.T.TokenKind.kind.sent c.args.posted.now.terminal c.args.number c.args.place) c.token.ensures))
