use Rattle.{c104_stream.proofs.KnownReads.{filled, first_between, gave_byte, nothing_between}, std.proofs.Common.{arith, slice_range, sym}}
use Rattle.std.{proofs.{Common.{◌+◌, ◌∙◌, ◌∷◌, ◌≡◌}, KnownBytes.Keeps-refl}, specs.Io.KnownBytes.{Keeps, prepend_known}}
use Rattle.c104_stream.proofs.reading.Ahead.next_byte.Goals.{else-self, then-self+in_ok-read_piece}

pub returns : Rattle.c104_stream.proofs.reading.Ahead.next_byte.Goals.returns
returns g c =
    let inside = c.self-2.inside in
    let kept : Keeps (prepend_known c.args.self.now (g.R.Read.remaining c.args.reader.now)) (prepend_known c.if-self.self (g.R.Read.remaining c.if-self.reader)) =
    elim c.if-self.branch [
      | then-self+in_ok-read_piece w ↦ rw (w.self-is, w.reader-is) (filled _ _ _ _ (sym c.self.view_is ∙ nothing_between _ _ _ w.if-self.true) w.in_ok-read_piece.ensures.0)
      | else-self w ↦ rw (w.self-is, w.reader-is) (Keeps-refl _)
    ] in
    let split : c.if-self.self ≡ c.index-byte.result.now ∷ slice_range inside.piece.items (inside.start + 1) inside.end =
    sym c.self-2.view_is ∙ first_between inside.piece.items inside.start inside.end c.index-byte.result.now c.if-self-2.false (omega (arith, inside.piece.ok.0)) c.index-byte.ensures in
    gave_byte _ _ _ _ _ _ kept split
