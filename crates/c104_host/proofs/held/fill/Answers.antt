use Rattle.c104_host.{proofs.Takings.{ended, gave_none, goes_on, longer, past, take_short}, specs.Holding.TakesPiece}
use Rattle.std.proofs.Common.{arith, length, refl, subst, sym, take, ◌+◌, ◌≡◌, ◌≤◌}
use Rattle.c104_host.proofs.held.fill.Goals as goal

pub loop-bytes-init : goal.loop-bytes-init
loop-bytes-init g c =
    let nothing = c.args.bytes.now.ok.0 in
    let size : length c.args.bytes.now.items ≡ 0 = subst (λ xs. length xs ≡ 0) (sym c.requires) refl in
    (c.in_ok-piece.ensures.len, omega (arith, nothing, size), gave_none (g.R.Read.remaining c.args.reader.now) c.args.bytes.now.items c.requires)

pub returns-in-Some : goal.returns-in-Some
returns-in-Some g c =
    let left = g.R.Read.remaining in
    let room = c.room_for-room.result in
    let piece = c.deref_mut.result.now in
    let old = c.loop-bytes.bytes in
    let takes = subst (λ e. TakesPiece (length (take room piece)) (left c.loop-bytes.reader) (left c.take_piece.new.reader) old.items c.take_piece.new.bytes.items e) c.in-Some.is c.in_ok-end.ensures in
    let fits : length old.items + length (take room piece) ≤ c.args.most + 1 = omega (arith, old.ok.0, c.len-in-loop-bytes.ensures, c.room_for-room.ensures.few, take_short room piece) in
    ended c.args.most (length (take room piece)) (left c.args.reader.now) (left c.loop-bytes.reader) (left c.take_piece.new.reader) old.items c.take_piece.new.bytes.items c.in-Some.end fits c.loop-bytes.invariant.2 takes

pub loop-bytes-smaller : goal.loop-bytes-smaller
loop-bytes-smaller g c =
    let left = g.R.Read.remaining in
    let room = c.room_for-room.result in
    let piece = c.deref_mut.result.now in
    let old = c.loop-bytes.bytes in
    let takes = subst (λ e. TakesPiece (length (take room piece)) (left c.loop-bytes.reader) (left c.take_piece.new.reader) old.items c.take_piece.new.bytes.items e) c.in-None.is c.in_ok-end.ensures in
    let more = longer (length (take room piece)) (left c.loop-bytes.reader) (left c.take_piece.new.reader) old.items c.take_piece.new.bytes.items takes in
    omega (arith, old.ok.0, c.take_piece.new.bytes.ok.0, c.len.ensures, c.loop-bytes-test.true, more)

pub loop-bytes-preserved : goal.loop-bytes-preserved
loop-bytes-preserved g c =
    let left = g.R.Read.remaining in
    let room = c.room_for-room.result in
    let piece = c.deref_mut.result.now in
    let old = c.loop-bytes.bytes in
    let takes = subst (λ e. TakesPiece (length (take room piece)) (left c.loop-bytes.reader) (left c.take_piece.new.reader) old.items c.take_piece.new.bytes.items e) c.in-None.is c.in_ok-end.ensures in
    let fits : length old.items + length (take room piece) ≤ c.args.most + 1 = omega (arith, old.ok.0, c.len-in-loop-bytes.ensures, c.room_for-room.ensures.few, take_short room piece) in
    let both = goes_on c.args.most (length (take room piece)) (left c.args.reader.now) (left c.loop-bytes.reader) (left c.take_piece.new.reader) old.items c.take_piece.new.bytes.items fits c.loop-bytes.invariant.2 takes in
    (c.loop-bytes.invariant.0, omega (arith, c.take_piece.new.bytes.ok.0, both.0), both.1)

pub returns : goal.returns
returns g c =
    let kept = c.loop-bytes.invariant in
    let old = c.loop-bytes.bytes in
    let size : length old.items ≡ c.args.most + 1 = omega (arith, old.ok.0, c.len.ensures, c.loop-bytes-test.false, kept.1) in
    past c.args.most (g.R.Read.remaining c.args.reader.now) (g.R.Read.remaining c.loop-bytes.reader) old.items size kept.2
