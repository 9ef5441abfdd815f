use Rattle.{c104_stream.{proofs.Prefixes.{kept_past, kept_stops, prefix_longer}, specs.Writing.AppendsPrefix}, std.proofs.Common.{Err, Ok}}
use Rattle.std.proofs.Common.{OnErr, Result, [], arith, inl, inr, rules, subst, sym, ◌++◌, ◌≡◌}
use Rattle.c104_stream.proofs.kept.Kept.add.Goals as goal

-- where it is known at every result, it is at an error
at_error : {T E : Type 0} (P : Type 0) (result : Result T E) → P → OnErr result P
at_error P (Ok it) known = tt
at_error P (Err fault) known = known

pub returns-in_err-make_room-clause-prefix : goal.returns-in_err-make_room-clause-prefix
returns-in_err-make_room-clause-prefix g c =
    at_error _ c.from_residual.result (prefix_longer _ _ _ c.args.text.now c.in_err-make_room.ensures.prefix)

pub returns-then-text-gt-ROOM-clause-kept : goal.returns-then-text-gt-ROOM-clause-kept
returns-then-text-gt-ROOM-clause-kept g c =
    let none : c.make_room.new.self ≡ [] = elim c.in_ok-make_room.ensures.room [
      | inl fits ↦ absurd (omega (arith, fits, c.if-text-gt-ROOM.true))
      | inr large ↦ large.0
    ] in
    kept_past _ _ _ _ _ _ c.in_ok-make_room.ensures.kept none c.in_ok-write_whole.ensures.all

pub returns-in_err-write_whole-clause-prefix : goal.returns-in_err-write_whole-clause-prefix
returns-in_err-write_whole-clause-prefix g c =
    let none : c.make_room.new.self ≡ [] = elim c.in_ok-make_room.ensures.room [
      | inl fits ↦ absurd (omega (arith, fits, c.if-text-gt-ROOM.true))
      | inr large ↦ large.0
    ] in
    let front : AppendsPrefix (g.W.Write.contents c.make_room.new.writer) (g.W.Write.contents c.write_whole.new.writer) (c.make_room.new.self ++ c.args.text.now) =
    subst (λ xs. AppendsPrefix (g.W.Write.contents c.make_room.new.writer) (g.W.Write.contents c.write_whole.new.writer) (xs ++ c.args.text.now)) (sym none) c.in_err-write_whole.ensures.prefix in
    let stops = kept_stops _ _ _ _ _ _ c.in_ok-make_room.ensures.kept front in
    search rules
