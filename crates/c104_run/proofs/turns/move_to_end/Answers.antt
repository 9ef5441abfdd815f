use Rattle.std.proofs.{Common.arith, lemmas.Slice.put_mid-rotated}

pub returns : Rattle.c104_run.proofs.turns.move_to_end.Goals.returns
returns c = put_mid-rotated c.args.position _ c.args.links.now c.rotate_left.new.self 0 c.requires (omega arith) c.rotate_left.ensures.after
