use Rattle.{c104_session.{proofs.KeptTexts.Reached, specs.Shown.byte_word}, std.proofs.Common.{flat_map, ◌++◌}}

-- the words of the bytes before this one have joined what is kept
abbrev pub invariant-loop-byte : Rattle.c104_session.proofs.summary_text.add_bytes.Given.invariant-loop-byte
invariant-loop-byte g l = Reached byte_word l.bytes (g.W.Write.contents l.initial.writer) (g.W.Write.contents l.writer) l.kept (l.initial.kept ++ flat_map byte_word l.bytes) l.byte-index
