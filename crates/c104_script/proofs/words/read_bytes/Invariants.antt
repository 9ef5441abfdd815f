use Rattle.{arrayvec.specs.ArrayVec.array_vec_len, c104_script.specs.Script.bytes_after, std.proofs.Common.{[], drop, map, ◌≡◌}}

-- a byte for each word so far; and what the rest spell after these is what all words spell
abbrev pub invariant-loop-word : Rattle.c104_script.proofs.words.read_bytes.Given.invariant-loop-word
invariant-loop-word l = record {
  count : array_vec_len l.bytes ≡ l.word-index;
  spelled : bytes_after l.bytes.items (drop l.word-index (map (λ word. word.now) l.words)) ≡ bytes_after [] (map (λ word. word.now) l.words);
}
