use Rattle.{c104_token.specs.Text.{packet_from_words, parse_words, word_of}, std.proofs.Common.{drop, map, ◌≡◌}}

-- what the rest says after the bytes read is what all words say
abbrev pub invariant-loop-place : Rattle.c104_token.proofs.text.parse_words.Given.invariant-loop-place
invariant-loop-place l = packet_from_words (map word_of (drop l.place (map (λ word. word.now) l.words))) l.bytes.items ≡ parse_words (map (λ word. word.now) l.words)
