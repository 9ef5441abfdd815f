use Rattle.c104_script.{proofs.TypedWords.said, specs.{Addressed.{Reading, header_words, typed_words}, Script.packet_of}}
use Rattle.{c104_token.specs.Text.parse_words, std.proofs.Common.{drop, length, map, ◌++◌, ◌≡◌, ◌≤◌}}

-- what the others say behind the bytes so far is what all say behind the header
abbrev pub invariant-loop-place : Rattle.c104_script.proofs.addressed.read_typed.Given.invariant-loop-place
invariant-loop-place l = record {
  due : said l.reading (drop l.place (map (λ word. word.now) l.words)) l.bytes.items ≡ packet_of (parse_words (header_words l.header l.label ++ typed_words Reading.Word (map (λ word. word.now) l.words)));
  few : length l.bytes.items ≤ 4096;
}
