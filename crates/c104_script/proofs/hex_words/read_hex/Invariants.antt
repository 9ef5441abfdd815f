use Rattle.{c104_script.specs.HexWords.{hex_digits_value, is_hex_digit}, std.proofs.Common.{take, true, ◌<◌, ◌^◌, ◌≡◌}}
use Rattle.std.specs.List.{list_all}

-- the digits so far are read
abbrev pub invariant-loop-digit : Rattle.c104_script.proofs.hex_words.read_hex.Given.invariant-loop-digit
invariant-loop-digit l = record {
  value : l.value ≡ hex_digits_value (take l.digit-index l.word);
  digits : list_all is_hex_digit (take l.digit-index l.word) ≡ true;
  small : l.value < 16 ^ l.digit-index;
}
