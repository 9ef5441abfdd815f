use Rattle.{c104_plan.specs.TextWords.{is_digit, value_of}, std.{proofs.Common.{take, true, ◌<◌, ◌^◌, ◌≡◌}, specs.List.list_all}}

-- the digits so far are read
abbrev pub invariant-loop-digit : Rattle.c104_script.proofs.seed_words.read_long_number.Given.invariant-loop-digit
invariant-loop-digit l = record {
  value : l.value ≡ value_of (take l.digit-index l.word);
  digits : list_all is_digit (take l.digit-index l.word) ≡ true;
  small : l.value < 10 ^ l.digit-index;
}
