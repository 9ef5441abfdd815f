use Rattle.c104_script.specs.{RegisterWords.{address_name, named_address}, declared.register_words.TheConstants.SWITCH_REGISTERS}
use Rattle.std.proofs.Common.{bytes_eq, drop, find, ◌≡◌}

-- none of the names so far is the word
abbrev pub invariant-loop-address : Rattle.c104_script.proofs.register_words.find_address.Given.invariant-loop-address
invariant-loop-address l = find (λ x. bytes_eq (address_name x) l.word) (drop l.address-index SWITCH_REGISTERS) ≡ named_address l.word
