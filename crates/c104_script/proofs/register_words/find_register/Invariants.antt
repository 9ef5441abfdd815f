use Rattle.{c104_script.specs.RegisterWords.{link_register_name, named_register}, std.proofs.Common.{bytes_eq, drop, find, ◌≡◌}}

-- none of the names so far is the word
abbrev pub invariant-loop-register : Rattle.c104_script.proofs.register_words.find_register.Given.invariant-loop-register
invariant-loop-register l = find (λ r. bytes_eq (link_register_name r) l.word) (drop l.register-index l.registers) ≡ named_register l.registers l.word
