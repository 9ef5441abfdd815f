use Rattle.{c104_token.specs.Text.hex_digit, std.{proofs.Common.{[], flat_map, take, ◌%◌, ◌/◌, ◌∷◌, ◌≡◌}, specs.String.string_bytes}}

-- the bytes so far are written
abbrev pub invariant-loop-byte : Rattle.c104_token.proofs.text.print_packet.Given.invariant-loop-byte
invariant-loop-byte l = string_bytes l.text ≡ flat_map (λ b. hex_digit (b / 16) ∷ hex_digit (b % 16) ∷ 32 ∷ []) (take l.byte-index l.byte-items)
