use Rattle.{c104_token.{proofs.Printing.read_back, specs.Text.packet_text}, std.proofs.{Common.{arith, ◌≡◌}, lemmas.Grind.common_steps}}
use Rattle.std.specs.String.{string_bytes}

-- the text that was written is the packet's
pub returns-clause-reads_back : Rattle.c104_token.proofs.text.print_packet.Goals.returns-clause-reads_back
returns-clause-reads_back c =
    let written : string_bytes c.push_str.new.self ≡ packet_text c.args.packet.now = grind (arith, common_steps) in
    λ short. rw written (read_back c.args.packet.now c.as_bytes-byte-items.ensures.range short)
