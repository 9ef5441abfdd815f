use Rattle.std.proofs.Common.{ap, slice_get, sym, ◌∙◌}

pub returns : Rattle.c104_tests_net.proofs.named_packets.named.Goals.returns
returns c =
    let listed = c.in_ok-origin.ensures in
    c.in_ok-lists.ensures c.args.terminal c.args.number listed.0 c.in_ok-origin.origin (ap (λ xs. slice_get xs c.args.terminal) (sym c.as_slice.ensures.value) ∙ listed.1) listed.2
