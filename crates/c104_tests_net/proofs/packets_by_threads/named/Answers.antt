use Rattle.std.proofs.Common.{ap, slice_get, sym, ◌∙◌}

pub returns : Rattle.c104_tests_net.proofs.packets_by_threads.named.Goals.returns
returns c =
    let listed = c.in_ok-origin.ensures in
    c.in_ok-lists.ensures.named c.args.terminal c.args.number c.in_ok-origin.origin
    (listed.0, ap (λ xs. slice_get xs c.args.terminal) (sym c.as_slice.ensures.value) ∙ listed.1, listed.2)
