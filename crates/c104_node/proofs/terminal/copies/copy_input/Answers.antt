use Rattle.{c104_node.proofs.InputCopies.{HasTaken, has_taken, token_next}, std.proofs.Common.{arith, ◌∙◌}}

pub loop-index-preserved : Rattle.c104_node.proofs.terminal.copies.copy_input.Goals.loop-index-preserved
loop-index-preserved g c =
    let taken : HasTaken c.loop-index.copy c.accept.new.self c.in-Some.token = has_taken c.loop-index.copy c.accept.new.self c.in-Some.token c.in-Ok.ensures in
    record {
      cap = taken.cap ∙ c.loop-index.invariant.cap;
      items = token_next c.args.input.now.items c.loop-index.copy.items c.accept.new.self.items c.loop-index.index c.in-Some.token c.in-Some.ensures c.loop-index.invariant.items taken.items;
      granted = omega (arith, taken.granted, c.loop-index.invariant.granted);
    }
