use Rattle.{c104_control.proofs.ReadCommands.{AreBytes, is_table, is_unknown}, std.proofs.Common.arith}

pub returns : Rattle.c104_control.proofs.commands.read_command.Goals.returns
returns c =
    let are : AreBytes c.args.bytes.now = λ i. let fits = c.type_inv.bytes i in grind arith in
    record {
      read = c.read.ensures;
      table = λ d. rw c.read.ensures (is_table c.args.bytes.now d are);
      unknown = rw c.read.ensures (is_unknown c.args.bytes.now);
    }
