use Rattle.{c104_control.proofs.{ReadCommands.AreBytes, ReadReplies.is_table}, std.proofs.Common.arith}

pub returns-clause-table : Rattle.c104_control.proofs.replies.read_reply.Goals.returns-clause-table
returns-clause-table c =
    let are : AreBytes c.args.bytes.now = λ i. let fits = c.type_inv.bytes i in grind arith in
    λ a. rw c.read.ensures (is_table c.args.bytes.now a are)
