use Rattle.{c104_regs.{proofs.PackedPokes.{select_first, select_later}, specs.Packed.row_of_word}, std.proofs.Common.{arith, map, sym, ◌%◌}}
use Rattle.std.proofs.Common.{◌∙◌}
use Rattle.c104_regs.proofs.packed.PackedSettings.code.Goals as goal

pub returns-then-self-header : goal.returns-then-self-header
returns-then-self-header c =
    rw (← c.self.view_is) (c.code_above.ensures ∙ sym (select_first (c.self.inside.bases % 65536) (map row_of_word c.self.inside.rows) c.args.header c.if-self-header.true))

pub loop-row-init : goal.loop-row-init
loop-row-init c =
    rw (← c.self.view_is) (sym (select_later (c.self.inside.bases % 65536) (map row_of_word c.self.inside.rows) c.args.header (omega (arith, c.if-self-header.false))))
