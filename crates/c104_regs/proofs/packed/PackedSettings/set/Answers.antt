use Rattle.{c104_regs.proofs.PackedPokes.{code_set, limit_fits, limit_set}, std.proofs.Common.{length, ◌<◌}}
use Rattle.c104_regs.proofs.packed.PackedSettings.set.Goals as goal

pub returns-in-Limit : goal.returns-in-Limit
returns-in-Limit c =
    let inside : c.in-Limit.k < length c.self.inside.rows = rw c.self.told (rw c.in-Limit.is at c.requires.register) in
    rw (← c.self.view_is, c.in-Limit.is) (limit_set c.self.inside c.in-Limit.k c.args.value inside (limit_fits c.args.register c.in-Limit.k c.args.value c.in-Limit.is c.requires.takes))

pub returns-in-Select : goal.returns-in-Select
returns-in-Select c =
    let inside : c.in-Select.k < length c.self.inside.rows = rw c.self.told (rw c.in-Select.is at c.requires.register) in
    rw (← c.self.view_is, c.in-Select.is) (code_set c.self.inside c.in-Select.k c.args.value inside)
