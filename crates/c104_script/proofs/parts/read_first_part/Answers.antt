use Rattle.{c104_script.proofs.FirstPart.{gives_all, gives_last, gives_on, none_read, read_on}, std.proofs.Common.arith}
use Rattle.c104_script.proofs.parts.read_first_part.Goals as goal

pub loop-left-init : goal.loop-left-init
loop-left-init g c = rw (c.new-part.ensures.front, c.new-part.ensures.line) (omega arith, gives_all _, none_read _)

pub loop-left-preserved : goal.loop-left-preserved
loop-left-preserved g c =
    let old = c.loop-left.part in
    let new = c.take_byte.new.self in
    let is_on = c.if-branch.false in
    let took = rw c.in-Some.is at c.in_ok-byte.ensures in (
      omega (arith, c.loop-left.invariant.0, c.in_ok-take_byte.ensures.grows is_on),
      gives_on c.loop-left.left _ _ _ _ _ old.front.items old.line.items new.front.items new.line.items _ is_on (omega arith) c.loop-left.invariant.1 took c.in_ok-take_byte.ensures.steps,
      read_on _ _ _ _ old.front.items old.line.items new.front.items new.line.items c.loop-left.invariant.2 took (c.in_ok-take_byte.ensures.reads is_on),
    )

pub returns-in_default-clause-taken : goal.returns-in_default-clause-taken
returns-in_default-clause-taken g c =
    let part = c.loop-left.part in
    let ended = rw c.in_default.is at c.in_ok-byte.ensures in
    gives_last c.loop-left.left _ _ _ part.front.items part.line.items _ c.loop-left.invariant.1 ended.0 ended.1 c.in_ok-into_front.ensures

pub returns-in_ok-into_front-in-None-clause-taken : goal.returns-in_ok-into_front-in-None-clause-taken
returns-in_ok-into_front-in-None-clause-taken g c =
    let part = c.loop-left.part in
    let ended = rw c.in-None.is at c.in_ok-next_byte.ensures in
    gives_last c.loop-left.left _ _ _ part.front.items part.line.items _ c.loop-left.invariant.1 ended.0 ended.1 c.in_ok-into_front-in-None.ensures
