use Rattle.{c104_run.specs.Network.network_peek, c104_script.specs.declared.found_registers.FoundRegister.FoundRegister}
use Rattle.{c104_session.{proofs.AddressesLeft.{joined_end, joined_on}, specs.FoundRegisters.difference}, c104_tools.specs.Loads.due_value}
use Rattle.std.proofs.Common.{List, ap, arith, ℕ, ◌∙◌}
use Rattle.c104_session.proofs.found_registers.add_named.Goals as goal

pub loop-addr-preserved : goal.loop-addr-preserved
loop-addr-preserved c =
    let a = c.loop-addr.addr in
    let name = c.args.name.now in
    let kept = c.args.kept.now in
    let at : ℕ → List FoundRegister = λ b. difference name b (due_value kept b) (network_peek c.args.net.now.network c.args.switch b) in
    joined_on at a _ c.loop-addr.list.items c.add_difference.new.list.items (difference name a c.due_value.result c.peek.result) c.loop-addr-test.true
    (ap (λ d. difference name a d c.peek.result) c.due_value.ensures ∙ ap (difference name a (due_value kept a)) c.peek.ensures)
    c.in_ok-add_difference.ensures c.loop-addr.invariant

pub returns : goal.returns
returns c =
    let at : ℕ → List FoundRegister = λ b. difference c.args.name.now b (due_value c.args.kept.now b) (network_peek c.args.net.now.network c.args.switch b) in
    joined_end at c.loop-addr.addr _ c.loop-addr.list.items (omega (arith, c.loop-addr-test.false)) c.loop-addr.invariant
