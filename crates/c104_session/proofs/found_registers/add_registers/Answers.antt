use Rattle.{c104_run.specs.Network.network_peek, c104_script.specs.declared.found_registers.FoundRegister.FoundRegister}
use Rattle.{c104_session.{proofs.AddressesLeft.{joined_end, joined_on}, specs.FoundRegisters.told}, std.proofs.Common.{List, ap, arith, ℕ}}
use Rattle.c104_session.proofs.found_registers.add_registers.Goals as goal

pub loop-addr-preserved : goal.loop-addr-preserved
loop-addr-preserved c =
    let a = c.loop-addr.addr in
    let at : ℕ → List FoundRegister = λ b. told c.args.name.now b (network_peek c.args.net.now.network c.args.switch b) in
    joined_on at a _ c.loop-addr.list.items c.add_told.new.list.items (told c.args.name.now a c.peek.result) c.loop-addr-test.true
    (ap (told c.args.name.now a) c.peek.ensures) c.in_ok-add_told.ensures c.loop-addr.invariant

pub returns : goal.returns
returns c =
    let at : ℕ → List FoundRegister = λ b. told c.args.name.now b (network_peek c.args.net.now.network c.args.switch b) in
    joined_end at c.loop-addr.addr _ c.loop-addr.list.items (omega (arith, c.loop-addr-test.false)) c.loop-addr.invariant
