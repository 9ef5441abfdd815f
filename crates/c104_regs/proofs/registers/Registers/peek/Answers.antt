use Rattle.c104_regs.{proofs.RegisterLemmas.held_at_is_taken, specs.{Addresses.{IsAddress, address_of}, Values.reset_status}}
use Rattle.{c104_regs.specs.declared.addresses.Address.TheVariants.AtLink, std.proofs.Common.{Some, ap, get_or, length, subst, sym, ◌<◌}}
use Rattle.std.proofs.Common.{◌∙◌, ◌≡◌}

pub returns-in-Some-AtLink-clause-in_range : Rattle.c104_regs.proofs.registers.Registers.peek.Goals.returns-in-Some-AtLink-clause-in_range
returns-in-Some-AtLink-clause-in_range c =
    let at : address_of c.args.addr ≡ Some (AtLink c.in-Some-AtLink.link c.in-Some-AtLink.register) = sym c.in-Some-AtLink.ensures.found ∙ ap Some c.in-Some-AtLink.field-0-is in
    let is = subst IsAddress c.in-Some-AtLink.field-0-is c.in-Some-AtLink.ensures.is_address in
    let inside : c.in-Some-AtLink.link < length c.self.inside.settings = rw c.self.invariant.0.links is.0 in
    held_at_is_taken c.self.inside.settings _ (get_or c.self.inside.statuses c.in-Some-AtLink.link reset_status) c.in-Some-AtLink.register c.args.addr c.read.result c.in-Some-AtLink.link c.read.ensures inside (c.self.invariant.0.in_range c.in-Some-AtLink.link) at is.1
