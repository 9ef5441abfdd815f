use Rattle.{c104_switch.{proofs.ReasonsHold.reason_holds, specs.ReasonMeanings.IsReason}, std.proofs.Common.{IfSome, subst, sym}}

pub returns-clause-holds : Rattle.c104_switch.proofs.switches.SwitchOf.why.Goals.returns-clause-holds
returns-clause-holds g c = subst (λ told. IfSome told (IsReason c.args.self.now c.args.action.now)) (sym c.first_reason.ensures) (reason_holds c.args.self.now c.args.action.now)
