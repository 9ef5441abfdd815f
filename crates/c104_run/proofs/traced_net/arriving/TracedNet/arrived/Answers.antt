use Rattle.c104_run.{proofs.{Finishing.arrived_same, TracedArrivals.arrived_there}, specs.Finished.run_arrived}
use Rattle.c104_run.specs.{FinishedRecords.record_finish, NetRecords.{IsNetRecord, NetRecord}, Network.network_arrived}
use Rattle.std.proofs.Common.{None, Some, ap, subst, sym, ℕ, ◌∙◌, ◌≡◌}
use Rattle.c104_run.proofs.traced_net.arriving.TracedNet.arrived.Goals as goal

finished : (r : NetRecord) → IsNetRecord r → (t : ℕ) → network_arrived r.network t ≡ run_arrived (record_finish r).finished t
finished r kept t = sym (arrived_same r.network kept.steady.in_place t)

pub returns-in-None-clause-arrived : goal.returns-in-None-clause-arrived
returns-in-None-clause-arrived c = arrived_there c.self.inside.engine c.args.terminal c.args.self.now None c.self.view_is c.in-None.ensures

pub returns-in-None-clause-finished : goal.returns-in-None-clause-finished
returns-in-None-clause-finished c =
    arrived_there c.self.inside.engine c.args.terminal c.args.self.now None c.self.view_is c.in-None.ensures
    ∙ finished c.args.self.now (subst IsNetRecord c.self.view_is c.self.invariant.0.kept) c.args.terminal

pub returns-in_ok-list-in-Some-clause-arrived : goal.returns-in_ok-list-in-Some-clause-arrived
returns-in_ok-list-in-Some-clause-arrived c =
    ap Some c.in_ok-list-in-Some.ensures
    ∙ arrived_there c.self.inside.engine c.args.terminal c.args.self.now (Some c.in-Some.tokens.now) c.self.view_is c.in-Some.ensures

pub returns-in_ok-list-in-Some-clause-finished : goal.returns-in_ok-list-in-Some-clause-finished
returns-in_ok-list-in-Some-clause-finished c =
    ap Some c.in_ok-list-in-Some.ensures
    ∙ arrived_there c.self.inside.engine c.args.terminal c.args.self.now (Some c.in-Some.tokens.now) c.self.view_is c.in-Some.ensures
    ∙ finished c.args.self.now (subst IsNetRecord c.self.view_is c.self.invariant.0.kept) c.args.terminal
