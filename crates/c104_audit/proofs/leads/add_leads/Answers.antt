use Rattle.c104_audit.{proofs.GatheredLeads.{add_on, pass_on}, specs.Audits.is_leading}
use Rattle.{c104_net.specs.declared.leading.Lead.Lead as Leading, c104_run.proofs.KeptElements.got, std.proofs.Common.{Global, Vec, ap}}
use Rattle.std.proofs.Common.{sym, ◌∙◌}
use Rattle.c104_audit.proofs.leads.add_leads.Goals.{else-is_leading, then-is_leading+in_ok-push}

pub loop-at-preserved : Rattle.c104_audit.proofs.leads.add_leads.Goals.loop-at-preserved
loop-at-preserved c = elim c.if-is_leading.branch [
  | then-is_leading+in_ok-push w ↦ add_on (is_leading c.args.lists.now.switches c.args.lists.now.wires) c.args.lists.now.traces c.args.place c.loop-at.at c.args.trace.now c.index-trace-at.result c.loop-at.leads.items c.if-is_leading.leads.items _ c.requires.trace
      (got c.args.trace.now c.loop-at.at c.index-trace-at.result c.index-trace-at.result c.index-trace-at.is c.loop-at-test.true) (sym c.is_leading.ensures ∙ w.if-is_leading.true) (ap (λ (v : Vec Leading Global). v.items) w.leads-is ∙ w.in_ok-push.ensures.items) c.loop-at.invariant
  | else-is_leading w ↦ pass_on (is_leading c.args.lists.now.switches c.args.lists.now.wires) c.args.lists.now.traces c.args.place c.loop-at.at c.args.trace.now c.index-trace-at.result c.loop-at.leads.items c.if-is_leading.leads.items _
      (got c.args.trace.now c.loop-at.at c.index-trace-at.result c.index-trace-at.result c.index-trace-at.is c.loop-at-test.true) (sym c.is_leading.ensures ∙ w.if-is_leading.false) (ap (λ (v : Vec Leading Global). v.items) w.leads-is) c.loop-at.invariant
]
