use Rattle.c104_audit.proofs.{ApartCalls.list_lent, CalledSeats.none_past, FirstFailures.{below_all, below_next, fails_by}}
use Rattle.{c104_audit.specs.{Audits.IsOrdered, Leads.AreRising}, c104_node.specs.declared.acts.Entry.Entry}
use Rattle.{c104_run.proofs.KeptElements.got, std.proofs.Common.{List, Some, arith, get_or, length, slice_get, subst, sym, ◌<◌, ◌≡◌, ◌≤◌}}
use Rattle.c104_audit.proofs.orders.first_unordered.Goals as goal

abbrev Rises : List Entry → Type 0
Rises es = AreRising (λ (e : Entry). e.ticket) es

pub returns-then-not-is_rising : goal.returns-then-not-is_rising
returns-then-not-is_rising c =
    let traces = c.args.lists.now.traces in
    let there : slice_get traces c.loop-node.node ≡ Some c.index-traces-node.result = got traces c.loop-node.node c.index-traces-node.result c.index-traces-node.result (subst (λ xs. c.index-traces-node.result ≡ get_or xs c.loop-node.node c.index-traces-node.result) c.as_slice-traces.ensures c.index-traces-node.is) (subst (λ xs. c.loop-node.node < length xs) c.as_slice-traces.ensures c.loop-node-test.true) in
    record {
      lower = c.loop-node.invariant;
      fails = λ up. fails_by (Rises c.as_slice.result.now) c.is_rising.result c.is_rising.ensures.1 c.if-not-is_rising.true (subst Rises (list_lent traces c.loop-node.node c.index-traces-node.result c.as_slice.result.now there c.as_slice.ensures) up);
    }

pub loop-node-preserved : goal.loop-node-preserved
loop-node-preserved c =
    let traces = c.args.lists.now.traces in
    let there : slice_get traces c.loop-node.node ≡ Some c.index-traces-node.result = got traces c.loop-node.node c.index-traces-node.result c.index-traces-node.result (subst (λ xs. c.index-traces-node.result ≡ get_or xs c.loop-node.node c.index-traces-node.result) c.as_slice-traces.ensures c.index-traces-node.is) (subst (λ xs. c.loop-node.node < length xs) c.as_slice-traces.ensures c.loop-node-test.true) in
    below_next (IsOrdered c.args.lists.now) c.loop-node.node c.loop-node.invariant (subst Rises (sym (list_lent traces c.loop-node.node c.index-traces-node.result c.as_slice.result.now there c.as_slice.ensures)) (c.is_rising.ensures.0 c.if-not-is_rising.false))

pub returns : goal.returns
returns c =
    let end : length c.args.lists.now.traces ≤ c.loop-node.node = subst (λ xs. length xs ≤ c.loop-node.node) c.as_slice-traces.ensures c.loop-node-test.false in
    below_all (IsOrdered c.args.lists.now) c.loop-node.node c.loop-node.invariant (λ k past. subst Rises (sym (none_past c.args.lists.now.traces k (omega (arith, end, past)))) tt)
