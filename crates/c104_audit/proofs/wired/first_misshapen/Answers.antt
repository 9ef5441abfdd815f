use Rattle.c104_audit.{proofs.FirstFailures.{below_all, below_next, fails_by, none_there, only_there}, specs.Audits.{HasShape, IsShaped}}
use Rattle.{c104_run.proofs.KeptElements.got, std.proofs.Common.{arith, get_or, length, subst, ◌<◌, ◌≡◌, ◌≤◌}}
use Rattle.c104_audit.proofs.wired.first_misshapen.Goals as goal

pub returns-then-not-is_shaped : goal.returns-then-not-is_shaped
returns-then-not-is_shaped c =
    let nodes = c.args.lists.now.nodes in
    let node = c.index-nodes-node.result in
    record {
      lower = c.loop-node.invariant;
      fails = λ so. fails_by (HasShape c.args.lists.now c.loop-node.node node) c.is_shaped.result c.is_shaped.ensures.1 c.if-not-is_shaped.true
          (so node (got nodes c.loop-node.node node node (subst (λ xs. node ≡ get_or xs c.loop-node.node node) c.as_slice-nodes.ensures c.index-nodes-node.is) (subst (λ xs. c.loop-node.node < length xs) c.as_slice-nodes.ensures c.loop-node-test.true)));
    }

pub loop-node-preserved : goal.loop-node-preserved
loop-node-preserved c =
    let nodes = c.args.lists.now.nodes in
    let node = c.index-nodes-node.result in
    below_next (IsShaped c.args.lists.now) c.loop-node.node c.loop-node.invariant
    (only_there (HasShape c.args.lists.now c.loop-node.node) nodes c.loop-node.node node
    (got nodes c.loop-node.node node node (subst (λ xs. node ≡ get_or xs c.loop-node.node node) c.as_slice-nodes.ensures c.index-nodes-node.is) (subst (λ xs. c.loop-node.node < length xs) c.as_slice-nodes.ensures c.loop-node-test.true))
    (c.is_shaped.ensures.0 c.if-not-is_shaped.false))

pub returns : goal.returns
returns c =
    let end : length c.args.lists.now.nodes ≤ c.loop-node.node = subst (λ xs. length xs ≤ c.loop-node.node) c.as_slice-nodes.ensures c.loop-node-test.false in
    below_all (IsShaped c.args.lists.now) c.loop-node.node c.loop-node.invariant (λ k past. none_there (HasShape c.args.lists.now k) c.args.lists.now.nodes k (omega (arith, end, past)))
