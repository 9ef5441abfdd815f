use Rattle.{c104_node.{proofs.EachSoFar.each_next, specs.{Records.node_start, Starts.IsStartedStart}}, std.proofs.Common.{ap, arith}}
use Rattle.std.proofs.{Common.{get_or, map, refl, subst, sym, ◌∙◌, ◌≡◌}, lemmas.List.{get_or-map, length-map}}
use Rattle.c104_run.proofs.net.beginning.are_started.Goals as goal

-- this node was started too
pub loop-node-preserved : goal.loop-node-preserved
loop-node-preserved c =
    let same = length-map c.args.nodes.now node_start in
    let item : node_start c.node-item.result ≡ get_or (map node_start c.args.nodes.now) c.loop-node.node-index (node_start c.node-item.result) = ap node_start c.node-item.is ∙ sym (get_or-map node_start c.args.nodes.now c.loop-node.node-index c.node-item.result (node_start c.node-item.result) (omega arith)) in
    each_next IsStartedStart (map node_start c.args.nodes.now) c.loop-node.node-index (node_start c.node-item.result) (omega (arith, same)) item (subst IsStartedStart c.start.ensures (c.is_started.ensures.0 c.if-not-is_started.false)) c.loop-node.invariant

pub returns-then-not-is_started : goal.returns-then-not-is_started
returns-then-not-is_started c =
    let same = length-map c.args.nodes.now node_start in
    let item : node_start c.node-item.result ≡ get_or (map node_start c.args.nodes.now) c.loop-node.node-index (node_start c.node-item.result) = ap node_start c.node-item.is ∙ sym (get_or-map node_start c.args.nodes.now c.loop-node.node-index c.node-item.result (node_start c.node-item.result) (omega arith)) in (
      λ yes. absurd (cc yes),
      λ all. sym c.if-not-is_started.true ∙ c.is_started.ensures.1 (subst IsStartedStart (sym c.start.ensures) (subst IsStartedStart (sym item) (all c.loop-node.node-index (node_start c.node-item.result) (omega (arith, same))))),
    )

pub returns : goal.returns
returns c =
    let same = length-map c.args.nodes.now node_start in
    (λ yes k d inside. c.loop-node.invariant k d (omega (arith, same, inside)), λ all. refl)
