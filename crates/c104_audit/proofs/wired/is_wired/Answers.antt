use Rattle.{c104_audit.{proofs.WiredLinks.kept_wired, specs.declared.lists.NodeShape.NodeShape}, c104_run.proofs.KeptElements.got}
use Rattle.std.proofs.Common.{ap, get_or, subst, sym, ◌∙◌, ◌≡◌}

pub returns : Rattle.c104_audit.proofs.wired.is_wired.Goals.returns
returns c =
    let node = c.index-nodes-node.result in
    c.is_set.ensures
    ∙ kept_wired c.args.lists.now c.requires.lists c.args.node node c.as_slice-wired.result.now c.args.link c.requires.shaped
    (got c.args.lists.now.nodes c.args.node node node (subst (λ xs. node ≡ get_or xs c.args.node node) c.as_slice-nodes.ensures c.index-nodes-node.is) c.requires.node) (c.as_slice-wired.ensures ∙ ap (λ (n : NodeShape). n.wired) (sym c.index-nodes-node.is))
