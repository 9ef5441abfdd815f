use Rattle.{c104_plan.specs.declared.ports.Port.Port, c104_run.{proofs.RoundLists.{kept_next, links_passed}, specs.Rounds.is_wired}}
use Rattle.std.proofs.Common.{Bool, List, [], ap, arith, filter, map, ℕ, ◌++◌, ◌<◌, ◌∙◌, ◌∷◌, ◌≡◌}
use Rattle.c104_run.proofs.node_parts.add_links.Goals as goal

pub loop-link-preserved : goal.loop-link-preserved
loop-link-preserved c =
    let l : ℕ = c.loop-link.link in
    let inside : l < 32 = omega (arith, c.loop-link-test.true) in
    let same : c.has.result ≡ is_wired c.args.wires.now (Port.Switch c.args.switch l) = c.has.ensures ∙ c.linked-links.ensures.linked l inside in
    kept_next (is_wired c.args.wires.now) (Port.Switch c.args.switch) l c.args.ports.now.items c.loop-link.ports.items _ c.loop-link.invariant
    (c.in_ok-add_if.ensures ∙ ap (λ (b : Bool). c.loop-link.ports.items ++ filter (λ _. b) (Port.Switch c.args.switch l ∷ [])) same)

pub returns : goal.returns
returns c = c.loop-link.invariant ∙ ap (λ (ns : List ℕ). c.args.ports.now.items ++ filter (is_wired c.args.wires.now) (map (Port.Switch c.args.switch) ns)) (links_passed c.loop-link.link (omega arith))
