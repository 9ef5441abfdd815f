use Rattle.{c104_event.specs.declared.events.Event.Event, c104_node.specs.Nodes.node_claim, c104_run.specs.Rounds.link_numbers}
use Rattle.c104_turns.proofs.PartNumbers.{all_left, joined_end, joined_next, last_passed, left_links, next_high, next_is, next_low}
use Rattle.c104_turns.{proofs.PartNumbers.{next_number, next_passed, no_number, numbers_map}, specs.Parts.{may_begin, numbers_in}}
use Rattle.std.proofs.Common.{Bool, List, [], ap, arith, is_some, sym, ℕ, ◌++◌, ◌+◌, ◌<◌, ◌∙◌, ◌∷◌, ◌≡◌}
use Rattle.c104_turns.proofs.parts.add_claims_of.Goals as goal

pub loop-output-init : goal.loop-output-init
loop-output-init g c = let same : c.args.first + 0 ≡ c.args.first = omega arith in
    (omega arith, ap (λ (k : ℕ). c.args.ready.now.items ++ numbers_in (λ (o : ℕ). is_some (node_claim c.args.input o c.args.node.now)) k (left_links 0)) same)

pub loop-output-preserved : goal.loop-output-preserved
loop-output-preserved g c =
    let q : ℕ → Bool = λ (o : ℕ). is_some (node_claim c.args.input o c.args.node.now) in
    let from = c.loop-output.from in
    let output = c.in-Some.output in
    let high : output < 32 = next_high q from output c.in-Some.ensures in (
      omega (arith, high),
      joined_next c.loop-output.ready.items ((c.args.first + output) ∷ []) _ _ _ _ c.loop-output.invariant.1
          (next_number q c.args.first from output (next_low q from output c.in-Some.ensures) high (next_passed q from output c.in-Some.ensures) (next_is q from output c.in-Some.ensures))
          c.in_ok-push.ensures.items,
    )

pub returns : goal.returns
returns g c s =
    let q : ℕ → Bool = λ (o : ℕ). is_some (node_claim c.args.input o c.args.node.now) in
    joined_end c.loop-output.ready.items _ _ c.loop-output.invariant.1 (no_number q (c.args.first + c.loop-output.from) c.loop-output.from c.loop-output.invariant.0 (last_passed q c.loop-output.from c.in_default.ensures))
    ∙ ap (λ (ns : List ℕ). c.args.ready.now.items ++ ns)
    (ap (numbers_in q c.args.first) all_left ∙ sym (numbers_map (may_begin g.T.TokenKind.kind c.args.node.now) (Event.Claim s c.args.input) c.args.first link_numbers))
