use Rattle.{c104_run.specs.Rounds.claims_of, c104_turns.proofs.{PartClaims.{claims_end, claims_on}, PartNumbers.all_left}}
use Rattle.{c104_turns.specs.Parts.{may_begin, numbers_in}, std.{proofs.Common.{List, ap, arith, ℕ, ◌++◌, ◌∙◌}, specs.List.flat_map}}
use Rattle.c104_turns.proofs.parts.add_claims.Goals as goal

pub loop-input-preserved : goal.loop-input-preserved
loop-input-preserved g c = (
  omega (arith, c.in-Some.ensures.found.1),
  λ s. claims_on g.T.TokenKind.kind c.args.node.now s c.args.first c.loop-input.from c.in-Some.input c.loop-input.ready.items _ _ c.in-Some.ensures.found.0 c.in-Some.ensures.found.1
      c.in-Some.ensures.passed (c.loop-input.invariant.1 s) (c.in_ok-add_claims_of.ensures s),
)

pub returns : goal.returns
returns g c s =
    claims_end g.T.TokenKind.kind c.args.node.now s c.args.first c.loop-input.from c.loop-input.ready.items _ c.loop-input.invariant.0 c.in_default.ensures.passed (c.loop-input.invariant.1 s)
    ∙ ap (λ (ns : List ℕ). c.args.ready.now.items ++ numbers_in (may_begin g.T.TokenKind.kind c.args.node.now) c.args.first (flat_map (claims_of s) ns)) all_left
