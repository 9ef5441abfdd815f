use Rattle.{c104_node.specs.{Tagged.TaggedToken, declared.origins.Origin.Origin}, c104_rows.proofs.Searches.{end_end, end_step}}
use Rattle.c104_rows.specs.{Holders.{end_or, first_end, output_tokens}, declared.holders.TheConstants.BUFFER_LIMIT}
use Rattle.std.{proofs.Common.{Option, ap, arith, sym, ◌+◌, ◌-◌, ◌∙◌}, specs.Option.option_or}
use Rattle.c104_rows.proofs.holders.output_end.Goals as goal

pub loop-index-preserved : goal.loop-index-preserved
loop-index-preserved c =
    let tokens = output_tokens c.args.net.now c.args.switch c.args.link in
    let k = c.loop-index.index in
    let rest = first_end tokens (BUFFER_LIMIT - (k + 1)) (k + 1) in
    ap (λ (o : Option Origin). option_or o rest) c.in_default-ended_by.ensures ∙ ap (λ (x : Option TaggedToken). end_or x rest) c.in-Some.ensures
    ∙ sym (end_step tokens BUFFER_LIMIT k c.loop-index-test.true) ∙ c.loop-index.invariant

pub returns-in-Some-ended_by : goal.returns-in-Some-ended_by
returns-in-Some-ended_by c =
    let tokens = output_tokens c.args.net.now c.args.switch c.args.link in
    let k = c.loop-index.index in
    let rest = first_end tokens (BUFFER_LIMIT - (k + 1)) (k + 1) in
    ap (λ (o : Option Origin). option_or o rest) c.in-Some-ended_by.ensures ∙ ap (λ (x : Option TaggedToken). end_or x rest) c.in-Some.ensures
    ∙ sym (end_step tokens BUFFER_LIMIT k c.loop-index-test.true) ∙ c.loop-index.invariant

pub returns-in_default : goal.returns-in_default
returns-in_default c =
    let tokens = output_tokens c.args.net.now c.args.switch c.args.link in
    let k = c.loop-index.index in
    let rest = first_end tokens (BUFFER_LIMIT - (k + 1)) (k + 1) in
    ap (λ (x : Option TaggedToken). end_or x rest) c.in_default.ensures
    ∙ sym (end_step tokens BUFFER_LIMIT k c.loop-index-test.true) ∙ c.loop-index.invariant

pub returns : goal.returns
returns c =
    sym (end_end (output_tokens c.args.net.now c.args.switch c.args.link) BUFFER_LIMIT c.loop-index.index (omega arith)) ∙ c.loop-index.invariant
