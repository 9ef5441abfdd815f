use Rattle.{c104_commands.{proofs.ImageLines.lines_next, specs.ImageTexts.range_line}, std.proofs.Common.{ap, slice_get, ◌++◌, ◌∙◌}}
use Rattle.std.specs.String.{string_bytes}

pub loop-terminal-preserved : Rattle.c104_commands.proofs.images.add_ranges.Goals.loop-terminal-preserved
loop-terminal-preserved c =
    lines_next (λ t. range_line c.args.plan.now t (slice_get c.args.image.now.ranges t)) c.loop-terminal.terminal _ _ _ c.loop-terminal.invariant
    (c.in_ok-push_str.ensures.bytes ∙ ap (λ xs. string_bytes c.loop-terminal.text ++ xs) (c.as_str.ensures.value ∙ c.in_ok-line.ensures ∙ ap (range_line c.args.plan.now c.loop-terminal.terminal) c.range.ensures.range))
