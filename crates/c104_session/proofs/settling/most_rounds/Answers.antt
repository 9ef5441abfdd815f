use Rattle.{c104_script.specs.Script.most_rounds, c104_session.{proofs.SettledRounds.most_told, specs.Settling.largest_count}}
use Rattle.std.proofs.Common.{ap, max, min, ◌∙◌}

-- the most that there may be, as it is computed
pub returns : Rattle.c104_session.proofs.settling.most_rounds.Goals.returns
returns c =
    c.min.ensures ∙ ap (λ n. min c.max-most.result n) c.from-2.ensures ∙ ap (λ n. min n largest_count) c.max-most.ensures
    ∙ ap (λ n. min (max c.saturating_add-enough.result n) largest_count) c.from.ensures
    ∙ most_told c.args.net.now c.work_bound.result c.saturating_add-enough.result c.work_bound.ensures c.saturating_add-enough.ensures
