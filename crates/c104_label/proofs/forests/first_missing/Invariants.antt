use Rattle.{c104_label.specs.Forests.is_met, std.proofs.Common.{true, ℕ, ◌<◌, ◌≡◌}}

-- those so far were visited
abbrev pub invariant-loop-switch : Rattle.c104_label.proofs.forests.first_missing.Given.invariant-loop-switch
invariant-loop-switch l = (s : ℕ) → s < l.switch → is_met l.seen.items s ≡ true
