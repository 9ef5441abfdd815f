use Rattle.{c104_plan.proofs.PlanSettings.settings_at, std.{proofs.Common.{map, ◌≡◌}, specs.List.range_with_len}}

-- the settings of the links so far are made
abbrev pub invariant-loop-link : Rattle.c104_plan.proofs.hand.switch_settings.Given.invariant-loop-link
invariant-loop-link l = l.settings.items ≡ map (settings_at l.plan l.switch) (range_with_len 0 l.link)
