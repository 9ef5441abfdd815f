-- No link of a network whose links have tables of their own puts random headers before packets where no line of the plan
-- says so.
use Rattle.c104_check.specs.Routes.{IsRandomized, Routes, link_settings, or_no_settings, routes_of, settings_at}
use Rattle.{c104_check.specs.declared.ports.SwitchPort.SwitchPort, c104_interval.specs.declared.intervals.Table.Table}
use Rattle.c104_label.proofs.{LabelledRoutes.plain_own, MappedRanges.{map_at, map_was}}
use Rattle.c104_plan.{proofs.LabelledSettings.port_labelled_at, specs.LabelledImages.{port_labelled_image, port_labelled_switch}}
use Rattle.{c104_plan.specs.Plans.Plan, c104_regs.specs.declared.settings.Settings.Settings, std.proofs.Common.{Bool, List, Some, [], ap}}
use Rattle.std.proofs.{Common.{arith, inl, inr, length, slice_get, sym, ℕ, ◌<◌, ◌∙◌, ◌≡◌, ◌≤◌}, lemmas.{Bool.cases_lt, List.FromFn.length-map-range_with_len}}
use Rattle.std.proofs.lemmas.Option.{slice_get_past}

module _ (plan : Plan) (ranges : List (ℕ × ℕ)) (tables : ℕ → ℕ → Table) (groups : ℕ → ℕ → Bool) where
  abbrev routes : Routes
  routes = routes_of plan (port_labelled_image plan ranges tables groups)

  abbrev at : ℕ → ℕ → Settings
  at s l = port_labelled_at plan (tables s) (groups s) s l

  settings_are : (s : ℕ) → s < length plan.switches → settings_at routes s ≡ port_labelled_switch plan (tables s) (groups s) s
  settings_are s lt = ap or_no_settings (map_at (λ switch. port_labelled_switch plan (tables switch) (groups switch) switch) (length plan.switches) s lt)

  none_set : (s : ℕ) → length plan.switches ≤ s → settings_at routes s ≡ []
  none_set s le = search (arith, length-map-range_with_len, slice_get_past)

  -- what is set at a link
  link_was : (q : SwitchPort) (x : Settings) → link_settings routes.settings q ≡ Some x → x ≡ at q.switch q.link
  unfolding port_labelled_switch
  link_was q x is = elim (cases_lt q.switch (length plan.switches)) [
    | inl inside ↦ (map_was (at q.switch) 32 q.link x (sym (ap (λ xs. slice_get xs q.link) (settings_are q.switch inside)) ∙ is)).1
    | inr past ↦ absurd (cc (sym (ap (λ xs. slice_get xs q.link) (none_set q.switch past)) ∙ is))
  ]

  pub port_not_randomized : (q : SwitchPort) → plan.randoms ≡ [] → IsRandomized routes q → ⊥
  port_not_randomized q unset random = search (arith, link_was, plain_own)
