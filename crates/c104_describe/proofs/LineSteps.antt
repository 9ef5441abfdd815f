-- What a line is told that says again what may be said once, or joins a switch to itself, by what was read of it.
use Rattle.c104_describe.{proofs.PlanLinesKept.same_switch, specs.{LineFaults.{keyword_line, read_parts}, PlanLines.{Draft, is_bad_number}}}
use Rattle.c104_describe.specs.PlanLines.{is_from_to, is_one_dot, own_base_parts, port_link, port_name, value_said}
use Rattle.c104_describe.specs.declared.{faults.PlanFaultKind.TheVariants.{SelfWire, Twice}, words.Keyword.Keyword}
use Rattle.c104_plan.specs.{Plans.{label_count, last_link, switch_number}, Ports.is_any_at, TextWords.{dots, is_name}}
use Rattle.{c104_plan.specs.declared.{plans.{PlanBase.PlanBase, PlanRandom.PlanRandom}, ports.Port.Port}, std.proofs.Common.{Err, List}}
use Rattle.std.proofs.Common.{Some, [], arith, bytes_eq, false, refl, true, ℕ, ◌==◌, ◌∷◌, ◌≡◌}

-- a port of which all was read
module _ (draft : Draft) (at : List ℕ) (s l : ℕ) (dot : is_one_dot (dots at) ≡ true) (good : is_bad_number (Some (port_link at)) (is_from_to 0 last_link) ≡ false) (is : value_said (port_link at) ≡ l) (named : is_name (port_name at) ≡ true) (known : switch_number draft.plan (port_name at) ≡ Some s) where
  pub base_twice : (base : List ℕ) → is_bad_number (Some base) (is_from_to 0 0xffff) ≡ false → is_any_at (λ (b : PlanBase). b.port) draft.plan.bases (Port.Switch s l) ≡ true → read_parts draft.plan (own_base_parts draft at base) ≡ Err Twice
  base_twice base base_good said = rw (dot, good, base_good, named, known, is, said) refl

  pub random_twice : (base range : List ℕ) → is_bad_number (Some base) (is_from_to 0 0xffff) ≡ false → is_bad_number (Some range) (is_from_to 0 label_count) ≡ false
      → is_any_at (λ (r : PlanRandom). r.port) draft.plan.randoms (Port.Switch s l) ≡ true → keyword_line draft Keyword.Random (at ∷ base ∷ range ∷ []) ≡ Err Twice
  random_twice base range base_good range_good said = rw (dot, good, base_good, range_good, named, known, is, said) refl

-- two ports of one switch
pub wire_self : (draft : Draft) (here there : List ℕ) (s t : ℕ) → is_one_dot (dots here) ≡ true → is_one_dot (dots there) ≡ true
    → is_bad_number (Some (port_link here)) (is_from_to 0 last_link) ≡ false → is_bad_number (Some (port_link there)) (is_from_to 0 last_link) ≡ false → is_name (port_name here) ≡ true → is_name (port_name there) ≡ true
    → switch_number draft.plan (port_name here) ≡ Some s → switch_number draft.plan (port_name there) ≡ Some t → (s == t) ≡ true → keyword_line draft Keyword.Wire (here ∷ there ∷ []) ≡ Err SelfWire
wire_self draft here there s t dot far_dot good far_good named far_named known far_known equal = search (arith, bytes_eq, same_switch)
