use Rattle.{c104_describe.specs.PlanPrint.{shared_base_words, text_of}, c104_plan.specs.Plans.is_base_of, std.proofs.Common.{drop, filter}}
use Rattle.std.{proofs.Common.{map, ◌++◌, ◌≡◌}, specs.String.string_bytes}

-- the text so far and the lines that are left are what the text becomes
abbrev pub invariant-loop-base : Rattle.c104_describe.proofs.print_tables.add_shared_base.Given.invariant-loop-base
invariant-loop-base l = string_bytes l.text ++ text_of (map (shared_base_words l.plan l.switch) (filter (is_base_of l.port) (drop l.base-index l.base-items))) ≡ string_bytes l.fn.text ++ text_of (map (shared_base_words l.plan l.switch) (filter (is_base_of l.port) l.plan.bases))
