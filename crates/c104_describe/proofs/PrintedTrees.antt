-- What is printed of a network for which labels are asked, as a tree or up and down, is read back.
use Rattle.c104_describe.proofs.CountedPlans.{begins_there, counted, counted_kept, counts_again, same_continues, same_deletes}
use Rattle.c104_describe.proofs.{CountedPlans.{same_terminals, same_wires}, DistinctPlaces.{All-here, position_at}}
use Rattle.c104_describe.proofs.{PrintedDeletes.{deletes_behind, deletes_read, groups_alone}, PrintedNumbers.number-decimal}
use Rattle.c104_describe.proofs.{PrintedNumbers.value-decimal, PrintedParts.lines_after_network, PrintedSteps.bytes_eq-refl}
use Rattle.c104_describe.proofs.PrintedSteps.{continue_step, draft_with, host_free, link_good, link_is, name_free, name_of, port_cut}
use Rattle.c104_describe.proofs.PrintedSteps.{port_link-is, port_name-is, port_named, port_number, switch_named, switch_step}
use Rattle.c104_describe.proofs.PrintedSteps.{switches_differ, terminal_named, wire_step, with_continues, with_switches, with_terminals}
use Rattle.c104_describe.proofs.{PrintedSteps.with_wires, PrintedText.{read_kind, read_lines_of_words}, PrintedWords.root_printed}
use Rattle.c104_describe.specs.{LineFaults.read_plan_words, PlanDrafts.{excludes_groups, is_by_hand, rooted}, PlanLines.is_labeller}
use Rattle.c104_describe.specs.{PlanLines.labelled_shape, PlanPrint.{continue_words, counted_words, delete_words, label_words}}
use Rattle.c104_describe.specs.{PlanPrint.{labelled_lines, switch_words, wire_words}, PlanText.{draft_after_line, plan_of_draft}}
use Rattle.c104_plan.specs.{PlanParts.empty_plan, Plans.{HasGroupsAlone, IsPlan, IsRange, IsTreePlan, IsUpDownPlan, Plan, host_port}}
use Rattle.c104_plan.specs.{Plans.{is_linked, is_taken, label_count, next_first, switch_number, total_count}, Ports.IsSwitchPort}
use Rattle.c104_plan.specs.{TextWords.is_name, declared.plans.{Shape.{Shape, TheVariants.{Tree, UpDown}}, Terminal.Terminal}}
use Rattle.{c104_plan.specs.declared.ports.Port.Port, std.proofs.Common.{All, Bool, List, None, Ok, Option, Some, [], ap, append_assoc}}
use Rattle.std.proofs.Common.{arith, bytes_eq, codes, false, length, length-append, map, nat_lt, position, refl, sym, true, ℕ, ◌++◌, ◌+◌}
use Rattle.std.proofs.{Common.{◌<◌, ◌∙◌, ◌∷◌, ◌≡◌, ◌≤◌}, lemmas.Bool.Decides.nat_tests}

-- a terminal's line without `from`, after those before it, where its range begins there
module _ (plan : Plan) (kept : IsPlan plan) (done : List Terminal) (t : Terminal) (more : List Terminal) (is : done ++ t ∷ more ≡ plan.terminals) where
  pub counted_step : is_by_hand plan.shape ≡ true → next_first done ≡ t.first → read_plan_words (draft_with false None (with_terminals plan kept done)) true (counted_words plan t) ≡ Ok (draft_with false None (with_terminals plan kept (done ++ t ∷ [])))
  unfolding is_taken is_linked switch_number
  counted_step hand begins =
      let on_switch : IsSwitchPort (length plan.switches) (host_port t) = All-here (λ (u : Terminal). IsSwitchPort (length plan.switches) (host_port u)) plan.terminals done t more is kept.terminals.on_switches in
      let range : IsRange t.first t.count = All-here (λ (u : Terminal). IsRange u.first u.count) plan.terminals done t more is kept.terminals.ranges in
      let named : is_name t.name ≡ true = All-here (λ (u : Terminal). is_name u.name ≡ true) plan.terminals done t more is (terminal_named plan kept) in
      let count_good = number-decimal 1 label_count t.count (omega (arith, range.0)) (omega (arith, range.1)) (omega (arith, range.1)) in
      let long = length-append done (t ∷ more) in
      let whole : length (done ++ t ∷ more) ≡ length plan.terminals = ap length is in
      let room : nat_lt 256 (length done + 1) ≡ false = grind (arith, nat_tests, kept.terminals.few) in
      let ends : nat_lt label_count (t.first + t.count) ≡ false = grind (arith, nat_tests, range.1) in
      rw (port_cut plan kept t.switch t.link on_switch, port_name-is plan kept t.switch t.link on_switch, port_link-is plan kept t.switch t.link on_switch, link_good plan kept t.switch t.link on_switch, link_is plan kept t.switch t.link on_switch, count_good, value-decimal t.count (omega (arith, range.1)), begins, named, port_named plan kept t.switch t.link on_switch, name_free plan kept done t more is, port_number plan kept t.switch t.link on_switch, host_free plan kept done t more is, room, ends, hand) refl

-- nothing comes before the end of an empty list
none_there : {X : Type 0} (done : List X) (x : X) (more : List X) → done ++ x ∷ more ≡ [] → ⊥
none_there [] x more is = cc
none_there (d ∷ done) x more is = cc

-- each such word is one by which labels may be asked for from a root
abbrev style_of : Bool → List ℕ
style_of false = codes "tree"
style_of true = codes "up-down"

labels_asked : (up_down : Bool) → is_labeller (style_of up_down) ≡ true
labels_asked up_down = search arith

-- a network for which labels of a shape are asked by a line, with groups where these go with it
module _ (plan : Plan) (kept : IsPlan plan) (form : Shape) (asked : List (List ℕ)) (shape : plan.shape ≡ form) (firsts : All (λ (t : Terminal). t.first ≡ 0) plan.terminals) (counts : total_count plan.terminals ≤ label_count) (alone : HasGroupsAlone plan) where
  abbrev read : Plan
  read = counted plan

  read_kept : IsPlan read
  read_kept = counted_kept plan kept counts

  read_alone : HasGroupsAlone read
  read_alone = record { bases = alone.bases; rows = alone.rows; randoms = alone.randoms }

  -- the line is read
  abbrev IsAsked : Type 0
  IsAsked = read_plan_words (draft_with false None (with_wires read read_kept plan.wires)) true asked ≡ Ok (draft_with false (Some form) (with_wires read read_kept plan.wires))

  -- a line that names a root is
  root_read : (up_down : Bool) (root : ℕ) → root < length plan.switches
      → read_plan_words (draft_with false None (with_wires read read_kept plan.wires)) true (label_words plan (style_of up_down) (Some root)) ≡ Ok (draft_with false (Some (labelled_shape (style_of up_down) root)) (with_wires read read_kept plan.wires))
  unfolding switch_number
  root_read up_down root inside =
      let named : is_name (name_of plan kept root) ≡ true = switch_named plan kept root [] inside in
      let number : position (λ switch. bytes_eq switch (name_of plan kept root)) plan.switches ≡ Some root = position_at bytes_eq bytes_eq-refl plan.switches root [] inside (switches_differ plan kept) in
      rw (labels_asked up_down, root_printed plan kept root inside, named, number) refl

  -- links continue groups behind it, if at all, where these go with the labels
  abbrev AreGrouped : Type 0
  AreGrouped = (done : List Port) (p : Port) (more : List Port) → done ++ p ∷ more ≡ plan.continues → excludes_groups (Some form) ≡ false

  -- the plan of the draft that was read
  ends : rooted (Some form) read ≡ plan
  ends = λ i. record plan { shape = sym shape i; terminals = counts_again 0 plan.terminals firsts i }

  -- the lines behind the network
  abbrev behind : List (List (List ℕ))
  behind = map (continue_words read) plan.continues ++ (map (delete_words read) plan.deletes ++ [])

  -- from the line of number n on
  lists_read : IsAsked → AreGrouped → (n : ℕ) → plan_of_draft (read_lines_of_words n
      (map switch_words read.switches ++ (map (counted_words read) read.terminals ++ (map (wire_words read) read.wires ++ (asked ∷ behind))))
      (draft_with false None (with_switches read read_kept []))) ≡ Ok plan
  lists_read is_asked grouped n =
      let at_terminals : ℕ = length read.switches + n in
      let at_wires : ℕ = length read.terminals + at_terminals in
      let at_label : ℕ = length read.wires + at_wires in
      let at_continues : ℕ = at_label + 1 in
      let at_deletes : ℕ = length read.continues + at_continues in
      let deletes = map (delete_words read) plan.deletes ++ [] in
      ap plan_of_draft (
      read_kind switch_words (λ done. draft_with false None (with_switches read read_kept done)) read.switches (switch_step read read_kept refl) n [] read.switches (map (counted_words read) read.terminals ++ (map (wire_words read) read.wires ++ (asked ∷ behind))) refl
      ∙ read_kind (counted_words read) (λ done. draft_with false None (with_terminals read read_kept done)) read.terminals (λ done t more is. counted_step read read_kept done t more is refl (begins_there plan.terminals done t more is)) at_terminals [] read.terminals (map (wire_words read) read.wires ++ (asked ∷ behind)) refl
      ∙ read_kind (wire_words read) (λ done. draft_with false None (with_wires read read_kept done)) read.wires (wire_step read read_kept false refl) at_wires [] read.wires (asked ∷ behind) refl
      ∙ ap (λ r. draft_after_line at_label r (λ next. read_lines_of_words at_continues behind next)) is_asked
      ∙ read_kind (continue_words read) (λ done. draft_with false (Some form) (with_continues read read_kept done)) read.continues (λ done p more is. continue_step read read_kept false (Some form) (grouped done p more is) refl done p more is) at_continues [] read.continues deletes refl
      ∙ deletes_read read read_kept read_alone at_deletes false (Some form))
      ∙ ap Ok ends

  -- the lines of the plan, in the order in which they are read
  lines_are : labelled_lines plan asked ++ lines_after_network plan ≡ map switch_words read.switches ++ (map (counted_words read) read.terminals ++ (map (wire_words read) read.wires ++ (asked ∷ behind)))
  lines_are = search (arith, append_assoc, same_terminals, same_wires, deletes_behind, same_continues, same_deletes)

  read_labelled : IsAsked → AreGrouped → (n : ℕ) → plan_of_draft (read_lines_of_words n (labelled_lines plan asked ++ lines_after_network plan) (draft_with false None (record empty_plan { header = plan.header; cap = plan.cap }))) ≡ Ok plan
  read_labelled is_asked grouped n = ap (λ lines. plan_of_draft (read_lines_of_words n lines (draft_with false None (with_switches read read_kept [])))) lines_are ∙ lists_read is_asked grouped n

-- a line by which a tree's labels are asked for
pub read_tree : (plan : Plan) (kept : IsPlan plan) (root : ℕ) → plan.shape ≡ Tree root → IsTreePlan root plan → (n : ℕ)
    → plan_of_draft (read_lines_of_words n (labelled_lines plan (label_words plan (codes "tree") (Some root)) ++ lines_after_network plan) (draft_with false None (record empty_plan { header = plan.header; cap = plan.cap }))) ≡ Ok plan
read_tree plan kept root shape is n =
    let asked = label_words plan (codes "tree") (Some root) in
    read_labelled plan kept (Tree root) asked shape is.firsts is.counts (groups_alone plan is.unset)
    (root_read plan kept (Tree root) asked shape is.firsts is.counts (groups_alone plan is.unset) false root is.inside)
    (λ done p more at. absurd (none_there done p more (at ∙ is.unset.continues))) n

-- and one by which those up and down are
up_down_read : (plan : Plan) (kept : IsPlan plan) (root : Option ℕ) (shape : plan.shape ≡ UpDown root) (is : IsUpDownPlan root plan) → IsAsked plan kept (UpDown root) (label_words plan (codes "up-down") root) shape is.firsts is.counts is.unset
up_down_read plan kept None shape is = refl
up_down_read plan kept (Some root) shape is = root_read plan kept (UpDown (Some root)) (label_words plan (codes "up-down") (Some root)) shape is.firsts is.counts is.unset true root is.inside

pub read_up_down : (plan : Plan) (kept : IsPlan plan) (root : Option ℕ) → plan.shape ≡ UpDown root → IsUpDownPlan root plan → (n : ℕ)
    → plan_of_draft (read_lines_of_words n (labelled_lines plan (label_words plan (codes "up-down") root) ++ lines_after_network plan) (draft_with false None (record empty_plan { header = plan.header; cap = plan.cap }))) ≡ Ok plan
read_up_down plan kept root shape is n =
    read_labelled plan kept (UpDown root) (label_words plan (codes "up-down") root) shape is.firsts is.counts is.unset (up_down_read plan kept root shape is) (λ done p more at. refl) n
