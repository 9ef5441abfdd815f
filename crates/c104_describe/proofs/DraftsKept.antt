-- What the lines read so far keep, so that they give a plan.
use Rattle.c104_describe.proofs.{FaultOrder.{made, sound}, PlanLinesKept.{IsBeside, IsHosting, IsNext, IsRead, IsSound, base_kept}}
use Rattle.c104_describe.proofs.PlanLinesKept.{buffer_kept, clos_kept, continue_alone, continue_kept, cube_kept, delete_kept, hand_kept}
use Rattle.c104_describe.proofs.PlanLinesKept.{header_kept, mesh_kept, random_kept, row_kept, switch_inside, switch_kept, terminal_kept}
use Rattle.c104_describe.proofs.{PlanLinesKept.{torus_kept, wide_cube_kept, wide_mesh_kept, wire_kept}, PlanRooted.{IsRootIn, IsUnsetFor}}
use Rattle.c104_describe.{proofs.{PlanRooted.{root_in_more, rooted_kept}, SharedKept.joined_kept}, specs.LineFaults.read_plan_line}
use Rattle.c104_describe.specs.PlanDrafts.{Draft, asks_tree, excludes_groups, finished, is_begun, is_by_hand, rooted, says_from}
use Rattle.c104_describe.specs.{PlanFaults.{PlanFault, PlanFaultKind}, PlanLines.{base_parts, first_word_parts, keyword_parts}}
use Rattle.c104_describe.specs.PlanLines.{labelled_shape, line_parts, names_switch, row_parts, switch_said, terminal_parts}
use Rattle.c104_describe.specs.{PlanText.{draft_after_line, empty_draft, read_plan_lines}, PlanWords.{Keyword, keyword_of, range_words}}
use Rattle.{c104_describe.specs.SharedTables.{SharedLines, has_shared, switches_joined}, c104_plan.specs.PlanParts.{has_some, has_tables}}
use Rattle.c104_plan.specs.{Plans.{HasGroupsAlone, IsPlan, Plan, next_first, rows_of, total_count}, TextCut.{is_plain_line, line_words}}
use Rattle.c104_plan.specs.{TextCut.uncommented_line, TextWords.dots, declared.plans.Shape.{Shape, TheVariants.{Hand, Tree, UpDown}}}
use Rattle.std.proofs.Common.{Bool, Bor, Err, List, None, Ok, Option, Result, Some, [], ap, arith, bytes_eq, codes, false, get_or}
use Rattle.std.proofs.Common.{if◌then◌else◌, is_some, length, not, refl, subst, sym, true, ℕ, ◌&&◌, ◌+◌, ◌<◌, ◌||◌, ◌∙◌, ◌∷◌, ◌≡◌}
use Rattle.std.proofs.lemmas.{Bool.{Decides.nat_tests, or_from, or_parts}, List.Elements.All-nil}

-- with labels that are asked for a plan is one that is made line by line, without `from` and without what labellers set
abbrev pub IsRooted : Option Shape → Plan → Bool → Type 0
IsRooted None plan from_said = Unit {0}
IsRooted (Some shape) plan from_said = IsRootIn (length plan.switches) shape × (plan.shape ≡ Hand) × (from_said ≡ false) × IsUnsetFor shape plan

-- a plan beside which there are lines that name a switch alone is made line by line, and no labels are asked for
abbrev pub IsSharing : SharedLines → Plan → Option Shape → Type 0
IsSharing shared plan labels = has_shared shared ≡ true → (plan.shape ≡ Hand) × (labels ≡ None)

-- the lines so far give a plan; and unless they said where a range begins, ranges follow one another
pub record IsDraft (draft : Draft) : Type 0 where
  pub kept : IsPlan draft.plan
  pub counted : draft.from_said ≡ false → draft.plan.shape ≡ Hand → next_first draft.plan.terminals ≡ total_count draft.plan.terminals
  pub rooted : IsRooted draft.labels draft.plan draft.from_said
  pub sharing : IsSharing draft.shared draft.plan draft.labels

-- What lines leave as it was

pub has_none : {X : Type 0} (xs : List X) → has_some xs ≡ false → xs ≡ []
has_none [] is = refl
has_none (x ∷ xs) is = absurd (grind (arith, nat_tests))

no_root : (o : Option Shape) → is_some o ≡ false → o ≡ None
no_root o is = search arith

-- as which shape a plan is labelled that one of these words asks for
root_asked : (style : List ℕ) (root n : ℕ) → root < n → IsRootIn n (labelled_shape style root)
root_asked style root n inside = search (arith, bytes_eq, codes)

not_both : {b : Bool} → b ≡ false → b ≡ true → ⊥
not_both one other = search arith

-- and that such a shape excludes groups where the word asks for a tree's labels
groups_asked : (style : List ℕ) (root : ℕ) (has : Bool) → (has && bytes_eq style (codes "tree")) ≡ false → excludes_groups (Some (labelled_shape style root)) ≡ true → has ≡ false
groups_asked style root has apart is = by_style (bytes_eq style (codes "tree")) has apart is
  where
    by_style : (tree has : Bool) → (has && tree) ≡ false → excludes_groups (Some (if tree then Tree root else UpDown (Some root))) ≡ true → has ≡ false
    by_style true true apart is = apart
    by_style true false apart is = refl
    by_style false has apart is = absurd (not_both refl is)

rooted_beside : (o : Option Shape) (plan next : Plan) (b : Bool) → IsBeside plan next → IsRooted o plan b → IsRooted o next b
rooted_beside None plan next b beside is = tt
rooted_beside (Some shape) plan next b beside is =
    (root_in_more _ _ shape beside.0.more is.0, beside.0.shape ∙ is.1, is.2, (beside.1.alone is.3.0, λ closed. beside.1.ungrouped (is.3.1 closed)))

counted_next : (draft next : Draft) → IsDraft draft → next.from_said ≡ draft.from_said → IsNext draft.plan next.plan
    → next.from_said ≡ false → next.plan.shape ≡ Hand → next_first next.plan.terminals ≡ total_count next.plan.terminals
counted_next draft next all from is none hand = subst (λ terminals. next_first terminals ≡ total_count terminals) (sym is.terminals) (all.counted (sym from ∙ none) (sym is.shape ∙ hand))

sharing_as : (draft next : Draft) → IsDraft draft → next.shared ≡ draft.shared → next.labels ≡ draft.labels → next.plan.shape ≡ draft.plan.shape → IsSharing next.shared next.plan next.labels
sharing_as draft next all shared labels shape some = let was = all.sharing (ap has_shared (sym shared) ∙ some) in (shape ∙ was.0, labels ∙ was.1)

nothing_shared : (shared : SharedLines) (plan : Plan) (labels : Option Shape) → has_shared shared ≡ false → IsSharing shared plan labels
nothing_shared shared plan labels none some = absurd (not_both none some)

-- a line that sets nothing at a link
beside : (draft next : Draft) → IsDraft draft → next.labels ≡ draft.labels → next.from_said ≡ draft.from_said → next.shared ≡ draft.shared → IsBeside draft.plan next.plan → IsDraft next
beside draft next all root from shared is = record {
  kept = is.0.kept;
  counted = counted_next draft next all from is.0;
  rooted = search (arith, rooted_beside);
  sharing = sharing_as draft next all shared root is.0.shape;
}

-- a line by which a link continues a group, where that goes with the labels
rooted_grouped : (o : Option Shape) (plan next : Plan) (b : Bool) → excludes_groups o ≡ false → IsNext plan next → (HasGroupsAlone plan → HasGroupsAlone next) → IsRooted o plan b → IsRooted o next b
rooted_grouped None plan next b allowed is alone rooted = tt
rooted_grouped (Some shape) plan next b allowed is alone rooted =
    (root_in_more _ _ shape is.more rooted.0, is.shape ∙ rooted.1, rooted.2, (alone rooted.3.0, λ closed. absurd (not_both allowed closed)))

grouping : (draft next : Draft) → IsDraft draft → next.labels ≡ draft.labels → next.from_said ≡ draft.from_said → next.shared ≡ draft.shared → excludes_groups draft.labels ≡ false → IsNext draft.plan next.plan → (HasGroupsAlone draft.plan → HasGroupsAlone next.plan) → IsDraft next
grouping draft next all root from shared allowed is alone = record {
  kept = is.kept;
  counted = counted_next draft next all from is;
  rooted = search (arith, rooted_grouped);
  sharing = sharing_as draft next all shared root is.shape;
}

-- a line that sets something else at a link, where no labels are asked for
settings : (draft next : Draft) → IsDraft draft → draft.plan.shape ≡ Hand → next.labels ≡ None → next.from_said ≡ draft.from_said → IsNext draft.plan next.plan → IsDraft next
settings draft next all hand none from is = record {
  kept = is.kept;
  counted = counted_next draft next all from is;
  rooted = subst (λ o. IsRooted o next.plan next.from_said) (sym none) tt;
  sharing = λ some. (is.shape ∙ hand, none);
}

not_said : (from : Option (List ℕ)) → is_some from ≡ false → from ≡ None
not_said from is = search arith

rooted_hosting : (o : Option Shape) (plan next : Plan) (b : Bool) (from : Option (List ℕ)) → (is_some o && is_some from) ≡ false → IsHosting from plan next → IsRooted o plan b → IsRooted o next (b || is_some from)
rooted_hosting None plan next b from apart hosting is = tt
rooted_hosting (Some shape) plan next b from apart hosting is = (
  subst (λ (switches : List (List ℕ)). IsRootIn (length switches) shape) (sym hosting.switches) is.0,
  hosting.shape ∙ is.1,
  or_from b (is_some from) is.2 apart,
  (hosting.unset.alone is.3.0, λ closed. hosting.unset.ungrouped (is.3.1 closed)),
)

hosting : (draft : Draft) (plan : Plan) (from : Option (List ℕ)) → IsDraft draft → (is_some draft.labels && is_some from) ≡ false → IsHosting from draft.plan plan → IsDraft (record draft { plan = plan; from_said = draft.from_said || is_some from })
hosting draft plan from all apart is = record {
  kept = is.kept;
  counted = λ none hand.
      let parts = or_parts draft.from_said (is_some from) none in
      is.counted (not_said from parts.1) (all.counted parts.0 (sym is.shape ∙ hand));
  rooted = rooted_hosting draft.labels draft.plan plan draft.from_said from apart is all.rooted;
  sharing = λ some. let was = all.sharing some in (is.shape ∙ was.0, was.1);
}

rooted_nowhere : (o : Option Shape) (next : Plan) (b : Bool) → is_some o ≡ false → IsRooted o next b
rooted_nowhere None next b none = tt
rooted_nowhere (Some shape) next b none = absurd (not_both none refl)

filled_counted : (draft : Draft) (plan : Plan) → is_by_hand plan.shape ≡ false → draft.from_said ≡ false → plan.shape ≡ Hand → next_first plan.terminals ≡ total_count plan.terminals
filled_counted draft plan is said hand = absurd (not_both is (ap is_by_hand hand))

filled : (draft : Draft) (plan : Plan) → IsDraft draft → (is_some draft.labels || has_shared draft.shared) ≡ false → IsPlan plan × is_by_hand plan.shape ≡ false → IsDraft (record draft { plan = plan })
filled draft plan all none is =
    let parts = or_parts (is_some draft.labels) (has_shared draft.shared) none in
    record {
      kept = is.0;
      counted = filled_counted draft plan is.1;
      rooted = rooted_nowhere draft.labels plan draft.from_said parts.0;
      sharing = nothing_shared draft.shared plan draft.labels parts.1;
    }

-- Lines

module _ (draft : Draft) (is_plain : Bool) (all : IsDraft draft) where
  abbrev Keeps : Keyword → List (List ℕ) → Type 0
  Keeps k words = IsRead draft is_plain all.kept k words → IsDraft (keyword_parts draft k words).next

  -- a line that sets something at a link
  setting : (next : Draft) → (not (is_by_hand draft.plan.shape) || is_some draft.labels) ≡ false → next.labels ≡ draft.labels → next.from_said ≡ draft.from_said → (draft.plan.shape ≡ Hand → IsNext draft.plan next.plan) → IsDraft next
  setting next mixed labels from keeps =
      let parts = or_parts (not (is_by_hand draft.plan.shape)) (is_some draft.labels) mixed in
      let hand = hand_kept draft is_plain all.kept parts.0 in
      settings draft next all hand (labels ∙ no_root draft.labels parts.1) from (keeps hand)

  -- a line that names a switch alone
  same_plan : IsNext draft.plan draft.plan
  same_plan = record { kept = all.kept; shape = refl; more = omega arith; terminals = refl }

  base-kept : (at base : List ℕ) → Keeps Keyword.Base (at ∷ base ∷ [])
  base-kept at base sound = by_word (names_switch (dots at)) sound
    where
      by_word : (is_shared : Bool) → IsSound draft.plan (record (base_parts draft at base is_shared) { is_known = true; is_plain = is_plain; is_mixed = not (is_by_hand draft.plan.shape) || is_some draft.labels }) → IsDraft (base_parts draft at base is_shared).next
      by_word true sound = setting _ (sound PlanFaultKind.MixedStyle) refl refl (λ hand. same_plan)
      by_word false sound = setting _ (sound PlanFaultKind.MixedStyle) refl refl (λ hand. base_kept draft is_plain all.kept at base _ hand sound)

  row-kept : (at limit select : List ℕ) → Keeps Keyword.Row (at ∷ limit ∷ select ∷ [])
  row-kept at limit select sound = by_word (names_switch (dots at)) sound
    where
      by_word : (is_shared : Bool) → IsSound draft.plan (record (row_parts draft at limit select is_shared) { is_known = true; is_plain = is_plain; is_mixed = not (is_by_hand draft.plan.shape) || is_some draft.labels }) → IsDraft (row_parts draft at limit select is_shared).next
      by_word true sound = setting _ (sound PlanFaultKind.MixedStyle) refl refl (λ hand. same_plan)
      by_word false sound = setting _ (sound PlanFaultKind.MixedStyle) refl refl (λ hand. row_kept draft is_plain all.kept at limit select _ hand sound)

  terminal-kept : (name at : List ℕ) (words : List (List ℕ)) → Keeps Keyword.Terminal (name ∷ at ∷ words)
  terminal-kept name at words sound =
      let parts = or_parts (not (is_by_hand draft.plan.shape)) (is_some draft.labels && says_from (name ∷ at ∷ words)) (sound PlanFaultKind.MixedStyle) in
      by_range (range_words words) (hand_kept draft is_plain all.kept parts.0) parts.1 sound
    where
      by_range : (said : Result (Option (List ℕ) × Option (List ℕ)) PlanFaultKind) → draft.plan.shape ≡ Hand → (is_some draft.labels && is_begun said) ≡ false → IsSound draft.plan (record (terminal_parts draft name at said) { is_known = true; is_plain = is_plain; is_mixed = not (is_by_hand draft.plan.shape) || (is_some draft.labels && is_begun said) }) → IsDraft (terminal_parts draft name at said).next
      by_range (Err fault) hand apart sound = all
      by_range (Ok range) hand apart sound = hosting draft _ range.1 all apart (terminal_kept draft is_plain all.kept name at range _ hand sound)

  -- what doesn't go with `label` isn't there
  label_parts : (rest : List (List ℕ)) → (not (is_by_hand draft.plan.shape) || (draft.from_said || (has_tables draft.plan || (has_shared draft.shared || (has_some draft.plan.continues && asks_tree rest))))) ≡ false
      → (draft.plan.shape ≡ Hand) × (draft.from_said ≡ false) × HasGroupsAlone draft.plan × ((has_some draft.plan.continues && asks_tree rest) ≡ false) × (has_shared draft.shared ≡ false)
  label_parts rest mixed =
      let parts = or_parts (not (is_by_hand draft.plan.shape)) (draft.from_said || (has_tables draft.plan || (has_shared draft.shared || (has_some draft.plan.continues && asks_tree rest)))) mixed in
      let said = or_parts draft.from_said (has_tables draft.plan || (has_shared draft.shared || (has_some draft.plan.continues && asks_tree rest))) parts.1 in
      let set = or_parts (has_tables draft.plan) (has_shared draft.shared || (has_some draft.plan.continues && asks_tree rest)) said.1 in
      let others = or_parts (has_shared draft.shared) (has_some draft.plan.continues && asks_tree rest) set.1 in
      let tables = or_parts (has_some draft.plan.bases) (has_some draft.plan.rows || has_some draft.plan.randoms) set.0 in
      let last = or_parts (has_some draft.plan.rows) (has_some draft.plan.randoms) tables.1 in
      let alone : HasGroupsAlone draft.plan = record {
        bases = has_none draft.plan.bases tables.0;
        rows = has_none draft.plan.rows last.0;
        randoms = has_none draft.plan.randoms last.1;
      } in
      (hand_kept draft is_plain all.kept parts.0, said.0, alone, others.1, others.0)

  -- a line by which a link continues a group
  continue-kept : (at : List ℕ) → Keeps Keyword.Continue (at ∷ [])
  continue-kept at sound =
      let parts = or_parts (not (is_by_hand draft.plan.shape)) (excludes_groups draft.labels) (sound PlanFaultKind.MixedStyle) in
      grouping draft _ all refl refl refl parts.1 (continue_kept draft is_plain all.kept at (hand_kept draft is_plain all.kept parts.0) sound) (continue_alone draft is_plain all.kept at)

  label-kept : (style name : List ℕ) → Keeps Keyword.Label (style ∷ name ∷ [])
  label-kept style name sound =
      let parts = label_parts (style ∷ name ∷ []) (sound PlanFaultKind.MixedStyle) in
      let root = switch_said draft.plan name in
      let inside : root < length draft.plan.switches = switch_inside draft.plan name (or_parts _ _ (sound PlanFaultKind.UnknownName)).0 in
      record {
        kept = all.kept;
        counted = all.counted;
        rooted = (root_asked style root (length draft.plan.switches) inside, parts.0, parts.1, (parts.2, λ closed. has_none draft.plan.continues (groups_asked style root (has_some draft.plan.continues) parts.3 closed)));
        sharing = nothing_shared draft.shared draft.plan _ parts.4;
      }

  -- a line that names no root
  ask-kept : (style : List ℕ) → Keeps Keyword.Label (style ∷ [])
  ask-kept style sound =
      let parts = label_parts (style ∷ []) (sound PlanFaultKind.MixedStyle) in
      record {
        kept = all.kept;
        counted = all.counted;
        rooted = (tt, parts.0, parts.1, (parts.2, λ closed. absurd (not_both refl closed)));
        sharing = nothing_shared draft.shared draft.plan _ parts.4;
      }

  keyword_kept : (k : Keyword) (rest : List (List ℕ)) → Keeps k rest
  keyword_kept Keyword.Switch (name ∷ []) sound = beside draft _ all refl refl refl (switch_kept draft is_plain all.kept name sound)
  keyword_kept Keyword.Terminal (name ∷ at ∷ words) sound = terminal-kept name at words sound
  keyword_kept Keyword.Wire (here ∷ there ∷ []) sound = beside draft _ all refl refl refl (wire_kept draft is_plain all.kept here there sound)
  keyword_kept Keyword.Header (bytes ∷ []) sound = beside draft _ all refl refl refl (header_kept draft is_plain all.kept bytes sound)
  keyword_kept Keyword.Buffer (size ∷ []) sound = beside draft _ all refl refl refl (buffer_kept draft is_plain all.kept size sound)
  keyword_kept Keyword.Continue (at ∷ []) sound = continue-kept at sound
  keyword_kept Keyword.Delete (name ∷ []) sound = beside draft _ all refl refl refl (delete_kept draft is_plain all.kept name sound)
  keyword_kept Keyword.Base (at ∷ base ∷ []) sound = base-kept at base sound
  keyword_kept Keyword.Row (at ∷ limit ∷ select ∷ []) sound = row-kept at limit select sound
  keyword_kept Keyword.Random (at ∷ base ∷ range ∷ []) sound = setting _ (sound PlanFaultKind.MixedStyle) refl refl (λ hand. random_kept draft is_plain all.kept at base range hand sound)
  keyword_kept Keyword.Label (style ∷ name ∷ []) sound = label-kept style name sound
  keyword_kept Keyword.Label (style ∷ []) sound = ask-kept style sound
  keyword_kept Keyword.Mesh (width ∷ height ∷ terminals ∷ []) sound =
      let parts = or_parts (has_some draft.plan.switches) (is_some draft.labels || has_shared draft.shared) (sound PlanFaultKind.MixedStyle) in
      filled draft _ all parts.1 (mesh_kept draft is_plain all.kept width height terminals (has_none draft.plan.switches parts.0) sound)
  keyword_kept Keyword.Cube (dimensions ∷ terminals ∷ []) sound =
      let parts = or_parts (has_some draft.plan.switches) (is_some draft.labels || has_shared draft.shared) (sound PlanFaultKind.MixedStyle) in
      filled draft _ all parts.1 (cube_kept draft is_plain all.kept dimensions terminals (has_none draft.plan.switches parts.0) sound)
  keyword_kept Keyword.Mesh (width ∷ height ∷ terminals ∷ wires ∷ []) sound =
      let parts = or_parts (has_some draft.plan.switches) (is_some draft.labels || has_shared draft.shared) (sound PlanFaultKind.MixedStyle) in
      filled draft _ all parts.1 (wide_mesh_kept draft is_plain all.kept width height terminals wires (has_none draft.plan.switches parts.0) sound)
  keyword_kept Keyword.Cube (dimensions ∷ terminals ∷ wires ∷ []) sound =
      let parts = or_parts (has_some draft.plan.switches) (is_some draft.labels || has_shared draft.shared) (sound PlanFaultKind.MixedStyle) in
      filled draft _ all parts.1 (wide_cube_kept draft is_plain all.kept dimensions terminals wires (has_none draft.plan.switches parts.0) sound)
  keyword_kept Keyword.Torus (width ∷ height ∷ terminals ∷ []) sound =
      let parts = or_parts (has_some draft.plan.switches) (is_some draft.labels || has_shared draft.shared) (sound PlanFaultKind.MixedStyle) in
      filled draft _ all parts.1 (torus_kept draft is_plain all.kept width height terminals (codes "1") (has_none draft.plan.switches parts.0) sound)
  keyword_kept Keyword.Torus (width ∷ height ∷ terminals ∷ wires ∷ []) sound =
      let parts = or_parts (has_some draft.plan.switches) (is_some draft.labels || has_shared draft.shared) (sound PlanFaultKind.MixedStyle) in
      filled draft _ all parts.1 (torus_kept draft is_plain all.kept width height terminals wires (has_none draft.plan.switches parts.0) sound)
  keyword_kept Keyword.Clos (leaves ∷ spines ∷ terminals ∷ []) sound =
      let parts = or_parts (has_some draft.plan.switches) (is_some draft.labels || has_shared draft.shared) (sound PlanFaultKind.MixedStyle) in
      filled draft _ all parts.1 (clos_kept draft is_plain all.kept leaves spines terminals (codes "1") (has_none draft.plan.switches parts.0) sound)
  keyword_kept Keyword.Clos (leaves ∷ spines ∷ terminals ∷ wires ∷ []) sound =
      let parts = or_parts (has_some draft.plan.switches) (is_some draft.labels || has_shared draft.shared) (sound PlanFaultKind.MixedStyle) in
      filled draft _ all parts.1 (clos_kept draft is_plain all.kept leaves spines terminals wires (has_none draft.plan.switches parts.0) sound)
  -- too few words or too many: nothing is added
  keyword_kept k rest sound = all

  words_kept : (list : List (List ℕ)) → IsSound draft.plan (line_parts draft is_plain list) → IsDraft (line_parts draft is_plain list).next
  words_kept [] sound = all
  words_kept (first ∷ rest) sound = by_word (keyword_of first) sound
    where
      by_word : (word : Option Keyword) → IsSound draft.plan (record (first_word_parts draft word rest) { is_plain = is_plain }) → IsDraft (first_word_parts draft word rest).next
      by_word None sound = all
      by_word (Some k) sound = keyword_kept k rest sound

-- a line that was read keeps what a draft does
pub read_line-kept : (draft next : Draft) → IsDraft draft → (line : List ℕ) → read_plan_line draft line ≡ Ok next → IsDraft next
read_line-kept draft next all line is =
    let is_plain = is_plain_line (uncommented_line line) in
    let words = line_words (uncommented_line line) in
    let parts = line_parts draft is_plain words in
    subst IsDraft (made _ parts.next next is).1 (words_kept draft is_plain all words (sound draft.plan parts next is))

-- the same of a line at a place
pub line_kept : (list : List (Bor (List ℕ))) (i : ℕ) (d : Bor (List ℕ)) (draft next : Draft) → IsDraft draft → read_plan_line draft (get_or list i d).now ≡ Ok next → IsDraft next
line_kept list i d draft next kept is = read_line-kept draft next kept (get_or list i d).now is

-- after one line, where the same holds of the rest
after-kept : (n : ℕ) (said : Result Draft PlanFaultKind) (rest : Draft → Result Draft PlanFault) (last : Draft) → draft_after_line n said rest ≡ Ok last → ((next : Draft) → said ≡ Ok next → rest next ≡ Ok last → IsDraft last) → IsDraft last
after-kept n said rest last is go = search arith

read_lines-draft : (n : ℕ) (list : List (List ℕ)) (draft last : Draft) → IsDraft draft → read_plan_lines n list draft ≡ Ok last → IsDraft last
read_lines-draft n [] draft last kept is = let made : draft ≡ last = cc in subst IsDraft made kept
read_lines-draft n (line ∷ more) draft last kept is =
    after-kept n (read_plan_line draft line) (λ next. read_plan_lines (n + 1) more next) last is (λ next said rest. read_lines-draft (n + 1) more next last (read_line-kept draft next kept line said) rest)

-- The plan that they give

finished_by : (o : Option Shape) (plan : Plan) (from_said : Bool) → IsPlan plan → (from_said ≡ false → plan.shape ≡ Hand → next_first plan.terminals ≡ total_count plan.terminals) → IsRooted o plan from_said → IsPlan (rooted o plan)
finished_by None plan from_said kept counted is = kept
finished_by (Some shape) plan from_said kept counted is = rooted_kept plan kept shape is.0 (counted is.2 is.1) is.3

pub finished_kept : (draft : Draft) → IsDraft draft → IsPlan (finished draft)
finished_kept draft all = by_lines (has_shared draft.shared) refl
  where
    by_lines : (some : Bool) → has_shared draft.shared ≡ some → IsPlan (rooted draft.labels (if some then switches_joined draft.shared (length draft.plan.switches) draft.plan else draft.plan))
    by_lines false is = finished_by draft.labels draft.plan draft.from_said all.kept all.counted all.rooted
    by_lines true is =
        let was = all.sharing is in
        subst (λ (o : Option Shape). IsPlan (rooted o (switches_joined draft.shared (length draft.plan.switches) draft.plan))) (sym was.1) (joined_kept draft.plan all.kept was.0 draft.shared)

pub lines_kept : (n : ℕ) (list : List (List ℕ)) (draft last : Draft) → IsDraft draft → read_plan_lines n list draft ≡ Ok last → IsPlan last.plan
lines_kept n list draft last kept is = (read_lines-draft n list draft last kept is).kept

pub read_lines-kept : (n : ℕ) (list : List (List ℕ)) (draft last : Draft) → IsDraft draft → read_plan_lines n list draft ≡ Ok last → IsPlan (finished last)
read_lines-kept n list draft last kept is = finished_kept last (read_lines-draft n list draft last kept is)

pub empty-kept : IsDraft empty_draft
unfolding rows_of
empty-kept = search (arith, All-nil)
