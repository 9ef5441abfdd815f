-- Drafts: what the lines of a description have said so far, the plan that this gives, and which further
-- lines go with it.
use Rattle.c104_describe.specs.{PlanFaults.PlanFaultKind, PlanWords.{Keyword, range_words}, SharedTables.{SharedLines, has_shared}}
use Rattle.{c104_describe.specs.SharedTables.{lines_of, shared_out}, c104_plan.specs.PlanParts.{has_some, has_tables, plan_of}}
use Rattle.c104_plan.specs.{PlanParts.without_first, Plans.Plan, declared.plans.Shape.{Shape, TheVariants.{Cube, Hand, Mesh, Tree, UpDown}}}
use Rattle.c104_plan.specs.declared.plans.Terminal.{Terminal}
use Rattle.std.specs.Prelude.{Bool, Err, List, None, Ok, Option, Result, Some, [], bytes_eq, codes, false, is_some, map, not, true, ℕ, ◌&&◌}
use Rattle.std.specs.Prelude.{◌||◌, ◌∷◌}
use Rattle.c104_describe.specs.declared.drafts.Draft as kept

-- a plan, of which the shape is that of a whole network once a line gave one; whether lines have said its
-- header length, its buffer size, and where the range of some terminal begins; the shape as which a line asks it
-- to be labelled, if one does; and the lines that name a switch alone, which aren't in the plan yet
pub record Draft : Type 0 where
  pub plan : Plan
  pub shared : SharedLines
  pub header_said : Bool
  pub buffer_said : Bool
  pub from_said : Bool
  pub labels : Option Shape

-- a plan, to be labelled as a shape if one is asked for: then its terminals carry counts alone
abbrev pub rooted : Option Shape → Plan → Plan
rooted None plan = plan
rooted (Some shape) plan = record plan { shape = shape; terminals = map without_first plan.terminals }

-- the plan of a draft: behind its last line those that name a switch alone are written out
abbrev pub finished : Draft → Plan
finished draft = rooted draft.labels (shared_out draft.shared draft.plan)

-- whether a plan is made line by line
abbrev pub is_by_hand : Shape → Bool
is_by_hand Hand = true
is_by_hand (Tree root) = false
is_by_hand (UpDown root) = false
is_by_hand (Mesh w h p) = false
is_by_hand (Cube d p) = false

-- whether the words of a range say where it begins
abbrev pub is_begun : Result (Option (List ℕ) × Option (List ℕ)) PlanFaultKind → Bool
is_begun (Ok range) = is_some range.1
is_begun (Err fault) = false

-- whether the words behind `terminal` do
abbrev pub says_from : List (List ℕ) → Bool
says_from [] = false
says_from (name ∷ []) = false
says_from (name ∷ at ∷ rest) = is_begun (range_words rest)

-- whether labels of this shape go up and down
abbrev pub is_up_down : Shape → Bool
is_up_down Hand = false
is_up_down (Tree root) = false
is_up_down (UpDown root) = true
is_up_down (Mesh w h p) = false
is_up_down (Cube d p) = false

-- whether labels are asked for with which links that continue groups don't go
abbrev pub excludes_groups : Option Shape → Bool
excludes_groups None = false
excludes_groups (Some shape) = not (is_up_down shape)

-- whether the words behind `label` ask for a tree's labels
abbrev pub asks_tree : List (List ℕ) → Bool
asks_tree [] = false
asks_tree (style ∷ rest) = bytes_eq style (codes "tree")

-- whether a line, by what its first word says and the words after it, doesn't go with the lines before it:
-- `label` goes with neither `base`, `row`, `random` nor a terminal's `from`, and a tree's not with `continue`; and `mesh`,
-- `cube`, `torus` and `clos` give all of a network but its headers, buffers and deletes. Each line of another kind but
-- `label` gives or names a switch.
abbrev pub is_mixed : Draft → Keyword → List (List ℕ) → Bool
is_mixed draft Keyword.Switch rest = not (is_by_hand draft.plan.shape)
is_mixed draft Keyword.Terminal rest = not (is_by_hand draft.plan.shape) || (is_some draft.labels && says_from rest)
is_mixed draft Keyword.Wire rest = not (is_by_hand draft.plan.shape)
is_mixed draft Keyword.Continue rest = not (is_by_hand draft.plan.shape) || excludes_groups draft.labels
is_mixed draft Keyword.Base rest = not (is_by_hand draft.plan.shape) || is_some draft.labels
is_mixed draft Keyword.Row rest = not (is_by_hand draft.plan.shape) || is_some draft.labels
is_mixed draft Keyword.Random rest = not (is_by_hand draft.plan.shape) || is_some draft.labels
is_mixed draft Keyword.Label rest =
    not (is_by_hand draft.plan.shape)
    || (draft.from_said || (has_tables draft.plan || (has_shared draft.shared || (has_some draft.plan.continues && asks_tree rest))))
is_mixed draft Keyword.Mesh rest = has_some draft.plan.switches || (is_some draft.labels || has_shared draft.shared)
is_mixed draft Keyword.Cube rest = has_some draft.plan.switches || (is_some draft.labels || has_shared draft.shared)
is_mixed draft Keyword.Torus rest = has_some draft.plan.switches || (is_some draft.labels || has_shared draft.shared)
is_mixed draft Keyword.Clos rest = has_some draft.plan.switches || (is_some draft.labels || has_shared draft.shared)
is_mixed draft Keyword.Header rest = false
is_mixed draft Keyword.Buffer rest = false
is_mixed draft Keyword.Delete rest = false

-- the draft that it is
abbrev pub draft_of : kept.Draft → Draft
draft_of draft = record {
  plan = plan_of draft.parts;
  shared = lines_of draft.shared;
  header_said = draft.header_said;
  buffer_said = draft.buffer_said;
  from_said = draft.from_said;
  labels = draft.labels;
}
