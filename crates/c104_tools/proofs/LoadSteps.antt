-- The steps of a load name switches of its image. And what is told of a reply is no fault of the port.
use Rattle.c104_control.specs.declared.{commands.Command.{Command, TheVariants.{Reset, Start}}, replies.Answer.Answer}
use Rattle.{c104_event.specs.declared.faults.EventFault.EventFault, c104_regs.specs.KeptValues.kept_values}
use Rattle.{c104_regs.specs.declared.settings.Settings.Settings, c104_tools.specs.Loads.{for_each, load_list, order, pokes, steps_from}}
use Rattle.c104_tools.specs.{Loads.switch_pokes, Outcomes.{and_then, any_value}, Steps.{Step, judged, value_or_bad}}
use Rattle.{c104_tools.specs.declared.faults.LoadFault.LoadFault, std.proofs.Common.{Bool, Err, IfErr, List, Option, Result, [], ap, arith}}
use Rattle.std.proofs.Common.{if◌then◌else◌, length, map, suc, sym, zero, ℕ, ◌++◌, ◌+◌, ◌<◌, ◌∙◌, ◌∷◌, ◌≡◌, ◌≢◌, ◌≤◌}
use Rattle.std.specs.List.{range_with_len}

-- steps name switches below a number
abbrev pub StepsBelow : ℕ → List Step → Type 0
StepsBelow m [] = Unit {0}
StepsBelow m (t ∷ steps) = (t.switch < m) × StepsBelow m steps

-- the steps of a load name switches of its image
below_on : (m : ℕ) (first second : List Step) → StepsBelow m first → StepsBelow m second → StepsBelow m (first ++ second)
below_on m [] second one other = other
below_on m (t ∷ first) second one other = (one.0, below_on m first second one.1 other)

below_each : (c : Command) (m a n : ℕ) → a + n ≤ m → StepsBelow m (map (λ switch. order switch c) (range_with_len a n))
below_each c m a zero low = tt
below_each c m a (suc n) low = (omega (arith, low), below_each c m (a + 1) n (omega (arith, low)))

below_pokes : (m switch : ℕ) → switch < m → (values : List (ℕ × ℕ)) → StepsBelow m (pokes switch values)
below_pokes m switch low [] = tt
below_pokes m switch low (x ∷ values) = (low, below_pokes m switch low values)

below_from : (m n : ℕ) (image : List (List Settings)) → n + length image ≤ m → StepsBelow m (steps_from switch_pokes n image)
below_from m n [] low = tt
below_from m n (settings ∷ image) low =
    below_on m (switch_pokes n settings) (steps_from switch_pokes (n + 1) image)
    (below_pokes m n (omega (arith, low)) (kept_values settings)) (below_from m (n + 1) image (omega (arith, low)))

pub below_load : (image : List (List Settings)) → StepsBelow (length image) (load_list image)
below_load image = search (arith, below_on, below_each, below_from)

-- they are in three parts
pub load_parts : (count : ℕ) (kept image : List (List Settings)) → count ≡ length image → kept ≡ image → load_list image ≡ for_each count Reset ++ (steps_from switch_pokes 0 kept ++ for_each count Start)
load_parts count kept image many same = sym (ap (λ n. for_each n Reset ++ (steps_from switch_pokes 0 kept ++ for_each n Start)) many ∙ ap (λ xs. for_each (length image) Reset ++ (steps_from switch_pokes 0 xs ++ for_each (length image) Start)) same)

-- the port gave a reply to each command
abbrev pub IsReplied : {X : Type 0} → Result X LoadFault → Type 0
IsReplied x = IfErr x (λ f. (e : EventFault) → f ≢ LoadFault.Port e)

value_replied : (t : Step) (o : Option ℕ) → IsReplied (and_then (value_or_bad t.switch o) (any_value t))
value_replied t o = search arith

refused_replied : (t : Step) (a n : ℕ) (may : Bool) → IsReplied {X = ℕ} (and_then (if may then Err (LoadFault.Refused t.switch a n) else Err (LoadFault.BadReply t.switch)) (any_value t))
refused_replied t a n may = search arith

-- so where a reply is judged
pub judged_replied : (t : Step) (o : Option Answer) → IsReplied (and_then (judged t.switch t.command o) (any_value t))
judged_replied t o = search (arith, refused_replied, value_replied)
