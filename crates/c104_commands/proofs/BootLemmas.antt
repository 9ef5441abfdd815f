-- The commands that a loop adds, one by one.
use Rattle.c104_commands.specs.{Boots.{boot_commands, switch_command}, declared.boots.SwitchCommand.SwitchCommand}
use Rattle.{c104_control.specs.declared.commands.Command.{Command, TheVariants.{CPoke, Reset, Start}}, c104_plan.specs.PlanImage.Image}
use Rattle.{c104_regs.specs.declared.settings.Settings.Settings, c104_tools.proofs.Rests.{switches_next, switches_none}}
use Rattle.{c104_tools.specs.Loads.{for_each, order, pokes, steps_from, switch_pokes}, std.proofs.Common.{List, [], ap, append_assoc}}
use Rattle.std.proofs.Common.{arith, drop, get_or, length, map, sym, take, ℕ, ◌++◌, ◌+◌, ◌<◌, ◌∙◌, ◌∷◌, ◌≡◌, ◌≤◌}
use Rattle.std.proofs.lemmas.List.{FromFn.map-range_with_len_more, append-nil, map-append, take_more}

-- a command for one switch more
pub each_next : (c : Command) (n : ℕ) (old before after : List SwitchCommand) (made : SwitchCommand)
    → before ≡ old ++ map switch_command (for_each n c) → made ≡ switch_command (order n c) → after ≡ before ++ made ∷ []
    → after ≡ old ++ map switch_command (for_each (n + 1) c)
each_next c n old before after made so is grown =
    let more : for_each (n + 1) c ≡ for_each n c ++ order n c ∷ [] = map-range_with_len_more (λ k. order k c) 0 n n (omega arith) in
    grown ∙ ap (λ x. before ++ x ∷ []) is ∙ ap (λ xs. xs ++ switch_command (order n c) ∷ []) so
    ∙ append_assoc old (map switch_command (for_each n c)) (switch_command (order n c) ∷ [])
    ∙ ap (λ xs. old ++ xs) (sym (ap (map switch_command) more ∙ map-append switch_command (for_each n c) (order n c ∷ [])))

-- one poke more
pub pokes_next : (switch : ℕ) (values : List (ℕ × ℕ)) (i : ℕ) (d : ℕ × ℕ) (old before after : List SwitchCommand) (made : SwitchCommand)
    → i < length values → before ≡ old ++ map switch_command (pokes switch (take i values))
    → made ≡ switch_command (order switch (CPoke (get_or values i d).0 (get_or values i d).1)) → after ≡ before ++ made ∷ []
    → after ≡ old ++ map switch_command (pokes switch (take (i + 1) values))
pokes_next switch values i d old before after made inside so is grown =
    let poke = λ (y : ℕ × ℕ). switch_command (order switch (CPoke y.0 y.1)) in
    let before_it = map switch_command (pokes switch (take i values)) in
    let more : map switch_command (pokes switch (take (i + 1) values)) ≡ before_it ++ poke (get_or values i d) ∷ [] =
    ap (λ xs. map switch_command (pokes switch xs)) (take_more values i d inside)
    ∙ ap (map switch_command) (map-append (λ (y : ℕ × ℕ). order switch (CPoke y.0 y.1)) (take i values) (get_or values i d ∷ []))
    ∙ map-append switch_command (pokes switch (take i values)) (pokes switch (get_or values i d ∷ [])) in
    grown ∙ ap (λ x. before ++ x ∷ []) is ∙ ap (λ xs. xs ++ poke (get_or values i d) ∷ []) so
    ∙ append_assoc old before_it (poke (get_or values i d) ∷ [])
    ∙ ap (λ xs. old ++ xs) (sym more)

-- what is left to be poked, of the switches from a number on
abbrev pub pokes_left : List (List Settings) → ℕ → List SwitchCommand
pokes_left image n = map switch_command (steps_from switch_pokes n (drop n image))

pub left_next : (image : List (List Settings)) (i : ℕ) (x : List Settings) (before after all : List SwitchCommand) → i < length image
    → x ≡ get_or image i x → before ++ pokes_left image i ≡ all → after ≡ before ++ map switch_command (switch_pokes i x)
    → after ++ pokes_left image (i + 1) ≡ all
left_next image i x before after all inside is so grown =
    ap (λ xs. xs ++ pokes_left image (i + 1)) grown
    ∙ append_assoc before (map switch_command (switch_pokes i x)) (pokes_left image (i + 1))
    ∙ ap (λ xs. before ++ xs)
    (sym (ap (map switch_command) (switches_next switch_pokes image i x inside is)
    ∙ map-append switch_command (switch_pokes i x) (steps_from switch_pokes (i + 1) (drop (i + 1) image))))
    ∙ so

pub left_none : (image : List (List Settings)) (i : ℕ) (after all : List SwitchCommand) → length image ≤ i
    → after ++ pokes_left image i ≡ all → after ≡ all
left_none image i after all past so =
    sym (append-nil after) ∙ ap (λ xs. after ++ xs) (sym (ap (map switch_command) (switches_none switch_pokes image i past))) ∙ so

-- the three parts of a load
pub are_all : (image : Image) (count : ℕ) (kept : List (List Settings)) (none first second third : List SwitchCommand)
    → count ≡ length kept → kept ≡ image.settings → none ≡ [] → first ≡ none ++ map switch_command (for_each count Reset)
    → second ≡ first ++ map switch_command (steps_from switch_pokes 0 kept) → third ≡ second ++ map switch_command (for_each count Start)
    → third ≡ boot_commands image
are_all image count kept none first second third counted is empty reset poked started =
    let resets = for_each (length image.settings) Reset in
    let all_pokes = steps_from switch_pokes 0 image.settings in
    let starts = for_each (length image.settings) Start in
    let here : count ≡ length image.settings = counted ∙ ap length is in
    started
    ∙ ap (λ xs. xs ++ map switch_command (for_each count Start))
    (poked ∙ ap (λ xs. xs ++ map switch_command (steps_from switch_pokes 0 kept))
    (reset ∙ ap (λ xs. xs ++ map switch_command (for_each count Reset)) empty))
    ∙ ap (λ n. (map switch_command (for_each n Reset) ++ map switch_command (steps_from switch_pokes 0 kept))
    ++ map switch_command (for_each n Start)) here
    ∙ ap (λ xs. (map switch_command resets ++ map switch_command (steps_from switch_pokes 0 xs)) ++ map switch_command starts) is
    ∙ append_assoc (map switch_command resets) (map switch_command all_pokes) (map switch_command starts)
    ∙ ap (λ xs. map switch_command resets ++ xs) (sym (map-append switch_command all_pokes starts))
    ∙ sym (map-append switch_command resets (all_pokes ++ starts))
