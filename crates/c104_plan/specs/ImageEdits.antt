-- What is set in an image: what each call answers, and the image after it.
use Rattle.c104_plan.specs.{ImageFaults.ImageFault, PlanImage.{Image, range_of}, Plans.{Plan, label_count}}
use Rattle.c104_regs.specs.{Registers.{bank_peek, bank_poke, placed_bank, reset_bank}, declared.faults.RegFault.RegFault}
use Rattle.c104_regs.specs.declared.settings.Settings.{Settings}
use Rattle.std.specs.Prelude.{Bool, Err, List, None, Ok, Option, Result, Some, if◌then◌else◌, length, map, nat_le, nat_lt, not, option_map}
use Rattle.std.specs.Prelude.{slice_get, slice_set, ℕ, ◌&&◌, ◌+◌, ◌≡◌, ◌⊎◌}

-- the image of a plan with its terminals' ranges, and all switches as after a reset
abbrev pub new_image : Plan → Image
new_image plan = record {
  ranges = map range_of plan.terminals;
  settings = map (λ switch. reset_bank.settings) plan.switches;
}

-- what is answered where a poke was answered so
abbrev pub poke_answer : Result (Unit {0}) RegFault → Result (Unit {0}) ImageFault
poke_answer (Ok u) = Ok u
poke_answer (Err e) = Err (ImageFault.Register e)

-- setting address a of a switch to v, by its settings: a poke of the switch when it is placed with them
abbrev pub settings_set : List Settings → ℕ → ℕ → Result (Unit {0}) ImageFault × List Settings
settings_set settings a v =
    let poked = bank_poke (placed_bank settings) a v in
    (poke_answer poked.0, poked.1.settings)

-- setting address a of a switch of an image to v
abbrev pub image_set : Image → ℕ → ℕ → ℕ → Result (Unit {0}) ImageFault × Image
image_set image switch a v = at (slice_get image.settings switch)
  where
    at : Option (List Settings) → Result (Unit {0}) ImageFault × Image
    at None = (Err ImageFault.NoNode, image)
    at (Some settings) =
        let done = settings_set settings a v in
        (done.0, record image { settings = slice_set image.settings switch done.1 })

-- whether these are a range of labels, by its first and how many they are
abbrev pub is_range : ℕ → ℕ → Bool
is_range first count = nat_lt 0 count && nat_le (first + count) label_count

-- setting the range of a terminal of an image
abbrev pub image_set_range : Image → ℕ → ℕ → ℕ → Result (Unit {0}) ImageFault × Image
image_set_range image terminal first count =
    if not (nat_lt terminal (length image.ranges)) then (Err ImageFault.NoNode, image)
    else (if not (is_range first count) then (Err ImageFault.BadRange, image)
    else (Ok tt, record image { ranges = slice_set image.ranges terminal (first, count) }))

-- an answer, and what is there after it: what is due, or out of memory where that would have been done, and
-- nothing changed
abbrev pub AnswersDue : {X : Type 0} → X → Result (Unit {0}) ImageFault × X → Result (Unit {0}) ImageFault → X → Type 0
AnswersDue {X} before due answer after =
    (◌≡◌ {A = Result (Unit {0}) ImageFault × X} (answer, after) due)
    ⊎ ((answer ≡ Err ImageFault.NoMemory) × (due.0 ≡ Ok tt) × (after ≡ before))

-- what an address of a switch reads, where the switch is placed with the image and has told nothing yet
abbrev pub image_peek : Image → ℕ → ℕ → Option (Result ℕ RegFault)
image_peek image switch a =
    option_map (λ settings. bank_peek (placed_bank settings) a) (slice_get image.settings switch)
