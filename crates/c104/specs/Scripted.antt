-- How a command of a description and a script ends, and what standard output took by then. It is one relation for all such
-- commands: what a command prints of a network by the script is a record of four relations.
--     ScriptEnds shown description left taken takes status      of texts that were read; left is what is left of the script
--     ReaderEnds shows description script left taken takes status      the same, by what the script's reader tells of its bytes
use Rattle.{c104.specs.Taking.TookFront, c104_describe.specs.PlanText.read_description, c104_plan.specs.{PlanImage.Image, Plans.Plan}}
use Rattle.c104_setup.specs.{Endings.CommandPrints, Setups.{ComesTo, SetupResult}, declared.status.Status.Status}
use Rattle.std.specs.Prelude.{Bool, List, None, Ok, Option, Some, false, true, ℕ, ⊤, ◌++◌, ◌≡◌, ◌⊎◌}

-- what a command prints of a network: in all, and whether it refuses any of it; of what it prints a front, if writing fails; if
-- the script can't be read on where so much of it is left; and if memory runs out there
pub record Shown : Type 1 where
  pub prints : Plan → Image → List ℕ → Bool → Type 0
  pub fails : Plan → Image → List ℕ → Bool → Type 0
  pub stops : Plan → Image → List ℕ → List ℕ → Type 0
  pub halts : Plan → Image → List ℕ → List ℕ → Type 0

-- there is a network, and a text of which this holds was printed
abbrev pub PrintsOn : (Plan → Image → List ℕ → List ℕ → Type 0) → List ℕ → List ℕ → List ℕ → List ℕ → Type 0
PrintsOn holds description left taken takes =
    (plan : Plan) × (image : Image) × ComesTo (read_description description) (Ok (plan, image))
    × (text : List ℕ) × holds plan image left text × (takes ≡ taken ++ text)

-- what was printed: the line that tells why the description gives no network, or else what the command prints of the network
-- that it gives; or a front of it, where writing failed
abbrev pub ScriptEnds : Shown → List ℕ → List ℕ → List ℕ → List ℕ → Status → Type 0
ScriptEnds shown description left taken takes Status.Done =
    (setup : SetupResult) × ComesTo (read_description description) setup
    × (text : List ℕ) × CommandPrints shown.prints setup text false × (takes ≡ taken ++ text)
ScriptEnds shown description left taken takes Status.Refused =
    (setup : SetupResult) × ComesTo (read_description description) setup
    × (text : List ℕ) × CommandPrints shown.prints setup text true × (takes ≡ taken ++ text)
ScriptEnds shown description left taken takes (Status.CannotRead n) =
    ((n ≡ 0) × (takes ≡ taken)) ⊎ ((n ≡ 1) × PrintsOn shown.stops description left taken takes)
ScriptEnds shown description left taken takes Status.CannotWrite =
    (setup : SetupResult) × ComesTo (read_description description) setup
    × (text : List ℕ) × (refused : Bool) × CommandPrints shown.fails setup text refused × TookFront taken takes text
ScriptEnds shown description left taken takes Status.NoMemory =
    (takes ≡ taken) ⊎ PrintsOn shown.halts description left taken takes

-- nothing is said where the reader doesn't tell what it has
abbrev pub ReaderEnds : (List ℕ → Shown) → List ℕ → Option (List ℕ) → Option (List ℕ) → List ℕ → List ℕ → Status → Type 0
ReaderEnds shows description (Some script) (Some left) taken takes status = ScriptEnds (shows script) description left taken takes status
ReaderEnds shows description script left taken takes status = ⊤
