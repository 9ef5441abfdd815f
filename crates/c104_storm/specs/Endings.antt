-- How a storm ends whose script was answered, and what it writes then.
use Rattle.{c104_event.specs.declared.faults.EventFault.EventFault, c104_lean.specs.Working.IsStop}
use Rattle.{c104_run.specs.{FinishedRecords.record_finish, NetRecords.NetRecord, QuietNets.IsQuiet}, c104_storm.specs.Arrivals.JoinArrivals}
use Rattle.c104_storm.specs.{Texts.{audited_line, not_quiet_line, stop_line}, Workers.Team, declared.endings.Ending.Ending}
use Rattle.{c104_storm.specs.declared.working.Worked.Worked, c104_stream.specs.{ScriptLines.script_too_long, Writing.AppendsPrefix}}
use Rattle.c104_stream.specs.declared.halt.Halt.{Halt}
use Rattle.std.specs.{Io.KnownBytes.Appends, Prelude.{Bool, Err, List, Ok, Option, Result, false, length, true, ℕ, ◌++◌, ◌<◌, ◌||◌, ◌≡◌}}
use Rattle.std.specs.Prelude.{◌≢◌}

-- an ending of a storm in which no worker stopped and which left this network: it isn't quiet exactly where a node isn't
abbrev pub IsEndingByNodes : NetRecord → Ending → Type 0
IsEndingByNodes net Ending.NotQuiet = IsQuiet net.network → ⊥
IsEndingByNodes net (Ending.Stopped worker kind) = ⊥
IsEndingByNodes net Ending.Quiet = IsQuiet net.network

-- the ending of a storm whose workers ended so: which of them stopped and for what, or else what the nodes say
abbrev pub IsEndingOf : Worked → NetRecord → Ending → Type 0
IsEndingOf (Worked.Stopped worker kind) net ending = (ending ≡ Ending.Stopped worker kind) × (kind ≢ EventFault.NoMemory)
IsEndingOf worked net ending = IsEndingByNodes net ending

-- an ending of a storm by such a team: a worker of the team stopped, for a fault that an event of its own had, or else what
-- the nodes say
abbrev pub IsEnding : Team → NetRecord → Ending → Type 0
IsEnding team net (Ending.Stopped worker kind) =
    (worker < team.count) × IsStop net.network.plan team.words team.count worker kind × (kind ≢ EventFault.NoMemory)
IsEnding team net ending = IsEndingByNodes net ending

-- the text of the run that was done, which left this network: that it is one, and the packets that arrived, sorted; or that the
-- script is too long
abbrev pub IsRunText : Bool → NetRecord → List ℕ → Type 0
IsRunText true net text = text ≡ audited_line ++ script_too_long
IsRunText false net text = JoinArrivals (record_finish net) audited_line (length net.network.plan.terminals) text

-- the text of an ending, of a script that is too long or isn't
abbrev pub IsEndText : Bool → NetRecord → Ending → List ℕ → Type 0
IsEndText long net Ending.NotQuiet text = text ≡ not_quiet_line
IsEndText long net (Ending.Stopped worker kind) text = text ≡ stop_line worker kind
IsEndText long net Ending.Quiet text = IsRunText long net text

-- whether a storm was refused that ended so: its script, for its length or for one of its lines, or the storm itself
abbrev pub is_refused : Bool → Bool → Ending → Bool
is_refused long faulty Ending.NotQuiet = true
is_refused long faulty (Ending.Stopped worker kind) = true
is_refused long faulty Ending.Quiet = long || faulty

-- a storm that left this network may end with a text, and be refused or not
pub record MayEnd (team : Team) (net : NetRecord) (long faulty : Bool) (text : List ℕ) (refused : Bool) : Type 0 where
  pub ending : Ending
  pub is : IsEnding team net ending
  pub is_text : IsEndText long net ending text
  pub answered : refused ≡ is_refused long faulty ending

-- what is written at the end: the text of an ending, or a prefix of it where the writer fails, and nothing where memory
-- runs out
abbrev pub WritesEnd : Team → NetRecord → Bool → Bool → Option (List ℕ) → Option (List ℕ) → Result Bool Halt → Type 0
WritesEnd team net long faulty held holds (Ok refused) =
    (text : List ℕ) × MayEnd team net long faulty text refused × Appends held holds text
WritesEnd team net long faulty held holds (Err Halt.CannotRead) = ⊥
WritesEnd team net long faulty held holds (Err Halt.CannotWrite) =
    (text : List ℕ) × (refused : Bool) × MayEnd team net long faulty text refused × AppendsPrefix held holds text
WritesEnd team net long faulty held holds (Err Halt.NoMemory) = holds ≡ held
