-- What the test of the theorem about packets says of a text that a run printed.
--     IsCalm asked      what was read of a line is no control command, and asks the debugger for nothing
--     IsPrinted description script text      the premises of the theorem hold, so the text is what it says
use Rattle.{c104_describe.specs.PlanText.read_description, c104_event.specs.declared.events.Event.Event, c104_plan.specs.PlanImage.Image}
use Rattle.{c104_plan.specs.Plans.Plan, c104_script.specs.{Script.read_script_line, declared.faults.LineFault.LineFault}}
use Rattle.{c104_script.specs.declared.places.Request.Request, c104_session.specs.PrintedPackets.{IsUnchangedRun, PrintsPackets}}
use Rattle.{c104_session.specs.Shown.run_output, c104_setup.specs.Setups.ComesTo}
use Rattle.std.specs.Prelude.{All, List, Ok, Option, Result, Some, ℕ, ◌≡◌}

abbrev pub IsCalm : Result (Option Request) LineFault → Type 0
IsCalm (Ok (Some (Request.Asked (Event.Control switch bytes)))) = ⊥
IsCalm (Ok (Some (Request.Probed probe))) = ⊥
IsCalm asked = Unit {0}

-- the same of each of these lines
abbrev pub AreCalm : Plan → Image → List (List ℕ) → Type 0
AreCalm plan image lines = All (λ (line : List ℕ). IsCalm (read_script_line plan image line)) lines

pub record IsPrinted (description script text : List ℕ) : Type 0 where
  pub plan : Plan
  pub image : Image
  pub comes : ComesTo (read_description description) (Ok (plan, image))
  pub premises : IsUnchangedRun plan image script
  pub printed : text ≡ (run_output plan image script).0
  pub packets : PrintsPackets plan image script
