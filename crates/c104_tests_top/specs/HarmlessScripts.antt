-- Scripts whose lines leave a network as it was set up, whatever they are answered.
--     AreHarmless plan image lines      each of these lines does
use Rattle.{c104_check.specs.Routes.{Routes, routes_of}, c104_plan.specs.{PlanImage.Image, Plans.Plan}}
use Rattle.c104_script.specs.{Script.read_script_line, declared.{answers.Answer.Answer, faults.LineFault.LineFault, places.Request.Request}}
use Rattle.c104_session.specs.PrintedPackets.{MayAsk}
use Rattle.std.specs.Prelude.{All, List, Option, Result, ℕ}

-- a line that asks for this does
abbrev pub IsHarmless : Routes → Result (Option Request) LineFault → Type 0
IsHarmless routes asked = (answer : Option Answer) → MayAsk routes asked answer

abbrev pub AreHarmless : Plan → Image → List (List ℕ) → Type 0
AreHarmless plan image lines = All (λ (line : List ℕ). IsHarmless (routes_of plan image) (read_script_line plan image line)) lines
