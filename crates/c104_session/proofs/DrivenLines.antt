-- A line that a driver has done is answered as one without a driver.
use Rattle.{c104_script.specs.declared.answers.Answer.Answer, c104_session.specs.Driven.{Driving, driven_answer, line_driven}}
use Rattle.c104_session.specs.{Refusals.refused_too, Shown.line_answer, declared.{driven.Driven.Driven, session.Session.Session}}
use Rattle.std.proofs.Common.{List, Option, arith, false, ℕ, ◌≡◌}

pub line_driven_too : {D : Type 0} (drives : Driving D) (s after : Driven D) (text : List ℕ) (answer : Option Answer)
    → s.refusals.is_over ≡ false
    → ◌≡◌ {A = Option Answer × Session} (answer, after.session) (line_answer s.session text)
    → after.driver ≡ line_driven drives s.driver s.session text
    → after.refusals ≡ refused_too s.refusals answer
    → ◌≡◌ {A = Option Answer × Driven D} (answer, after) (driven_answer drives s text)
line_driven_too drives s after text answer goes_on answered drove told = search arith
