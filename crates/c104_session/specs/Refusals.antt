-- What is refused of a script's lines, where each is counted, and where the run ends for that.
pub use Rattle.c104_session.specs.declared.refusals.Refusals.{Refusals}
use Rattle.{c104_event.specs.declared.faults.EventFault.EventFault, c104_rows.specs.Numbers.told}
use Rattle.c104_script.specs.declared.{answers.Answer.{Answer, TheVariants.{Found, Refused}}, findings.Finding.Finding}
use Rattle.c104_session.specs.declared.session.Session.{Session}
use Rattle.std.specs.Prelude.{Bool, Option, Some, false, true, ◌+◌, ◌||◌}

-- whether the run ends with a line that is refused so: since a trace or an inbox is full
abbrev pub ends_run : EventFault → Bool
ends_run EventFault.InboxFull = true
ends_run EventFault.TraceFull = true
ends_run other = false

-- before the first line, and behind one that was answered so
abbrev pub no_refusals : Refusals
no_refusals = record { lines = 0; is_over = false }

abbrev pub refused_too : Refusals → Option Answer → Refusals
refused_too r (Some (Refused kind)) = record { lines = told (r.lines + 1); is_over = ends_run kind }
refused_too r (Some (Found (Finding.Refused kind))) = record r { lines = told (r.lines + 1) }
refused_too r other = r

-- whether a script is refused: for its length, for a line that was faulty, or for the one that ended its run
abbrev pub refuses : Refusals → Bool → Session → Bool
refuses r long session = long || (session.faulty || r.is_over)
