-- What each command of a description and a script prints of the network, by the script.
use Rattle.{c104.specs.Scripted.Shown, c104_plan.specs.{PlanImage.Image, Plans.Plan}, c104_session.specs.Shown.{line_outcome, new_session}}
use Rattle.{c104_session.specs.Shown.run_output, c104_storm.specs.{Sends.{new_sending, send_outcome}, Storms.MayWrite, Workers.Team}}
use Rattle.c104_stream.specs.{ScriptLines.{most_script, whole_lines}, Scripts.{Answering, lines_outcome, script_outcome}}
use Rattle.std.specs.Prelude.{Bool, List, [], length, ℕ, ◌++◌, ◌≡◌, ◌≤◌, ◌⊎◌}

-- the answers to the lines that ended in a front of a script, each of them whole; what was read ahead of it isn't answered
pub record AnswersFront {S : Type 0} (answer : Answering S) (state : S) (script left text : List ℕ) : Type 0 where
  pub front : List ℕ
  pub ahead : List ℕ
  pub is_front : script ≡ front ++ (ahead ++ left)
  pub is_within : length front ≤ most_script
  pub answers : text ≡ (lines_outcome answer 1 state (whole_lines [] front)).0

-- the same of all that was read
pub record AnswersRead {S : Type 0} (answer : Answering S) (state : S) (script left text : List ℕ) : Type 0 where
  pub front : List ℕ
  pub is_front : script ≡ front ++ left
  pub is_within : length front ≤ most_script
  pub answers : text ≡ (lines_outcome answer 1 state (whole_lines [] front)).0

-- `run`: the answers to the script's lines, and then what arrived; and otherwise the answers to the first lines, or to all
abbrev pub shows_run : List ℕ → Shown
shows_run script = record {
  prints = λ plan image text refused. (text, refused) ≡ run_output plan image script;
  fails = λ plan image text refused. (text, refused) ≡ run_output plan image script;
  stops = λ plan image. AnswersRead line_outcome (new_session plan image) script;
  halts = λ plan image left text. AnswersFront line_outcome (new_session plan image) script left text ⊎ (text ≡ (script_outcome line_outcome (new_session plan image) script).0);
}

-- `storm`: the answers to the script's lines, and then the end of a storm by this team
abbrev pub shows_storm : Team → List ℕ → Shown
shows_storm team script = record {
  prints = λ plan image text refused. MayWrite team plan image script text refused;
  fails = λ plan image text refused. MayWrite team plan image script text refused ⊎ (text ≡ (script_outcome send_outcome (new_sending plan image) script).0);
  stops = λ plan image. AnswersRead send_outcome (new_sending plan image) script;
  halts = λ plan image left text. AnswersFront send_outcome (new_sending plan image) script left text ⊎ (text ≡ (script_outcome send_outcome (new_sending plan image) script).0);
}

-- what is drawn or counted of a run: a text of which this holds, and otherwise nothing
abbrev pub shows_text : (Plan → Image → List ℕ → Bool → Type 0) → Shown
shows_text refuses = record { prints = refuses; fails = refuses; stops = λ plan image left text. text ≡ []; halts = λ plan image left text. text ≡ [] }
