-- How a command of a description and a script ends is said of bytes that are told, and so of standard output.
use Rattle.c104.{proofs.EndedCommands.front_taken, specs.{Scripted.{PrintsOn, ReaderEnds, ScriptEnds, Shown}, Shown.{AnswersFront, AnswersRead}}}
use Rattle.{c104.specs.Shown.{shows_run, shows_text}, c104_describe.specs.PlanText.read_description, c104_plan.specs.PlanImage.Image}
use Rattle.{c104_plan.specs.Plans.Plan, c104_session.specs.RunCommands.{FailsInScript, RunsParts, StopsInScript, setup_output}}
use Rattle.c104_session.specs.{Shown.{line_outcome, new_session, run_output}, TextRuns.{TextEnds, WritesRun}}
use Rattle.c104_setup.specs.{Endings.{CommandPrints, EndsBefore}, Setups.{ComesTo, SetupResult, refused_text}}
use Rattle.{c104_setup.specs.declared.{setups.SetupFault.SetupFault, status.Status.Status}, c104_stream.specs.ScriptLines.whole_lines}
use Rattle.{c104_stream.specs.Scripts.{Answering, StopsAnswered, script_outcome}, std.proofs.Common.{Bool, Err, List, None, Ok, Option}}
use Rattle.std.proofs.Common.{Some, [], ap, append-nil, false, inl, inr, refl, subst, sym, true, ℕ, ◌++◌, ◌∙◌, ◌≡◌, ◌⊎◌}
use Rattle.c104_stream.specs.Scripts as scripts

-- what an option holds
abbrev held : Option (List ℕ) → List ℕ
held None = []
held (Some bytes) = bytes

-- the script's reader failed
pub answers_read : {S : Type 0} (answer : Answering S) (state : S) (script left taken takes : List ℕ)
    → scripts.AnswersPrefix answer state script (Some left) (Some taken) (Some takes)
    → (text : List ℕ) × AnswersRead answer state script left text × (takes ≡ taken ++ text)
answers_read answer state script left taken takes ends = (
  (scripts.lines_outcome answer 1 state (whole_lines [] ends.front)).0,
  record {
    front = ends.front;
    is_front = ends.is_prefix ∙ ap (λ rest. ends.front ++ rest) (sym (ap held ends.is_left));
    is_within = ends.is_within;
    answers = refl;
  },
  ends.wrote,
)

-- out of memory
pub answers_front : {S : Type 0} (answer : Answering S) (state : S) (script left taken takes : List ℕ)
    → StopsAnswered answer state script (Some left) (Some taken) (Some takes)
    → (text : List ℕ) × (AnswersFront answer state script left text ⊎ (text ≡ (script_outcome answer state script).0)) × (takes ≡ taken ++ text)
answers_front answer state script left taken takes (inl ends) = (
  (scripts.lines_outcome answer 1 state (whole_lines [] ends.front)).0,
  inl (record {
    front = ends.front;
    ahead = ends.ahead;
    is_front = ends.is_front ∙ ap (λ rest. ends.front ++ (ends.ahead ++ rest)) (sym (ap held ends.is_left));
    is_within = ends.is_within;
    answers = refl;
  }),
  ends.wrote,
)
answers_front answer state script left taken takes (inr wrote) = ((script_outcome answer state script).0, inr refl, wrote)

-- what a run shows it prints
run_prints : (setup : SetupResult) (script : List ℕ) (refused : Bool) → (setup_output setup script).1 ≡ refused
    → CommandPrints (shows_run script).prints setup (setup_output setup script).0 refused
run_prints (Err why) script refused is = (refl, sym is)
run_prints (Ok both) script refused is = ap (λ r. ((run_output both.0 both.1 script).0, r)) (sym is)

-- the script's reader failed, where there is a network
run_stops : (description script left taken takes : List ℕ) (setup : SetupResult) → ComesTo (read_description description) setup
    → FailsInScript setup script (Some left) (Some taken) (Some takes) → PrintsOn (shows_run script).stops description left taken takes
run_stops description script left taken takes (Err why) is ends = absurd ends
run_stops description script left taken takes (Ok both) is ends =
    let read = answers_read line_outcome (new_session both.0 both.1) script left taken takes ends in
    (both.0, both.1, is, read.0, read.1, read.2)

-- out of memory, where there is a network
run_halts : (description script left taken takes : List ℕ) (setup : SetupResult) → ComesTo (read_description description) setup
    → StopsInScript setup script (Some left) (Some taken) (Some takes) → PrintsOn (shows_run script).halts description left taken takes
run_halts description script left taken takes (Err why) is ends = absurd ends
run_halts description script left taken takes (Ok both) is ends =
    let front = answers_front line_outcome (new_session both.0 both.1) script left taken takes ends in
    (both.0, both.1, is, front.0, front.1, front.2)

-- a run ended so
pub run_ended : (description script left taken takes : List ℕ) (status : Status)
    → RunsParts (Some description) (Some script) (Some left) (Some taken) (Some takes) status → ScriptEnds (shows_run script) description left taken takes status
run_ended description script left taken takes Status.Done ends =
    (ends.0, ends.1, (setup_output ends.0 script).0, run_prints ends.0 script false ends.3, ends.2)
run_ended description script left taken takes Status.Refused ends =
    (ends.0, ends.1, (setup_output ends.0 script).0, run_prints ends.0 script true ends.3, ends.2)
run_ended description script left taken takes (Status.CannotRead n) (inl ends) = inl ends
run_ended description script left taken takes (Status.CannotRead n) (inr ends) =
    inr (ends.0, run_stops description script left taken takes ends.1.0 ends.1.1 ends.1.2)
run_ended description script left taken takes Status.CannotWrite ends =
    (ends.0, ends.1, (setup_output ends.0 script).0, (setup_output ends.0 script).1, run_prints ends.0 script (setup_output ends.0 script).1 refl, front_taken taken takes (setup_output ends.0 script).0 ends.2)
run_ended description script left taken takes Status.NoMemory (inl ends) = inl ends
run_ended description script left taken takes Status.NoMemory (inr ends) =
    inr (run_halts description script left taken takes ends.0 ends.1 ends.2)

-- what is written of a run, or nothing
text_written : (refuses : Plan → Image → List ℕ → Bool → Type 0) (description left taken takes : List ℕ) (plan : Plan) (image : Image) (status : Status)
    → ComesTo (read_description description) (Ok (plan, image)) → WritesRun (refuses plan image) (Some taken) (Some takes) status
    → ScriptEnds (shows_text refuses) description left taken takes status
text_written refuses description left taken takes plan image Status.Done is (inl none) = absurd none.0
text_written refuses description left taken takes plan image Status.Refused is (inl none) = absurd none.0
text_written refuses description left taken takes plan image (Status.CannotRead n) is (inl none) =
    inr (none.0, (plan, image, is, [], refl, none.1 ∙ sym (append-nil taken)))
text_written refuses description left taken takes plan image Status.CannotWrite is (inl none) = absurd none.0
text_written refuses description left taken takes plan image Status.NoMemory is (inl none) = inl none.1
text_written refuses description left taken takes plan image Status.Done is (inr some) =
    (Ok (plan, image), is, some.0, subst (λ r. refuses plan image some.0 r) some.3.1 some.2, some.3.0)
text_written refuses description left taken takes plan image Status.Refused is (inr some) =
    (Ok (plan, image), is, some.0, subst (λ r. refuses plan image some.0 r) some.3.1 some.2, some.3.0)
text_written refuses description left taken takes plan image (Status.CannotRead n) is (inr some) = absurd some.3
text_written refuses description left taken takes plan image Status.CannotWrite is (inr some) =
    (Ok (plan, image), is, some.0, some.1, some.2, front_taken taken takes some.0 some.3)
text_written refuses description left taken takes plan image Status.NoMemory is (inr some) = absurd some.3

-- there is no network
pub none_ended : (shown : Shown) (description left taken takes : List ℕ) (status : Status)
    → EndsBefore (Some description) (Some taken) (Some takes) status → ScriptEnds shown description left taken takes status
none_ended shown description left taken takes Status.Done ends = absurd ends
none_ended shown description left taken takes Status.Refused ends =
    (Err ends.0, ends.1, refused_text ends.0, (refl, refl), ends.2)
none_ended shown description left taken takes (Status.CannotRead n) ends = inl ends
none_ended shown description left taken takes Status.CannotWrite ends =
    (Err ends.0, ends.1, refused_text ends.0, true, (refl, refl), front_taken taken takes (refused_text ends.0) ends.2)
none_ended shown description left taken takes Status.NoMemory ends = inl ends

-- a command ended so that writes a text of a run
pub text_ended : (refuses : Plan → Image → List ℕ → Bool → Type 0) (description left taken takes : List ℕ) (status : Status)
    → TextEnds refuses (Some description) (Some taken) (Some takes) status → ScriptEnds (shows_text refuses) description left taken takes status
text_ended refuses description left taken takes status (inl before) = none_ended (shows_text refuses) description left taken takes status before
text_ended refuses description left taken takes status (inr ends) =
    text_written refuses description left taken takes ends.0 ends.1 status ends.2 ends.3

-- a run ended so, by what the script's reader tells
pub run_read : (description taken takes : List ℕ) (script left : Option (List ℕ)) (status : Status)
    → RunsParts (Some description) script left (Some taken) (Some takes) status → ReaderEnds shows_run description script left taken takes status
run_read description taken takes None left status ends = tt
run_read description taken takes (Some script) None status ends = tt
run_read description taken takes (Some script) (Some left) status ends = run_ended description script left taken takes status ends

-- a command ended so that writes a text of a run, by what the script's reader tells
pub text_read : (refuses : Option (List ℕ) → Plan → Image → List ℕ → Bool → Type 0) (description taken takes : List ℕ)
    (script left : Option (List ℕ)) (status : Status)
    → TextEnds (refuses script) (Some description) (Some taken) (Some takes) status
    → ReaderEnds (λ text. shows_text (refuses (Some text))) description script left taken takes status
text_read refuses description taken takes None left status ends = tt
text_read refuses description taken takes (Some script) None status ends = tt
text_read refuses description taken takes (Some script) (Some left) status ends =
    text_ended (refuses (Some script)) description left taken takes status ends
