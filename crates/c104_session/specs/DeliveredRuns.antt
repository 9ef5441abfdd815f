-- What a run prints where its script leaves the network as it was set up, and ends with rounds enough where no channel
-- depends on itself, or settles: each packet that was sent with a whole header that a terminal owns.
--     EndsWithRounds plan image script      there are rounds enough
--     EndsSettled plan image script      behind the last packet a line settles, and no token is left
--     PrintsAllSent plan image script, PrintsAllSettled plan image script      what follows
use Rattle.{c104_check.specs.{ChannelDependencies.IsAcyclic, Routes.{Routes, routes_of}}, c104_deadlock.specs.HeaderWork.random_bound}
use Rattle.{c104_node.specs.declared.origins.Origin.Origin, c104_plan.specs.{PlanImage.Image, Plans.Plan}}
use Rattle.{c104_regs.specs.declared.registers.TheConstants.LINKS, c104_run.specs.Network.placed_network}
use Rattle.c104_script.specs.{Script.read_script_line, declared.{answers.{Answer.Answer, Settled.Settled}, faults.LineFault.LineFault}}
use Rattle.{c104_script.specs.declared.places.Request.Request, c104_session.specs.PrintedPackets.{IsSentTo, IsUnchangedRun, PrintsPackets}}
use Rattle.c104_session.specs.{PrintedPackets.{lines_sent, script_sent, was_done}, Shown.{line_answer, line_outcome, new_session}}
use Rattle.{c104_session.specs.declared.session.Session.Session, c104_stream.specs.{ScriptLines.script_lines, Scripts.lines_outcome}}
use Rattle.c104_token.specs.declared.{packets.Packet.Packet, tokens.Token.Token}
use Rattle.std.specs.Prelude.{List, Ok, Option, Result, Some, [], if◌then◌else◌, length, slice_get, ℕ, ◌*◌, ◌++◌, ◌+◌, ◌<◌, ◌∷◌, ◌≡◌}

-- how many rounds a line asks for, whether they are fair or not, and whatever words their inputs are handed
abbrev pub rounds_asked : Result (Option Request) LineFault → ℕ
rounds_asked (Ok (Some (Request.Rounds count is_fair seed))) = count
rounds_asked asked = 0

-- how many a line did: all that it asks for, where it is answered that they were done
abbrev pub line_rounds : Session → List ℕ → ℕ
line_rounds session line =
    if was_done (line_answer session line).0 then rounds_asked (read_script_line session.net.network.plan session.image line) else 0

-- how many lines did in all
abbrev pub lines_rounds : Session → List (List ℕ) → ℕ
lines_rounds session [] = 0
lines_rounds session (line ∷ more) = line_rounds session line + lines_rounds (line_answer session line).1 more

-- the session after the first lines of a script
abbrev pub session_after : Plan → Image → List (List ℕ) → Session
session_after plan image lines = (lines_outcome line_outcome 1 (new_session plan image) lines).1

-- the most that a token weighs in the work that is left: eight for each input that it may pass, and a little more; and as much
-- for each byte of the random header that may be put before it
abbrev pub token_weight : Plan → Routes → ℕ
token_weight plan routes =
    8 * (LINKS * length plan.switches + 1) + 4 + (routes.header * (8 * (LINKS * length plan.switches + 1)) + 1)

-- as much for each token of these packets, their terminators too
abbrev pub sends_weight : ℕ → List (ℕ × Packet) → ℕ
sends_weight weight [] = 0
sends_weight weight (s ∷ sends) = (length s.1.bytes + 1) * weight + sends_weight weight sends

-- more rounds than this are enough: the room that all buffers may grant at the start, and the weight of what a script sends
abbrev pub rounds_by_work : Plan → Image → List ℕ → ℕ
rounds_by_work plan image script =
    random_bound {A = Token} plan (routes_of plan image) (placed_network plan image).nodes
    + sends_weight (token_weight plan (routes_of plan image)) (script_sent plan image script)

-- what a line asks of a session
abbrev pub Asks : Session → List ℕ → Request → Type 0
Asks session line request = read_script_line session.net.network.plan session.image line ≡ Ok (Some request)

-- a script ends with rounds: behind the last packet that it sends its lines do enough of them in all, whatever else they ask
-- before, between and behind them, and however that is answered
pub record EndsWithRounds (plan : Plan) (image : Image) (script : List ℕ) : Type 0 where
  pub front : List (List ℕ)
  pub back : List (List ℕ)
  pub lines : script_lines script ≡ front ++ back
  pub silent : lines_sent (session_after plan image front) back ≡ []
  pub enough : rounds_by_work plan image script < lines_rounds (session_after plan image front) back

-- a script ends settled: behind the last packet that it sends a line asks to settle, and is answered that no token is left
-- anywhere; whatever else its lines ask, and however that is answered
pub record EndsSettled (plan : Plan) (image : Image) (script : List ℕ) : Type 0 where
  pub front : List (List ℕ)
  pub line : List ℕ
  pub back : List (List ℕ)
  pub lines : script_lines script ≡ front ++ line ∷ back
  pub asks : Asks (session_after plan image front) line Request.Settle
  pub count : ℕ
  pub settled : (line_answer (session_after plan image front) line).0 ≡ Some (Answer.Settled (Settled.Done count))
  pub silent : lines_sent (line_answer (session_after plan image front) line).1 back ≡ []

-- what is printed behind the answers are the lines of the packets that were sent, each with a whole header that a terminal
-- owns, and of these each once
pub record PrintsAllPackets (plan : Plan) (image : Image) (script : List ℕ) : Type 0 where
  pub prints : PrintsPackets plan image script
  pub all : (t : ℕ) (o : Origin) → IsSentTo (routes_of plan image) (script_sent plan image script) t o →
      (k : ℕ) × (slice_get (prints.shown t) k ≡ Some o)

-- the theorem about deadlock, of what a run prints
abbrev pub PrintsAllSent : Plan → Image → List ℕ → Type 0
PrintsAllSent plan image script = IsUnchangedRun plan image script → IsAcyclic (routes_of plan image) →
    EndsWithRounds plan image script → PrintsAllPackets plan image script

-- and where the script settles, whatever channels depend on
abbrev pub PrintsAllSettled : Plan → Image → List ℕ → Type 0
PrintsAllSettled plan image script = IsUnchangedRun plan image script → EndsSettled plan image script → PrintsAllPackets plan image script
