-- What a run prints of the packets that arrived, where its script leaves the network as it was set up: the theorem about
-- packets, of the printed text.
--     IsUnchangedRun plan image script      the premises
--     PrintsPackets plan image script      what follows
use Rattle.{c104_check.specs.Routes.{IsAccepted, Routes, owner, routes_of}, c104_event.specs.declared.events.Event.Event}
use Rattle.{c104_net.specs.{Deliveries.{cut_at, has_header, header_of}, Unchanged.MayHappen}, c104_node.specs.Traces.part}
use Rattle.{c104_node.specs.declared.origins.Origin.Origin, c104_plan.specs.{PlanImage.Image, Plans.Plan, declared.plans.Terminal.Terminal}}
use Rattle.{c104_plan.specs.declared.ports.Port.Port, c104_run.specs.QuietNets.IsQuiet, c104_script.specs.Script.read_script_line}
use Rattle.c104_script.specs.declared.{answers.Answer.{Answer, TheVariants.Replied}, faults.LineFault.LineFault, places.Request.Request}
use Rattle.{c104_script.specs.declared.probes.Probe.Probe, c104_session.specs.Shown.{line_answer, line_outcome, new_session, packet_line}}
use Rattle.{c104_session.specs.{Shown.run_output, declared.session.Session.Session}, c104_stream.specs.ScriptLines.{is_long, script_lines}}
use Rattle.{c104_stream.specs.Scripts.script_outcome, c104_switch.specs.Actions.is_ready, c104_token.specs.Packets.packet_tokens}
use Rattle.c104_token.specs.declared.packets.Packet.{Packet}
use Rattle.std.specs.Prelude.{Bool, List, Ok, Option, Result, Some, [], drop, false, flat_map, if◌then◌else◌, nat_eq, slice_get, suc, true}
use Rattle.std.specs.Prelude.{ℕ, ◌++◌, ◌∷◌, ◌≡◌}

-- What a script sends

-- the packet that an event sends, with its terminal
abbrev pub event_sends : Event → List (ℕ × Packet)
event_sends (Event.Send t packet) = (t, packet) ∷ []
event_sends e = []

-- the same of what a line asks
abbrev pub asked_sends : Result (Option Request) LineFault → List (ℕ × Packet)
asked_sends (Ok (Some (Request.Asked e))) = event_sends e
asked_sends asked = []

-- what a line asks was done, by its answer
abbrev pub was_done : Option Answer → Bool
was_done (Some (Replied r)) = is_ready r
was_done answer = false

-- the packet that a line sent: what it asks to be sent, where that was done
abbrev pub line_sends : Session → List ℕ → List (ℕ × Packet)
line_sends session line =
    if was_done (line_answer session line).0 then asked_sends (read_script_line session.net.network.plan session.image line) else []

-- the packets that lines sent, in order
abbrev pub lines_sent : Session → List (List ℕ) → List (ℕ × Packet)
lines_sent session [] = []
lines_sent session (line ∷ more) = line_sends session line ++ lines_sent (line_answer session line).1 more

-- the packets that a script sent, each with its terminal, in order
abbrev pub script_sent : Plan → Image → List ℕ → List (ℕ × Packet)
script_sent plan image script = lines_sent (new_session plan image) (script_lines script)

-- those of one terminal
abbrev pub packets_of : ℕ → List (ℕ × Packet) → List Packet
packets_of t [] = []
packets_of t (s ∷ sends) = if nat_eq s.0 t then s.1 ∷ packets_of t sends else packets_of t sends

-- What a script changes

-- a line that is answered so leaves the network as it was set up: it is no command that resets a switch, or is answered
-- that it set a register, and no poke; and it sends nothing that mayn't be sent where random headers are put
abbrev pub MayAsk : Routes → Result (Option Request) LineFault → Option Answer → Type 0
MayAsk routes (Ok (Some (Request.Asked e))) (Some (Replied r)) = MayHappen routes e r
MayAsk routes (Ok (Some (Request.Probed (Probe.Poke switch addr value)))) answer = ⊥
MayAsk routes asked answer = Unit {0}

-- so does each of these lines
abbrev pub LeaveUnchanged : Routes → Session → List (List ℕ) → Type 0
LeaveUnchanged routes session [] = Unit {0}
LeaveUnchanged routes session (line ∷ more) =
    MayAsk routes (read_script_line session.net.network.plan session.image line) (line_answer session line).0
    × LeaveUnchanged routes (line_answer session line).1 more

-- the premises: the labels are accepted, and the script, which is no longer than it may be, leaves the network as it was
-- set up
pub record IsUnchangedRun (plan : Plan) (image : Image) (script : List ℕ) : Type 0 where
  pub accepted : IsAccepted (routes_of plan image)
  pub short : is_long script ≡ false
  pub unchanged : LeaveUnchanged (routes_of plan image) (new_session plan image) (script_lines script)

-- What is printed

-- the packet of an origin was sent, with a whole header that terminal t owns
abbrev pub IsSentTo : Routes → List (ℕ × Packet) → ℕ → Origin → Type 0
IsSentTo routes sends t o = (packet : Packet)
    × (slice_get (packets_of o.terminal sends) o.number ≡ Some packet)
    × (has_header routes packet ≡ true)
    × (owner routes (header_of routes packet) ≡ Some t)

-- the line of a packet at terminal t: the terminal's name, the packet's tokens, but for the header where the link to the
-- terminal deletes it, and where it came from
abbrev pub sent_line : Plan → Routes → ℕ → List ℕ → Origin → Packet → List ℕ
sent_line plan routes t name o packet =
    packet_line plan name (drop (cut_at routes (routes.peer (Port.Terminal t))) (packet_tokens packet)) (o ∷ [])

-- the same of the packet that was sent of this origin
abbrev pub origin_line : Plan → Routes → List (ℕ × Packet) → ℕ → List ℕ → Origin → List ℕ
origin_line plan routes sends t name o =
    part [] (sent_line plan routes t name o) (slice_get (packets_of o.terminal sends) o.number)

-- the lines of terminals, the first of which is t: of each the lines of these origins
abbrev pub origins_text : Plan → Routes → List (ℕ × Packet) → (ℕ → List Origin) → ℕ → List Terminal → List ℕ
origins_text plan routes sends shown t [] = []
origins_text plan routes sends shown t (terminal ∷ more) =
    flat_map (origin_line plan routes sends t terminal.name) (shown t) ++ origins_text plan routes sends shown (suc t) more

-- the session at the end of a script
abbrev pub script_end : Plan → Image → List ℕ → Session
script_end plan image script = (script_outcome line_outcome (new_session plan image) script).1

-- what is printed behind the answers are the lines of packets that were sent, byte for byte: for each terminal in order
-- those of a list of origins
pub record PrintsPackets (plan : Plan) (image : Image) (script : List ℕ) : Type 0 where
  pub shown : ℕ → List Origin
  pub printed : (run_output plan image script).0 ≡ (script_outcome line_outcome (new_session plan image) script).0
      ++ origins_text plan (routes_of plan image) (script_sent plan image script) shown 0 plan.terminals
  -- each of them is a packet that was sent to this terminal
  pub each : (t k : ℕ) (o : Origin) → slice_get (shown t) k ≡ Some o →
      IsSentTo (routes_of plan image) (script_sent plan image script) t o
  -- none is there twice
  pub once : (t u i j : ℕ) (o : Origin) → slice_get (shown t) i ≡ Some o → slice_get (shown u) j ≡ Some o → (t ≡ u) × (i ≡ j)
  -- and where no token stands anywhere at the end, each packet that was sent with a whole header that a terminal owns is
  -- there
  pub all : IsQuiet (script_end plan image script).net.network → (t : ℕ) (o : Origin) →
      IsSentTo (routes_of plan image) (script_sent plan image script) t o → (k : ℕ) × (slice_get (shown t) k ≡ Some o)

-- the theorem about packets, of what a run prints
abbrev pub PrintsSentPackets : Plan → Image → List ℕ → Type 0
PrintsSentPackets plan image script = IsUnchangedRun plan image script → PrintsPackets plan image script
