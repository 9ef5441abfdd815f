-- What a storm writes of the packets that its script sent: the theorem about packets, of the text that is written.
--     SendsWell plan image script      the premises
--     EndsWith plan image script text      what follows of the text behind the answers
use Rattle.{c104_check.specs.Routes.{IsAccepted, Routes, routes_of}, c104_describe.specs.PlanText.read_description}
use Rattle.{c104_event.specs.declared.faults.EventFault.EventFault, c104_net.specs.{Deliveries.cut_at, Unchanged.MayBeSent}}
use Rattle.{c104_node.specs.declared.origins.Origin.Origin, c104_plan.specs.{PlanImage.Image, Plans.Plan, declared.ports.Port.Port}}
use Rattle.c104_run.specs.{NetRecords.{NetRecord, is_done}, RecordedRuns.record_apply}
use Rattle.{c104_script.specs.declared.{faults.LineFault.LineFault, places.Request.Request}, c104_session.specs.PrintedPackets.IsSentTo}
use Rattle.{c104_session.specs.PrintedPackets.event_sends, c104_setup.specs.Setups.ComesTo, c104_storm.specs.Arrivals.{AreSorted, Arrived}}
use Rattle.c104_storm.specs.{Arrivals.arrived_line, Sends.{new_sending, read_send_line, sending_answer}, Storms.MayWrite}
use Rattle.c104_storm.specs.{Texts.{audited_line, not_quiet_line, stop_line}, Workers.Team, declared.sends.Sending.Sending}
use Rattle.{c104_stream.specs.ScriptLines.{is_long, script_lines}, c104_token.specs.{Packets.packet_tokens, declared.packets.Packet.Packet}}
use Rattle.std.specs.{List.AllByRecursion, Prelude.{Bool, List, Ok, Option, Result, Some, [], drop, false, flat_map, if◌then◌else◌, length}}
use Rattle.std.specs.Prelude.{slice_get, suc, zero, ℕ, ◌++◌, ◌∷◌, ◌≡◌, ◌⊎◌}

-- What a script sends

-- the packet that a line sent, with its terminal, by what was read of it: the one that is asked to be sent, where that was done
abbrev pub read_sends : NetRecord → Result (Option Request) LineFault → List (ℕ × Packet)
read_sends net (Ok (Some (Request.Asked e))) = if is_done (record_apply net e).0 then event_sends e else []
read_sends net asked = []

-- the packets that lines sent, in order
abbrev pub lines_sent : Sending → List (List ℕ) → List (ℕ × Packet)
lines_sent sending [] = []
lines_sent sending (line ∷ more) =
    read_sends sending.net (read_send_line sending.net.network.plan sending.image line) ++ lines_sent (sending_answer sending line).1 more

-- the packets that a script sent, each with its terminal, in order
abbrev pub script_sent : Plan → Image → List ℕ → List (ℕ × Packet)
script_sent plan image script = lines_sent (new_sending plan image) (script_lines script)

-- a packet with its terminal may be sent
abbrev pub MaySend : Routes → ℕ × Packet → Type 0
MaySend routes s = MayBeSent routes s.0 s.1

-- the premises: the labels are accepted, and the script, which is no longer than it may be, sent only what may be sent where
-- random headers are put
pub record SendsWell (plan : Plan) (image : Image) (script : List ℕ) : Type 0 where
  pub accepted : IsAccepted (routes_of plan image)
  pub short : is_long script ≡ false
  pub may : AllByRecursion (MaySend (routes_of plan image)) (script_sent plan image script)

-- What is written

-- the lines of what is shown of the first n terminals, terminal by terminal
abbrev pub shown_text : Plan → (ℕ → List Arrived) → ℕ → List ℕ
shown_text plan shown zero = []
shown_text plan shown (suc n) = shown_text plan shown n ++ flat_map (arrived_line plan n) (shown n)

-- what arrived at terminal t is a packet that was sent to it, whole, but for the header where the link to the terminal deletes it
abbrev pub IsWholeAt : Routes → List (ℕ × Packet) → ℕ → Arrived → Type 0
IsWholeAt routes sends t arrived = (sent : IsSentTo routes sends t arrived.origin)
    × (packet_tokens arrived.packet ≡ drop (cut_at routes (routes.peer (Port.Terminal t))) (packet_tokens sent.0))

-- a text says that all is one run, and then are lines of packets that were sent, for each terminal in order
pub record WritesPackets (plan : Plan) (routes : Routes) (sends : List (ℕ × Packet)) (text : List ℕ) : Type 0 where
  pub shown : ℕ → List Arrived
  pub is : text ≡ audited_line ++ shown_text plan shown (length plan.terminals)
  -- each of them is a packet that was sent to this terminal
  pub each : (t k : ℕ) (a : Arrived) → slice_get (shown t) k ≡ Some a → IsWholeAt routes sends t a
  -- none is there twice
  pub once : (t u i j : ℕ) (a b : Arrived) → slice_get (shown t) i ≡ Some a → slice_get (shown u) j ≡ Some b →
      a.origin ≡ b.origin → (t ≡ u) × (i ≡ j)
  -- each packet that was sent with a whole header that a terminal owns is there
  pub all : (t : ℕ) (o : Origin) → IsSentTo routes sends t o → (k : ℕ) × (a : Arrived) × (slice_get (shown t) k ≡ Some a) × (a.origin ≡ o)
  -- and those of a terminal stand by their senders and numbers
  pub rising : (t : ℕ) → AreSorted (shown t)

-- the end of a storm: it isn't quiet, or a worker stopped, or all packets are written
abbrev pub EndsWith : Plan → Image → List ℕ → List ℕ → Type 0
EndsWith plan image script text =
    (text ≡ not_quiet_line)
    ⊎ ((worker : ℕ) × (kind : EventFault) × (text ≡ stop_line worker kind))
    ⊎ WritesPackets plan (routes_of plan image) (script_sent plan image script) text

-- the theorem about packets, of whatever a storm over the network of a plan with an image writes behind the answers
unfoldable pub WritesSentPackets : Team → Plan → Image → Type 0
WritesSentPackets team plan image = (script text : List ℕ) (refused : Bool) (may : MayWrite team plan image script text refused) →
    SendsWell plan image script → EndsWith plan image script may.end

-- the same of a description that comes to such a network
unfoldable pub WritesPacketsOf : Team → List ℕ → Type 0
WritesPacketsOf team description = (plan : Plan) (image : Image) → ComesTo (read_description description) (Ok (plan, image)) →
    WritesSentPackets team plan image
