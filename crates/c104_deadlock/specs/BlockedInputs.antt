-- What blocks packets where a network stands still, whatever its channels depend on.
--     IsBlocked routes net      which inputs hold tokens, and what blocks the packets there
--     BlocksAtCycles net      what is so of every network that was accepted, started and left unchanged
use Rattle.c104_check.specs.{FirstCycles.LeadsToCycle, Routes.{IsAccepted, Routes, is_in_group, routes_of, to_port}}
use Rattle.{c104_check.specs.declared.ports.SwitchPort.SwitchPort, c104_event.specs.declared.events.Event.Event}
use Rattle.{c104_net.specs.Unchanged.{AreStartsOf, IsUnchanged}, c104_node.specs.{Nodes.Node, Starts.{IsStartedStart, start_node}}}
use Rattle.{c104_node.specs.{Traces.{part, seatless}, declared.node.NodeOf.NodeOf}, c104_plan.specs.PlanImage.Image}
use Rattle.{c104_plan.specs.declared.ports.Port.Port, c104_run.specs.{NetRecords.NetRecord, Network.Network, QuietNets.IsQuiet}}
use Rattle.{c104_run.specs.{Runs.IsRunRecord, Standstill.StandsStill}, c104_switch.specs.{Actions.Reply, Switch.Input}}
use Rattle.{c104_switch.specs.declared.phase.Phase.{Phase, TheVariants.{Fresh, Stream, Want}}, c104_token.specs.Kinds.plain_kind}
use Rattle.std.specs.Prelude.{All, List, Some, [], length, map, slice_get, true, ℕ, ◌<◌, ◌≡◌}

module _ {A : Type 0} where
  -- the tokens that an input of a node holds: none at a terminal
  abbrev pub input_tokens : ℕ → Node A → List A
  input_tokens l (NodeOf.Switch s) = part [] (λ (p : Input A). p.buffer.items) (slice_get s.inputs l)
  input_tokens l (NodeOf.Terminal t) = []

  -- those that an input of a network holds
  abbrev pub tokens_at : List (Node A) → SwitchPort → List A
  tokens_at nodes p = part [] (input_tokens p.link) (slice_get nodes p.switch)

  -- there are some
  abbrev pub HoldsTokens : List (Node A) → SwitchPort → Type 0
  HoldsTokens nodes p = 0 < length (tokens_at nodes p)

  -- where an input of a node is with its packet
  abbrev pub input_phase : ℕ → Node A → Phase (List A)
  input_phase l (NodeOf.Switch s) = part Fresh (λ (p : Input A). p.phase) (slice_get s.inputs l)
  input_phase l (NodeOf.Terminal t) = Fresh

  -- where an input of a network is with it
  abbrev pub phase_at : List (Node A) → SwitchPort → Phase (List A)
  phase_at nodes p = part Fresh (input_phase p.link) (slice_get nodes p.switch)

module _ (routes : Routes) (H : SwitchPort → Type 0) where
  -- an output of a switch leads to an input of a set
  abbrev pub LeadsInto : ℕ → ℕ → Type 0
  LeadsInto s o = (q : SwitchPort) × (routes.peer (Port.Switch s o) ≡ Some (to_port q)) × H q

  -- the packet at an input is blocked by inputs of a set: its header wants an output of a group, each of which leads to one of
  -- them; or it was given an output that does, and is behind the packet there, even if others of the group are free by now
  abbrev pub IsBlockedBy : {A : Type 0} → SwitchPort → Phase (List A) → Type 0
  IsBlockedBy p (Want header g) = (o : ℕ) → is_in_group routes p.switch g o ≡ true → LeadsInto p.switch o
  IsBlockedBy p (Stream o) = LeadsInto p.switch o
  IsBlockedBy p phase = ⊥

-- Which inputs of a network hold tokens, and what blocks the packets there.
pub record IsBlocked {A : Type 0} (routes : Routes) (net : Network A) : Type 0 where
  -- the packet at each input that holds tokens is blocked by such inputs
  pub blocked : (p : SwitchPort) → HoldsTokens net.nodes p → IsBlockedBy routes (HoldsTokens net.nodes) p (phase_at net.nodes p)
  -- and from that input dependencies lead into a cycle
  pub leads : (p : SwitchPort) → HoldsTokens net.nodes p → LeadsToCycle routes p
  -- where no input holds tokens there are none anywhere, and no packet is under way
  pub quiet : ((p : SwitchPort) → HoldsTokens net.nodes p → ⊥) → IsQuiet net

-- A network with its record whose labels the check accepts: its run began with the image's settings and with every switch
-- started, nobody changed the network since, and what terminals sent where random headers are put before packets doesn't
-- begin with a random header itself.
pub record IsAcceptedNet (image : Image) (net : NetRecord) : Type 0 where
  pub accepted : IsAccepted (routes_of net.network.plan image)
  pub set : AreStartsOf net.network.plan image net.starts
  pub started : All IsStartedStart net.starts
  -- whichever events the traces tell
  pub unchanged : (events : List (Event × Reply)) →
      IsRunRecord plain_kind net.network.plan seatless (map start_node net.starts) net.network.nodes net.traces net.count events →
      IsUnchanged (routes_of net.network.plan image) events

-- where such a network stands still, packets are blocked only at inputs from which dependencies lead into a cycle
abbrev pub BlocksAtCycles : NetRecord → Type 0
BlocksAtCycles net =
    (image : Image) → IsAcceptedNet image net → StandsStill plain_kind net.network → IsBlocked (routes_of net.network.plan image) net.network
