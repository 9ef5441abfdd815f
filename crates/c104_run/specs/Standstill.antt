-- Networks in which nothing can happen.
--     StandsStill kind net      no event of a round can be done
--     IsDeadlocked kind net      it stands still, and isn't quiet
--     IsStartedStart      where a node starts, with every switch started
use Rattle.{c104_event.specs.declared.events.Event.Event, c104_link.specs.declared.TheConstants.TOKENS_OF_A_GRANT}
use Rattle.{c104_node.specs.{Nodes.Node, declared.node.NodeOf.NodeOf}, c104_regs.specs.declared.registers.TheConstants.LINKS}
use Rattle.c104_run.specs.{Network.{Network, network_apply}, QuietNets.IsQuiet, Reasons.network_why, Rounds.round}
use Rattle.{c104_switch.specs.{Switch.{Input, Switch}, declared.actions.ReplyOf.ReplyOf}, c104_token.specs.Kinds.Kind}
use Rattle.std.specs.{List.list_all, Prelude.{All, Bool, List, Ok, Some, is_some, length, slice_get, true, ℕ, ◌≡◌, ◌≤◌}}

-- an event is answered with NotReady
abbrev pub IsUnready : {A : Type 0} → Kind A → Network A → Event → Type 0
IsUnready kind net e = (network_apply kind net e).0 ≡ Ok ReplyOf.NotReady

-- no event of a round can be done: each is answered with NotReady
abbrev pub StandsStill : {A : Type 0} → Kind A → Network A → Type 0
StandsStill kind net = All (IsUnready kind net) (round net.plan)

-- a deadlock: nothing can be done, and some token stands somewhere or some packet is under way
abbrev pub IsDeadlocked : {A : Type 0} → Kind A → Network A → Type 0
IsDeadlocked kind net = StandsStill kind net × (IsQuiet net → ⊥)

-- whether an event has a reason why it isn't ready
abbrev pub has_reason : {A : Type 0} → Network A → Event → Bool
has_reason net e = is_some (network_why net e)

-- the same of each of some events
abbrev pub have_reasons : {A : Type 0} → Network A → List Event → Bool
have_reasons net es = list_all (has_reason net) es

-- a switch that is started, with its links, and with buffers that have room for a grant
pub record IsStartedSwitch {A : Type 0} (s : Switch A) : Type 0 where
  pub started : s.started ≡ true
  pub settings : length s.settings ≡ LINKS
  pub inputs : length s.inputs ≡ LINKS
  pub outputs : length s.outputs ≡ LINKS
  pub room : (l : ℕ) (p : Input A) → slice_get s.inputs l ≡ Some p → TOKENS_OF_A_GRANT ≤ p.buffer.cap

abbrev pub IsStartedNode : {A : Type 0} → Node A → Type 0
IsStartedNode (NodeOf.Switch s) = IsStartedSwitch s
IsStartedNode (NodeOf.Terminal t) = TOKENS_OF_A_GRANT ≤ t.input.cap

-- each switch of a network is started
abbrev pub IsStarted : {A : Type 0} → Network A → Type 0
IsStarted {A} net = (k : ℕ) (n : Node A) → slice_get net.nodes k ≡ Some n → IsStartedNode n
