-- The events of a part that its node may begin, as their numbers in the part. An event may begin at a node where the node's
-- own act in it is ready, whatever stands at the far end of a wire.
use Rattle.{c104_crossbar.specs.Groups.has_bit, c104_event.specs.declared.events.Event.Event, c104_node.specs.{Acts.node_act, Nodes.Node}}
use Rattle.c104_node.specs.{Nodes.node_claim, PortActs.near_act, PortParts.may_act, declared.acts.ActOf.ActOf}
use Rattle.c104_node.specs.declared.{crossings.Crossing.TheVariants.{Grant, Token}, node.NodeOf.NodeOf, port_part.PortPart.PortPart}
use Rattle.{c104_run.specs.Rounds.link_numbers, c104_token.specs.Kinds.Kind, c104_turns.specs.Working.PartView}
use Rattle.c104_turns.specs.declared.parts.Stage.{Stage, TheVariants.{Claims, Crossings, Turns}}
use Rattle.std.specs.Prelude.{Bool, List, [], drop, false, filter, if◌then◌else◌, is_some, length, suc, take, ℕ, ◌-◌, ◌<◌, ◌∷◌, ◌≡◌}

-- the numbers of those that pass a test, the first of all having this number
abbrev pub numbers_in : {X : Type 0} → (X → Bool) → ℕ → List X → List ℕ
numbers_in q k [] = []
numbers_in q k (x ∷ xs) = if q x then k ∷ numbers_in q (suc k) xs else numbers_in q (suc k) xs

-- the links in a set, in rising order
abbrev pub links_in : ℕ → List ℕ
links_in set = filter (has_bit set) link_numbers

-- how many events come before a stage's
abbrev pub stage_first : PartView → Stage → ℕ
stage_first part Crossings = 0
stage_first part Turns = part.turns
stage_first part Claims = part.claims

-- and before those that come after it
abbrev pub stage_end : PartView → Stage → ℕ
stage_end part Crossings = part.turns
stage_end part Turns = part.claims
stage_end part Claims = length part.events

-- how many events a stage has, and which they are
abbrev pub stage_count : PartView → Stage → ℕ
stage_count part stage = stage_end part stage - stage_first part stage

abbrev pub stage_events : PartView → Stage → List Event
stage_events part stage = take (stage_count part stage) (drop (stage_first part stage) part.events)

-- a node is of the kind that a part is for: a switch has claims, and a terminal has none
abbrev pub IsOfKind : {A : Type 0} → PartView → Node A → Type 0
IsOfKind part (NodeOf.Switch s) = part.claims < length part.events
IsOfKind part (NodeOf.Terminal t) = part.claims ≡ length part.events

module _ {A : Type 0} (kind : Kind A) (n : Node A) where
  -- whether an event of a round may begin at a node: the act at the near end of a wire is ready, the input of a turn has a
  -- token and wants no output, which doesn't depend on the word, the claim can be made, or a token can arrive
  abbrev pub may_begin : Event → Bool
  may_begin (Event.Credit p) = is_some (node_act kind 0 (near_act Grant p) n)
  may_begin (Event.Cross p) = is_some (node_act kind 0 (near_act Token p) n)
  may_begin (Event.Input s l word) = may_act kind PortPart.Turn l n
  may_begin (Event.Claim s i o) = is_some (node_claim i o n)
  may_begin (Event.Drain t) = is_some (node_act kind 0 ActOf.Drain n)
  may_begin (Event.Control s bytes) = false
  may_begin (Event.Send t packet) = false

  -- the numbers of the events of a stage that may begin there, in rising order
  abbrev pub ready_numbers : PartView → Stage → List ℕ
  ready_numbers part stage = numbers_in may_begin (stage_first part stage) (stage_events part stage)
