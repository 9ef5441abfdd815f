-- Whether an input is ready for its turn doesn't depend on the word that it is handed.
use Rattle.{c104_event.specs.declared.events.Event.Event, c104_link.specs.Buffers.Outgoing, c104_node.specs.Acts.{node_act, nodes_act}}
use Rattle.{c104_node.specs.{Nodes.Node, declared.{acts.ActOf.ActOf, node.NodeOf.NodeOf}}, c104_plan.specs.Plans.Plan}
use Rattle.{c104_regs.specs.declared.settings.Settings.Settings, c104_run.specs.HandedWords.{Words, all_worded, round_with, word_at}}
use Rattle.c104_run.specs.{HandedWords.worded, Network.{Network, network_apply, network_step}, RoundParts.{AreIdle, EachIdle, IsNext}}
use Rattle.{c104_run.specs.Rounds.round, c104_switch.specs.{Switch.{Input, Switch}, Turns.{input_turn, switch_input, turn_by_phase}}}
use Rattle.c104_switch.specs.declared.{actions.{ActionOf.ActionOf, ReplyOf.ReplyOf}, phase.Phase.{Phase, TheVariants.{Fresh, Head}}}
use Rattle.{c104_switch.specs.declared.phase.Phase.TheVariants.{Sinking, Stream, Want}, c104_token.specs.Kinds.Kind, std.proofs.Common.List}
use Rattle.std.proofs.{Common.{None, Ok, Option, [], arith, false, is_some, refl, ℕ, ◌∷◌, ◌≡◌}, lemmas.List.map-append}
use Rattle.std.specs.List.{flat_map}

module _ {A : Type 0} (kind : Kind A) (v w : ℕ) where
  phase_word : (s : Settings) (p : Input A) (qs : List (Outgoing A)) (phase : Phase (List A)) (x : A) → turn_by_phase kind s v p qs phase x ≡ None → turn_by_phase kind s w p qs phase x ≡ None
  phase_word s p qs Fresh x is = search arith
  phase_word s p qs (Head b) x is = absurd (cc)
  phase_word s p qs (Want b g) x is = is
  phase_word s p qs (Stream o) x is = is
  phase_word s p qs Sinking x is = absurd (cc)

  turn_word : (s : Settings) (p : Input A) (qs : List (Outgoing A)) → input_turn kind s v p qs ≡ None → input_turn kind s w p qs ≡ None
  turn_word s p qs is = search (arith, phase_word)

  pub switch_word : (s : Switch A) (l : ℕ) → switch_input kind s l v ≡ None → switch_input kind s l w ≡ None
  switch_word s l is = search (arith, turn_word)

  node_word : (number l : ℕ) (n : Node A) → node_act kind number (ActOf.Step (ActionOf.Input l v)) n ≡ None → node_act kind number (ActOf.Step (ActionOf.Input l w)) n ≡ None
  node_word number l (NodeOf.Switch s) is = search (arith, switch_word)
  node_word number l (NodeOf.Terminal t) is = is

  pub unready_word : (number other l : ℕ) (n : Node A) → is_some (node_act kind number (ActOf.Step (ActionOf.Input l v)) n) ≡ false → is_some (node_act kind other (ActOf.Step (ActionOf.Input l w)) n) ≡ false
  unready_word number other l (NodeOf.Switch s) is = search (arith, switch_word)
  unready_word number other l (NodeOf.Terminal t) is = refl

  nodes_word : (nodes : List (Node A)) (k number l : ℕ) → nodes_act kind nodes k number (ActOf.Step (ActionOf.Input l v)) ≡ None → nodes_act kind nodes k number (ActOf.Step (ActionOf.Input l w)) ≡ None
  nodes_word nodes k number l is = search (arith, node_word)

  step_word : (net : Network A) (s l : ℕ) → network_step kind net (Event.Input s l v) ≡ None → network_step kind net (Event.Input s l w) ≡ None
  step_word net s l is = search (arith, nodes_word)

  -- a turn that isn't ready
  pub apply_word : (net : Network A) (s l : ℕ) → network_apply kind net (Event.Input s l v) ≡ (Ok ReplyOf.NotReady, net) → network_apply kind net (Event.Input s l w) ≡ (Ok ReplyOf.NotReady, net)
  apply_word net s l is = search (arith, step_word)

module _ {A : Type 0} (kind : Kind A) (net : Network A) (words : Words) where
  pub event_word : (e : Event) → network_apply kind net e ≡ (Ok ReplyOf.NotReady, net) → network_apply kind net (worded words e) ≡ (Ok ReplyOf.NotReady, net)
  event_word (Event.Cross p) is = is
  event_word (Event.Credit p) is = is
  event_word (Event.Input s l w) is = apply_word kind w (word_at words s l) net s l is
  event_word (Event.Claim s i o) is = is
  event_word (Event.Control s bytes) is = is
  event_word (Event.Send t packet) is = is
  event_word (Event.Drain t) is = is

  each_word : (events : List Event) → EachIdle kind net events → EachIdle kind net (all_worded words events)
  each_word [] idle = idle
  each_word (e ∷ events) idle = (event_word e idle.0, each_word events idle.1)

  -- so it is of events that are handed words
  pub idle_worded : (events : List Event) → AreIdle kind net events → AreIdle kind net (all_worded words events)
  idle_worded events idle = record { each = each_word events idle.each }

  pub next_worded : (part : ℕ → List Event) (numbers : List ℕ) (n from : ℕ) (found : Option ℕ) → IsNext kind net part numbers n from found → IsNext kind net (λ k. all_worded words (part k)) numbers n from found
  next_worded part numbers n from found next = record {
    turn = next.turn;
    passed = λ k above below. idle_worded (part k) (next.passed k above below);
    found = next.found;
  }

-- what is handed to all parts is handed to each
pub flat_worded : (words : Words) (part : ℕ → List Event) (numbers : List ℕ) → flat_map (λ k. all_worded words (part k)) numbers ≡ all_worded words (flat_map part numbers)
flat_worded words part [] = refl
flat_worded words part (n ∷ numbers) = search (arith, map-append, flat_worded words part numbers)

-- an event has the word that it was handed last
pub worded_again : (words other : Words) (e : Event) → worded words (worded other e) ≡ worded words e
worded_again words other (Event.Cross p) = refl
worded_again words other (Event.Credit p) = refl
worded_again words other (Event.Input s l word) = refl
worded_again words other (Event.Claim s i o) = refl
worded_again words other (Event.Control s bytes) = refl
worded_again words other (Event.Send t packet) = refl
worded_again words other (Event.Drain t) = refl

all_again : (words other : Words) (events : List Event) → all_worded words (all_worded other events) ≡ all_worded words events
all_again words other [] = refl
all_again words other (e ∷ events) = search (arith, worded_again, all_again words other events)

-- the same of a round
pub round_again : (words other : Words) (plan : Plan) → all_worded words (round_with other plan) ≡ round_with words plan
round_again words other plan = all_again words other (round plan)
