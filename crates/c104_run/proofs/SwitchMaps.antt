-- Switches over one kind of token and over another: commands, and what a switch tells of itself.
use Rattle.c104_control.specs.{Reading.read_command, Table.reply_bytes, declared.commands.Command.Command}
use Rattle.c104_control.specs.declared.{faults.CommandFault.CommandFault, replies.Answer.Answer}
use Rattle.{c104_interval.specs.declared.intervals.Select.Select, c104_link.specs.Buffers.{Outgoing, outgoing_clear}}
use Rattle.c104_node.specs.{MappedNodes.{map_input, map_node, map_outgoing, map_switch}, Nodes.{Node, node_control}}
use Rattle.{c104_regs.specs.declared.status.Status.Status, c104_run.proofs.TokenMaps.{if_map, map_phase}}
use Rattle.c104_switch.specs.{Commands.input_reset, Control.{switch_control, switch_obey, switch_obey_if_read}, Headers.decided_phase}
use Rattle.c104_switch.specs.{Peeks.{is_busy, link_status, registers, sides_status, status_of, statuses_from}, Phases.is_stream}
use Rattle.{c104_switch.specs.{Switch.{Input, Switch, is_owned}, Views.owner_from, declared.phase.Phase.Phase}, std.proofs.Common.List}
use Rattle.std.proofs.{Common.{Option, Result, [], ap, arith, map, option_map, refl, suc, ℕ, ◌∷◌, ◌≡◌}, lemmas.List.length-map}
use Rattle.std.proofs.lemmas.Option.{slice_get-map}

module _ {A B : Type 0} (f : A → B) where
  pub streams_map : (o : ℕ) (ph : Phase (List A)) → is_stream o (map_phase f ph) ≡ is_stream o ph
  streams_map o ph = search arith

  pub owned_map : (inputs : List (Input A)) (o : ℕ) → is_owned (map (map_input f) inputs) o ≡ is_owned inputs o
  owned_map [] o = refl
  owned_map (p ∷ inputs) o = rw (streams_map o p.phase, owned_map inputs o) refl

  pub decided_map : (b : List A) (sel : Select) → decided_phase (map f b) sel ≡ map_phase f (decided_phase b sel)
  decided_map b sel = search arith

  -- what a switch tells of itself
  pub busy_map : (ph : Phase (List A)) → is_busy (map_phase f ph) ≡ is_busy ph
  busy_map ph = search arith

  pub owner_map : (n : ℕ) (inputs : List (Input A)) (o : ℕ) → owner_from n (map (map_input f) inputs) o ≡ owner_from n inputs o
  owner_map n [] o = refl
  owner_map n (p ∷ inputs) o = rw (streams_map o p.phase, owner_map (suc n) inputs o) refl

  pub status_map : (inputs : List (Input A)) (l : ℕ) (p : Input A) (q : Outgoing A) → status_of (map (map_input f) inputs) l (map_input f p) (map_outgoing f q) ≡ status_of inputs l p q
  status_map inputs l p q = rw (length-map p.buffer.items f, length-map q.items f, owner_map 0 inputs l, busy_map p.phase, owned_map inputs l) refl

  pub sides_map : (inputs : List (Input A)) (l : ℕ) (p : Option (Input A)) (q : Option (Outgoing A)) → sides_status (map (map_input f) inputs) l (option_map (map_input f) p) (option_map (map_outgoing f) q) ≡ sides_status inputs l p q
  sides_map inputs l p q = search (arith, status_map)

  pub link_map : (S : Switch A) (l : ℕ) → link_status (map_switch f S) l ≡ link_status S l
  unfolding link_status
  link_map S l = search (arith, slice_get-map, sides_map)

  pub statuses_map : (S : Switch A) (l n : ℕ) → statuses_from (map_switch f S) l n ≡ statuses_from S l n
  statuses_map S l n = search (arith, link_map)

  pub registers_map : (S : Switch A) → registers (map_switch f S) ≡ registers S
  registers_map S = ap (λ (z : List Status). record { started = S.started; settings = S.settings; statuses = z }) (statuses_map S 0 32)

  pub reset_inputs : (l : List (Input A)) → map (input_reset {A = B}) (map (map_input f) l) ≡ map (map_input f) (map (input_reset {A = A}) l)
  reset_inputs [] = refl
  reset_inputs (p ∷ l) = ap (λ z. input_reset (map_input f p) ∷ z) (reset_inputs l)

  pub reset_outputs : (l : List (Outgoing A)) → map (outgoing_clear {A = B}) (map (map_outgoing f) l) ≡ map (map_outgoing f) (map (outgoing_clear {A = A}) l)
  reset_outputs [] = refl
  reset_outputs (q ∷ l) = ap (λ z. outgoing_clear (map_outgoing f q) ∷ z) (reset_outputs l)

  pub obeyed_map : (S : Switch A) (c : Command) → ◌≡◌ {A = Answer × Switch B} (switch_obey (map_switch f S) c) ((switch_obey S c).0, map_switch f (switch_obey S c).1)
  obeyed_map S c = search (arith, if_map, reset_inputs, reset_outputs, registers_map)

  pub read_command_map : (S : Switch A) (c : Result Command CommandFault) → ◌≡◌ {A = Answer × Switch B} (switch_obey_if_read (map_switch f S) c) ((switch_obey_if_read S c).0, map_switch f (switch_obey_if_read S c).1)
  read_command_map S c = search (arith, obeyed_map)

  pub control_map : (S : Switch A) (bytes : List ℕ) → ◌≡◌ {A = List ℕ × Switch B} (switch_control (map_switch f S) bytes) ((switch_control S bytes).0, map_switch f (switch_control S bytes).1)
  control_map S bytes = ap (λ (z : Answer × Switch B). (reply_bytes z.0, z.1)) (read_command_map S (read_command bytes))

  pub control_node_map : (bytes : List ℕ) (n : Node A) → node_control bytes (map_node f n) ≡ option_map (λ (z : List ℕ × Node A). (z.0, map_node f z.1)) (node_control bytes n)
  control_node_map bytes n = search (arith, control_map)
