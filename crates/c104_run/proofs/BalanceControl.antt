-- A control command keeps what each input has granted and what credit each output has.
use Rattle.c104_control.specs.{Reading.read_command, declared.commands.Command.{Command, TheVariants.{CPeek, CPoke, Identify, Reset}}}
use Rattle.c104_control.specs.declared.{commands.Command.TheVariants.Start, faults.CommandFault.CommandFault, replies.Answer.Answer}
use Rattle.c104_control.specs.declared.replies.{Answer.TheVariants.{Refused, Started}, TheConstants.ALREADY_STARTED}
use Rattle.{c104_link.specs.{Buffers.outgoing_clear, Steps.◌>>=◌}, c104_node.specs.declared.node.NodeOf.TheVariants.Switch}
use Rattle.{c104_run.proofs.{BalancePlaces.Rests, BalanceTurns.{credit_seen, granted_seen}}, c104_switch.specs.Commands.input_reset}
use Rattle.{c104_switch.specs.{Commands.switch_reset, Control.{switch_control, switch_obey, switch_obey_if_read}}, std.proofs.Common.Bool}
use Rattle.std.proofs.Common.{Err, List, Ok, Option, Result, [], arith, if◌then◌else◌, map, refl, slice_get, suc, true, zero, ℕ, ◌∷◌, ◌≡◌}
use Rattle.c104_switch.specs.Switch as switch

-- a number that each element of a list keeps
seen_of_map : {X : Type 0} (f : X → X) (seen : X → Option ℕ) → ((x : X) → seen (f x) ≡ seen x) → (xs : List X) (k : ℕ) → (slice_get (map f xs) k >>= seen) ≡ (slice_get xs k >>= seen)
seen_of_map f seen keeps [] k = refl
seen_of_map f seen keeps (x ∷ xs) zero = keeps x
seen_of_map f seen keeps (x ∷ xs) (suc k) = seen_of_map f seen keeps xs k

module _ {A : Type 0} (s : switch.Switch A) where
  -- the same inputs and outputs
  same_sides : (started : Bool) (settings : _) → Rests (Switch s) (Switch (record s { started = started; settings = settings }))
  same_sides started settings = record { in_place = refl; credit = λ k. refl; granted = λ k. refl }

  -- a reset keeps credit and what was granted
  reset_rests : Rests (Switch s) (Switch (switch_reset s))
  reset_rests = record {
    in_place = refl;
    credit = seen_of_map outgoing_clear credit_seen (λ q. refl) s.outputs;
    granted = seen_of_map input_reset granted_seen (λ p. refl) s.inputs;
  }

  -- a start changes the sides of no link
  start_rests : (b : Bool) (again first : Answer) → Rests (Switch s) (Switch (if◌then◌else◌ {A = Answer × switch.Switch A} b (again, s) (first, record s { started = true })).1)
  start_rests b again first = search (arith, same_sides)

  obeyed_rests : (c : Command) → Rests (Switch s) (Switch (switch_obey s c).1)
  obeyed_rests Start = start_rests s.started (Refused ALREADY_STARTED) Started
  obeyed_rests Reset = reset_rests
  obeyed_rests Identify = same_sides s.started s.settings
  obeyed_rests (CPeek a) = same_sides s.started s.settings
  obeyed_rests (CPoke a v) = same_sides s.started _

  read_rests : (c : Result Command CommandFault) → Rests (Switch s) (Switch (switch_obey_if_read s c).1)
  read_rests (Ok c) = obeyed_rests c
  read_rests (Err e) = same_sides s.started s.settings

  pub control_keeps : (bytes : List ℕ) → Rests (Switch s) (Switch (switch_control s bytes).1)
  control_keeps bytes = read_rests (read_command bytes)
