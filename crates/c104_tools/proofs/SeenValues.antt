-- What is read of a port that shows its switches is what the registers of the switch have.
use Rattle.c104_control.{proofs.ReadCommands.read_back, specs.{Table.{command_bytes, reply_bytes}, declared.commands.Command.Command}}
use Rattle.c104_control.specs.declared.{commands.Command.TheVariants.CPeek, faults.CommandFault.CommandFault}
use Rattle.{c104_control.specs.declared.replies.Answer.TheVariants.Value, c104_event.specs.declared.faults.EventFault.EventFault}
use Rattle.{c104_node.proofs.WireEnds.get_set_same, c104_regs.specs.declared.faults.RegFault.{RegFault, TheVariants.NoRegister}}
use Rattle.{c104_regs.specs.declared.registers.TheConstants.LINKS, c104_switch.specs.Control.{peek_answer, switch_control}}
use Rattle.{c104_switch.specs.{Control.switch_obey_if_read, Peeks.switch_peek, Switch.Switch}, c104_token.specs.declared.tokens.Token.Token}
use Rattle.c104_tools.{proofs.KnownCommands.obeyed_one, specs.{Loads.order, Outcomes.{ComesTo, GoesOn, any_value, peeks_at, step_result}}}
use Rattle.c104_tools.specs.{Ports.{Commanded, Switches}, Reads.{AreSeen, HasValue, link_addresses}, Steps.Given, Tables.table_addresses}
use Rattle.{c104_tools.specs.declared.{faults.LoadFault.LoadFault, ports.Asked.Asked}, std.proofs.Common.{Err, List, Ok, Option, Result}}
use Rattle.std.proofs.Common.{Some, [], ap, arith, get_or, refl, slice_get, slice_set, suc, sym, zero, ℕ, ◌++◌, ◌+◌, ◌<◌, ◌^◌, ◌∙◌, ◌∷◌}
use Rattle.std.{proofs.{Common.{◌≡◌, ◌≤◌}, lemmas.Nat.le_bytes_4}, specs.{Int.{from_le_bytes, to_le_bytes, w32}, List.AllByRecursion}}
use Rattle.std.specs.List.{range_with_len, zip}

-- an address that a command can name
abbrev pub IsNamed : ℕ → Type 0
IsNamed a = a < 2 ^ 16

-- a value is read back in the 32 bits of a reply
value_bytes : (w i : ℕ) → get_or (to_le_bytes w32 w) i 0 < 256
value_bytes w i = search arith

same_bytes : (w : ℕ) → reply_bytes (Value w) ≡ reply_bytes (Value (from_le_bytes w32 (to_le_bytes w32 w)))
same_bytes w = ap (λ (bytes : List ℕ). 132 ∷ bytes) (sym (le_bytes_4 (to_le_bytes w32 w) (from_le_bytes w32 (to_le_bytes w32 w)) refl (value_bytes w) refl))

abbrev value_of : Result ℕ LoadFault → ℕ
value_of (Ok v) = v
value_of (Err f) = 0

module _ (s : Switch Token) (switch a : ℕ) where
  -- what a peek tells is what the register has
  told_seen : (o : Result ℕ RegFault) → switch_peek s a ≡ o → (v : ℕ) → step_result any_value (order switch (CPeek a)) (Ok (reply_bytes (peek_answer o))) ≡ Ok v → HasValue s (a, v)
  told_seen (Ok w) at v told = search (arith, same_bytes)
  told_seen (Err NoRegister) at v told = absurd (cc told)
  told_seen (Err e) at v told = absurd (cc told)

module _ {P : Type 0} (commands : P → List Asked) (switch_count : P → ℕ) (shown : P → Option Switches) (unanswered : P → ℕ → List ℕ → EventFault → Type 0) (due : P → ℕ → List ℕ → Given → P → Type 0) (switch : ℕ) (s : Switch Token) where
  abbrev Known : P → ℕ → List ℕ → Given → P → Type 0
  Known = Commanded commands switch_count shown unanswered due

  -- values that were read one after the other of the switch
  abbrev Have : List ℕ → List ℕ → Type 0
  Have addresses values = AllByRecursion (HasValue s) (zip addresses values)

  values_seen : (addresses : List ℕ) (p q : P) (values : List ℕ) (before : Switches) → AllByRecursion IsNamed addresses → shown p ≡ Some before → slice_get before switch ≡ Some s → ComesTo Known any_value p (peeks_at switch addresses) (Ok values) q → Have addresses values
  values_seen [] p q values before named is at came = tt
  values_seen (a ∷ addresses) p q values before (low, named) is at (given, next, gave, goes) = by_given given gave goes (λ rest. values_seen addresses next q rest (slice_set before switch s) named)
    where
      control : switch_control s (command_bytes (CPeek a)) ≡ (reply_bytes (peek_answer (switch_peek s a)), s)
      control = ap (λ (r : Result Command CommandFault). (reply_bytes (switch_obey_if_read s r).0, (switch_obey_if_read s r).1)) (read_back (CPeek a) low)

      by_result : (x : Result ℕ LoadFault) → ((v : ℕ) → x ≡ Ok v → HasValue s (a, v)) → GoesOn x next (Ok values) q (λ s rest. ComesTo Known any_value s (peeks_at switch addresses) rest q) → ((rest : List ℕ) → ComesTo Known any_value next (peeks_at switch addresses) (Ok rest) q → Have addresses rest) → Have (a ∷ addresses) values
      by_result x seen goes each = search arith

      by_given : (given : Given) → Known p switch (command_bytes (CPeek a)) given next → GoesOn (step_result any_value (order switch (CPeek a)) given) next (Ok values) q (λ s rest. ComesTo Known any_value s (peeks_at switch addresses) rest q)
          → ((rest : List ℕ) → shown next ≡ Some (slice_set before switch s) → slice_get (slice_set before switch s) switch ≡ Some s → ComesTo Known any_value next (peeks_at switch addresses) (Ok rest) q → Have addresses rest) → Have (a ∷ addresses) values
      by_given (Err e) gave (failed, same) each = absurd (cc failed)
      by_given (Ok reply) gave goes each =
          let (given_so, left) = obeyed_one before (shown p) (shown next) switch (command_bytes (CPeek a)) reply s at is gave.replied.1 in
          let reply_is : reply ≡ reply_bytes (peek_answer (switch_peek s a)) = given_so ∙ ap (λ (r : List ℕ × Switch Token). r.0) control in
          by_result (step_result any_value (order switch (CPeek a)) (Ok reply))
          (λ v told. told_seen s switch a (switch_peek s a) refl v (ap (λ (bytes : List ℕ). step_result any_value (order switch (CPeek a)) (Ok bytes)) (sym reply_is) ∙ told)) goes
          (λ rest more. each rest (left ∙ ap (λ (r : List ℕ × Switch Token). Some (slice_set before switch r.1)) control) (get_set_same before switch s s at) more)

-- the addresses of a link and of a table can be named
range_named : (a n : ℕ) → a + n ≤ 65536 → AllByRecursion IsNamed (range_with_len a n)
range_named a zero fits = tt
range_named a (suc n) fits = let low : a < 65536 = omega arith in (low, range_named (a + 1) n (omega arith))

named_on : (first second : List ℕ) → AllByRecursion IsNamed first → AllByRecursion IsNamed second → AllByRecursion IsNamed (first ++ second)
named_on [] second one other = other
named_on (a ∷ first) second (low, one) other = (low, named_on first second one other)

pub link_named : (link : ℕ) → link < LINKS → AllByRecursion IsNamed (link_addresses link)
link_named link inside = search (arith, range_named)

pub table_named : (link : ℕ) → link < LINKS → AllByRecursion IsNamed (table_addresses link)
table_named link inside = search (arith, named_on, range_named)

pub are_seen : {P : Type 0} (commands : P → List Asked) (switch_count : P → ℕ) (shown : P → Option Switches) (unanswered : P → ℕ → List ℕ → EventFault → Type 0) (due : P → ℕ → List ℕ → Given → P → Type 0) (switch : ℕ) (addresses values told : List ℕ) (p q : P) → AllByRecursion IsNamed addresses → ComesTo (Commanded commands switch_count shown unanswered due) any_value p (peeks_at switch addresses) (Ok values) q → values ≡ told → AreSeen (shown p) switch addresses told
are_seen commands switch_count shown unanswered due switch addresses values told p q named came same = search (arith, values_seen)
