-- What a reply tells is what the table of commands has it say.
use Rattle.c104_control.specs.{Table.{IsAnswer, IsAnswerTo, command_format, device_id, reply_bytes}, declared.commands.Command.Command}
use Rattle.c104_control.specs.declared.{commands.Command.TheVariants.{CPeek, CPoke, Identify, Reset, Start}, replies.Answer.Answer}
use Rattle.{c104_control.specs.declared.replies.Answer.TheVariants.{Identity, Refused}, c104_tools.specs.Steps.{IsMeant, judged}}
use Rattle.c104_tools.specs.{Steps.{may_refuse, named_address, told_value, value_or_bad}, declared.faults.LoadFault.LoadFault}
use Rattle.std.proofs.Common.{Bool, Err, List, None, Option, Result, Some, ap, arith, false, if◌then◌else◌, inl, refl, subst, sym, true, ℕ}
use Rattle.std.proofs.{Common.{◌==◌, ◌↔◌, ◌∙◌, ◌≡◌, ◌≢◌}, lemmas.Bool.Decides.nat_tests}

-- an answer by which a command was done
identity_by : (n v : ℕ) (is : Bool) → (n == device_id) ≡ is → (if is then Some 0 else None) ≡ Some v → Identity n ≡ Identity device_id
identity_by n v is same told = search (arith, nat_tests)

done_by : (c : Command) (a : Answer) (v : ℕ) → told_value c a ≡ Some v → a ≡ (command_format c).answer v
done_by c a v told = search (arith, identity_by)

-- what a command that was done is answered tells something, and is no refusal
told_done : (c : Command) (v : ℕ) → told_value c ((command_format c).answer v) ≢ None
told_done Start v differs = cc
told_done c v differs = cc

not_refused : (c : Command) (v n : ℕ) → (command_format c).answer v ≢ Refused n
not_refused Start v n differs = cc
not_refused c v n differs = cc

-- an answer to a command is an answer
one_of_all : (c : Command) (a : Answer) → IsAnswerTo c a → IsAnswer a
one_of_all Start a is = inl (Start, tt, is)
one_of_all Reset a is = inl (Reset, tt, is)
one_of_all Identify a is = inl (Identify, tt, is)
one_of_all (CPeek p) a is = inl (CPeek 0, omega arith, is)
one_of_all (CPoke p w) a is = inl (CPoke 0 0, (omega arith, omega arith), is)

module _ (switch : ℕ) (c : Command) (reply : List ℕ) (o : Option Answer) (table : (a : Answer) → (o ≡ Some a) ↔ (IsAnswer a × (reply_bytes a ≡ reply))) where
  -- no other answer has these bytes
  one_answer : (a b : Answer) → o ≡ Some a → IsAnswerTo c b → reply_bytes b ≡ reply → b ≡ a
  one_answer a b is answers same = let other = (table b).1 (one_of_all c b answers, same) in cc

  -- an answer other than a refusal
  answered_so : (a : Answer) → ((n : ℕ) → a ≢ Refused n) → o ≡ Some a → (told : Option ℕ) → told_value c a ≡ told → IsMeant switch c reply (value_or_bad switch told)
  answered_so a may is (Some v) told = sym ((table a).0 is).1 ∙ ap reply_bytes (done_by c a v told)
  answered_so a may is None told = (refl, λ b answers same. none b answers (one_answer a b is answers same))
    where
      none : (b : Answer) → IsAnswerTo c b → b ≡ a → ⊥
      none b answers same = search (arith, told_done)

  refused_so : (n : ℕ) → o ≡ Some (Refused n) → (may : Bool) → may_refuse c n ≡ may → IsMeant switch c reply (if may then Err (LoadFault.Refused switch (named_address c) n) else Err (LoadFault.BadReply switch))
  refused_so n is true may = (refl, refl, may, sym ((table (Refused n)).0 is).1)
  refused_so n is false may = (refl, λ b answers same. none b answers (one_answer (Refused n) b is answers same))
    where
      none : (b : Answer) → IsAnswerTo c b → b ≡ Refused n → ⊥
      none b answers same = search (arith, not_refused)

  by_answer : (p : Option Answer) → o ≡ p → IsMeant switch c reply (judged switch c p)
  by_answer None is = (refl, λ b answers same. (let there = (table b).1 (one_of_all c b answers, same) in cc))
  by_answer (Some (Refused n)) is = refused_so n is (may_refuse c n) refl
  by_answer (Some a) is = answered_so a (λ n same. cc) is (told_value c a) refl

  pub is_meant : (result : Result ℕ LoadFault) → result ≡ judged switch c o → IsMeant switch c reply result
  is_meant result is = subst (IsMeant switch c reply) (sym is) (by_answer o refl)
