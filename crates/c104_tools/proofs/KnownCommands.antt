-- What is known of each command that is asked through a port, of all of them.
use Rattle.{c104_control.specs.Table.command_bytes, c104_event.specs.declared.faults.EventFault.EventFault}
use Rattle.{c104_switch.specs.{Control.switch_control, Switch.Switch}, c104_token.specs.declared.tokens.Token.Token}
use Rattle.c104_tools.{proofs.{Asking.Read, LoadSteps.{IsReplied, StepsBelow, judged_replied}}, specs.Loaded.IsLeftBySwitch}
use Rattle.c104_tools.specs.{Loaded.IsUnansweredFault, Outcomes.{ComesTo, GoesOn, Judge, Outcome, and_then, any_value, nothing_made}}
use Rattle.c104_tools.specs.{Outcomes.{step_result, with_value}, Ports.{Commanded, Obeyed, Switches, command_asked}, Steps.{Given, Step}}
use Rattle.{c104_tools.specs.declared.{faults.LoadFault.LoadFault, ports.Asked.Asked}, std.proofs.Common.{Err, List, MatchResult, Ok}}
use Rattle.std.proofs.Common.{Option, Result, Some, [], ap, arith, slice_get, slice_set, subst, sym, ℕ, ◌++◌, ◌∙◌, ◌∷◌, ◌≡◌}

-- these switches do steps in order, each as it is to be done, and those are the switches after it
abbrev pub AreDone : Switches → List Step → Switches → Type 0
AreDone before [] after = before ≡ after
AreDone before (t ∷ steps) after =
    (s : Switch Token) × (slice_get before t.switch ≡ Some s)
    × (step_result any_value t (Ok (switch_control s (command_bytes t.command)).0) ≡ Ok 0)
    × AreDone (slice_set before t.switch (switch_control s (command_bytes t.command)).1) steps after

pub done_on : (before : Switches) (first second : List Step) (middle after : Switches) → AreDone before first middle → AreDone middle second after → AreDone before (first ++ second) after
done_on before [] second middle after one other = subst (λ ss. AreDone ss second after) (sym one) other
done_on before (t ∷ first) second middle after (s, at, told, rest) other = (s, at, told, done_on (slice_set before t.switch (switch_control s (command_bytes t.command)).1) first second middle after rest other)

-- one switch stands at a place
one_there : (before : Switches) (k : ℕ) (s t : Switch Token) → slice_get before k ≡ Some s → slice_get before k ≡ Some t → s ≡ t
one_there before k s t one other = cc

-- a command that was obeyed, by the switch that stands there
pub obeyed_one : (before : Switches) (first after : Option Switches) (k : ℕ) (command reply : List ℕ) (s : Switch Token) → slice_get before k ≡ Some s → first ≡ Some before → Obeyed first (command_asked k command reply ∷ []) after → (reply ≡ (switch_control s command).0) × (after ≡ Some (slice_set before k (switch_control s command).1))
obeyed_one before first after k command reply s there is obeyed = search (arith, one_there)

-- what is said of values and of faults, however many values were read
of_more : (A : Type 0) (B : LoadFault → Type 0) (v : ℕ) (rest read : Read) → read ≡ with_value v rest → MatchResult rest (λ values. A) B → MatchResult read (λ values. A) B
of_more A B v rest read is known = search arith

of_made : (A : Type 0) (B : LoadFault → Type 0) (read : Read) (result : Result (Unit {0}) LoadFault) → result ≡ and_then read nothing_made → MatchResult read (λ values. A) B → MatchResult result (λ u. A) B
of_made A B read result is known = search arith

module _ {P : Type 0} (commands : P → List Asked) (switch_count : P → ℕ) (shown : P → Option Switches) (unanswered : P → ℕ → List ℕ → EventFault → Type 0) (due : P → ℕ → List ℕ → Given → P → Type 0) where
  abbrev Known : P → ℕ → List ℕ → Given → P → Type 0
  Known = Commanded commands switch_count shown unanswered due

  -- what may be given for each
  module _ (judge : Judge) where
    comes_due : (steps : List Step) (p q : P) (read : Read) → ComesTo Known judge p steps read q → ComesTo due judge p steps read q
    comes_due [] p q read came = came
    comes_due (t ∷ steps) p q read (given, next, gave, goes) = (given, next, gave.came, by_result (step_result judge t given) goes (comes_due steps next q))
      where
        by_result : (x : Result ℕ LoadFault) → GoesOn x next read q (λ s rest. ComesTo Known judge s steps rest q) → ((rest : Read) → ComesTo Known judge next steps rest q → ComesTo due judge next steps rest q) → GoesOn x next read q (λ s rest. ComesTo due judge s steps rest q)
        by_result x failed each = search arith

    pub outcome_due : {X : Type 0} (make : List ℕ → Result X LoadFault) (p q : P) (steps : List Step) (result : Result X LoadFault) → Outcome Known judge make p steps result q → Outcome due judge make p steps result q
    outcome_due make p q steps result out = record { read = out.read; came = comes_due steps p q out.read out.came; made = out.made }

  -- the switch of one that the port leaves unanswered
  left_fault : (n : ℕ) (f : LoadFault) → IsReplied {X = ℕ} (Err f) → IsLeftBySwitch switch_count unanswered n f
  left_fault n f replied = search arith

  module _ (n : ℕ) where
    abbrev Left : Read → Type 0
    Left read = MatchResult read (λ values. Unit {0}) (IsLeftBySwitch switch_count unanswered n)

    left_by : (steps : List Step) (p q : P) (read : Read) → StepsBelow n steps → switch_count p ≡ n → ComesTo Known any_value p steps read q → Left read
    left_by [] p q read below many (is, same) = subst Left (sym is) tt
    left_by (t ∷ steps) p q read below many (given, next, gave, goes) = by_given given gave goes (left_by steps next q)
      where
        by_result : (x : Result ℕ LoadFault) → IsReplied x → GoesOn x next read q (λ s rest. ComesTo Known any_value s steps rest q) → ((rest : Read) → ComesTo Known any_value next steps rest q → Left rest) → Left read
        by_result x replied goes each = search (arith, of_more, left_fault)

        by_given : (given : Given) → Known p t.switch (command_bytes t.command) given next → GoesOn (step_result any_value t given) next read q (λ s rest. ComesTo Known any_value s steps rest q) → ((rest : Read) → StepsBelow n steps → switch_count next ≡ n → ComesTo Known any_value next steps rest q → Left rest) → Left read
        by_given given gave goes each = search (arith, by_result, judged_replied)

    pub left_open : (steps : List Step) (p q : P) (result : Result (Unit {0}) LoadFault) → StepsBelow n steps → switch_count p ≡ n → Outcome Known any_value nothing_made p steps result q → MatchResult result (λ u. Unit {0}) (IsLeftBySwitch switch_count unanswered n)
    left_open steps p q result below many out = of_made (Unit {0}) (IsLeftBySwitch switch_count unanswered n) out.read result out.made (left_by steps p q out.read below many out.came)

  -- the switches that are shown, where they do the steps
  module _ (end : Switches) where
    abbrev Shown : P → Read → Type 0
    Shown q read = MatchResult read (λ values. shown q ≡ Some end) IsUnansweredFault

    done_shown : (steps : List Step) (p q : P) (read : Read) (before : Switches) → AreDone before steps end → shown p ≡ Some before → ComesTo Known any_value p steps read q → Shown q read
    done_shown [] p q read before done at (is, same) = subst (Shown q) (sym is) (ap shown same ∙ at ∙ ap Some done)
    done_shown (t ∷ steps) p q read before (s, there, told, done) at (given, next, gave, goes) = by_given given gave goes (λ rest. done_shown steps next q rest (slice_set before t.switch (switch_control s (command_bytes t.command)).1) done)
      where
        by_given : (given : Given) → Known p t.switch (command_bytes t.command) given next → GoesOn (step_result any_value t given) next read q (λ s rest. ComesTo Known any_value s steps rest q)
            → ((rest : Read) → shown next ≡ Some (slice_set before t.switch (switch_control s (command_bytes t.command)).1) → ComesTo Known any_value next steps rest q → Shown q rest) → Shown q read
        by_given given gave goes each = search (arith, obeyed_one, of_more)

    pub outcome_shown : (steps : List Step) (p q : P) (result : Result (Unit {0}) LoadFault) (before : Switches) → AreDone before steps end → shown p ≡ Some before → Outcome Known any_value nothing_made p steps result q → MatchResult result (λ u. shown q ≡ Some end) IsUnansweredFault
    outcome_shown steps p q result before done at out = of_made (shown q ≡ Some end) IsUnansweredFault out.read result out.made (done_shown steps p q out.read before done at out.came)
