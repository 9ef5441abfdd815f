-- What comes of steps on a network with its record is what its record tells, unless memory runs out.
use Rattle.{c104_control.specs.Table.command_bytes, c104_event.specs.declared.{events.Event.Event, faults.EventFault.EventFault}}
use Rattle.{c104_interval.specs.declared.intervals.Table.Table, c104_plan.specs.PlanImage.Image, c104_run.specs.NetRecords.NetRecord}
use Rattle.{c104_run.specs.RecordedRuns.AnswersRecord, c104_switch.specs.Actions.Reply, c104_tools.specs.Loads.{load_list, pokes}}
use Rattle.c104_tools.specs.{Loads.verify_list, NetCommands.net_switch_count, NetOutcomes.{EndsSo, MayGive, control_given, net_command}}
use Rattle.c104_tools.specs.{NetOutcomes.{net_link, net_load, net_outcome, net_poke, net_table, net_verify}, Outcomes.{ComesTo, Given}}
use Rattle.c104_tools.specs.Outcomes.{GoesOn, Judge, Outcome, and_then, any_value, due_value_only, link_made, link_peeks, nothing_made}
use Rattle.c104_tools.specs.{Outcomes.{run_steps, table_made, table_peeks, unless_failed, with_value}, Steps.Step}
use Rattle.{c104_tools.specs.declared.{faults.LoadFault.LoadFault, reading.LinkNumbers.LinkNumbers}, std.proofs.Common.{Bool, Err, List}}
use Rattle.std.proofs.Common.{Ok, Result, [], ap, arith, false, if◌then◌else◌, inl, length, nat_eq, nat_lt, true, ℕ, ◌<◌, ◌↔◌, ◌∙◌, ◌∷◌}
use Rattle.std.proofs.{Common.{◌≡◌, ◌≢◌, ◌≤◌}, lemmas.Bool.Decides.nat_tests}

-- what a network may give for a command, by what its event is answered
pub may_give : (r after : NetRecord) (k : ℕ) (bytes : List ℕ) (answer : Result Reply EventFault) (given : Given) → control_given answer ≡ given → AnswersRecord r (Event.Control k bytes) answer after → MayGive r k bytes given after
may_give r after k bytes answer given is due = search arith

abbrev Read : Type 0
Read = Result (List ℕ) LoadFault

module _ (judge : Judge) where
  -- one step, and those after it
  module _ (next after : NetRecord) (more : NetRecord → Read → Type 0) (f : NetRecord → Read × NetRecord) (each : (rest : Read) → more next rest → EndsSo (f next) rest after) where
    value_follows : (v : ℕ) (rest result : Read) → result ≡ with_value v rest → EndsSo (f next) rest after → EndsSo (with_value v (f next).0, (f next).1) result after
    value_follows v rest result is ends = search arith

    goes_so : (x : Result ℕ LoadFault) (result : Read) → GoesOn x next result after more → EndsSo (unless_failed x next f) result after
    goes_so x result goes = search (arith, value_follows)

  pub net_follows : (steps : List Step) (r : NetRecord) (result : Read) (after : NetRecord) → ComesTo MayGive judge r steps result after → EndsSo (run_steps net_command judge r steps) result after
  net_follows [] r result after (is, same) = inl (ap (λ (x : Read). (x, after)) is ∙ ap (λ (x : NetRecord). (Ok [], x)) same)
  net_follows (t ∷ steps) r result after (given, next, gave, goes) = by_given (λ rest came. net_follows steps next rest after came) gave
    where
      by_given : ((rest : Read) → ComesTo MayGive judge next steps rest after → EndsSo (run_steps net_command judge next steps) rest after) → MayGive r t.switch (command_bytes t.command) given next → EndsSo (run_steps net_command judge r (t ∷ steps)) result after
      by_given each may = search (arith, goes_so)

  module _ {X : Type 0} (make : List ℕ → Result X LoadFault) (r after : NetRecord) (steps : List Step) (result : Result X LoadFault) where
    made_so : (read : Read) → result ≡ and_then read make → EndsSo (run_steps net_command judge r steps) read after → EndsSo (net_outcome judge make r steps) result after
    made_so read is ends = search arith

    pub outcome_ends : Outcome MayGive judge make r steps result after → EndsSo (net_outcome judge make r steps) result after
    outcome_ends out = made_so out.read out.made (net_follows steps r out.read after out.came)

-- a call that is told there is no such switch, or else asks its steps
module _ {X : Type 0} (r after : NetRecord) (result : Result X LoadFault) (due : Result X LoadFault × NetRecord) where
  by_test : (fits : Bool) → (fits ≡ false → (result ≡ Err LoadFault.NoSwitch) × (after ≡ r)) → (fits ≡ true → EndsSo due result after) → EndsSo (if fits then due else (Err LoadFault.NoSwitch, r)) result after
  by_test fits refused asked = search (arith, refused)

-- the numbers of switches are tested
differ : (a b : ℕ) → nat_eq a b ≡ false → a ≢ b
differ a b is same = absurd (grind (arith, nat_tests))

equal : (a b : ℕ) → nat_eq a b ≡ true → a ≡ b
equal a b is = grind (arith, nat_tests)

past : (a b : ℕ) → nat_lt a b ≡ false → b ≤ a
past a b is = grind (arith, nat_tests)

below : (a b : ℕ) → nat_lt a b ≡ true → a < b
below a b is = grind (arith, nat_tests)

-- what each call of the loader and the debugger says of a network, by its clauses
module _ (r after : NetRecord) where
  module _ (image : Image) (result : Result (Unit {0}) LoadFault) (unfitting : (result ≡ Err LoadFault.NoSwitch) ↔ (net_switch_count r ≢ length image.settings)) (not_asked : net_switch_count r ≢ length image.settings → after ≡ r) where
    refused : nat_eq (net_switch_count r) (length image.settings) ≡ false → (result ≡ Err LoadFault.NoSwitch) × (after ≡ r)
    refused is = let no = differ (net_switch_count r) (length image.settings) is in (unfitting.1 no, not_asked no)

    pub load_ends : (net_switch_count r ≡ length image.settings → Outcome MayGive any_value nothing_made r (load_list image.settings) result after) → EndsSo (net_load r image) result after
    unfolding net_load
    load_ends due = search (arith, by_test, refused, outcome_ends, equal)

    pub verify_ends : (net_switch_count r ≡ length image.settings → Outcome MayGive due_value_only nothing_made r (verify_list image.settings) result after) → EndsSo (net_verify r image) result after
    unfolding net_verify
    verify_ends due = search (arith, by_test, refused, outcome_ends, equal)

  module _ {X : Type 0} (switch : ℕ) (result : Result X LoadFault) (unknown : (result ≡ Err LoadFault.NoSwitch) ↔ (net_switch_count r ≤ switch)) (not_asked : net_switch_count r ≤ switch → after ≡ r) where
    called : (judge : Judge) (make : List ℕ → Result X LoadFault) (steps : List Step) → (switch < net_switch_count r → Outcome MayGive judge make r steps result after) → EndsSo (if nat_lt switch (net_switch_count r) then net_outcome judge make r steps else (Err LoadFault.NoSwitch, r)) result after
    called judge make steps due = search (arith, by_test, past, outcome_ends)

  module _ (switch : ℕ) where
    pub poke_ends : (addr value : ℕ) (result : Result (Unit {0}) LoadFault) → (result ≡ Err LoadFault.NoSwitch) ↔ (net_switch_count r ≤ switch) → (net_switch_count r ≤ switch → after ≡ r) → (switch < net_switch_count r → Outcome MayGive any_value nothing_made r (pokes switch ((addr, value) ∷ [])) result after) → EndsSo (net_poke r switch addr value) result after
    unfolding net_poke
    poke_ends addr value result unknown not_asked due = called switch result unknown not_asked any_value nothing_made (pokes switch ((addr, value) ∷ [])) due

    pub link_ends : (link : ℕ) (result : Result LinkNumbers LoadFault) → (result ≡ Err LoadFault.NoSwitch) ↔ (net_switch_count r ≤ switch) → (net_switch_count r ≤ switch → after ≡ r) → (switch < net_switch_count r → Outcome MayGive any_value link_made r (link_peeks switch link) result after) → EndsSo (net_link r switch link) result after
    unfolding net_link
    link_ends link result unknown not_asked due = called switch result unknown not_asked any_value link_made (link_peeks switch link) due

    pub table_ends : (link : ℕ) (result : Result Table LoadFault) → (result ≡ Err LoadFault.NoSwitch) ↔ (net_switch_count r ≤ switch) → (net_switch_count r ≤ switch → after ≡ r) → (switch < net_switch_count r → Outcome MayGive any_value (table_made switch) r (table_peeks switch link) result after) → EndsSo (net_table r switch link) result after
    unfolding net_table
    table_ends link result unknown not_asked due = called switch result unknown not_asked any_value (table_made switch) (table_peeks switch link) due
