-- What the loader and the debugger come to on a network whose nodes keep what they do: each as a function of
-- its record.
use Rattle.c104_event.specs.declared.{events.Event.Event, faults.EventFault.EventFault}
use Rattle.{c104_interval.specs.declared.intervals.Table.Table, c104_plan.specs.PlanImage.Image, c104_run.specs.NetRecords.NetRecord}
use Rattle.{c104_run.specs.{NetRecords.is_done, RecordedRuns.record_apply}, c104_switch.specs.Actions.Reply}
use Rattle.{c104_switch.specs.declared.actions.ReplyOf.ReplyOf, c104_tools.specs.Loads.{load_list, pokes, verify_list}}
use Rattle.c104_tools.specs.{NetCommands.net_switch_count, Outcomes.{Given, Judge, and_then, any_value, due_value_only, link_made}}
use Rattle.c104_tools.specs.{Outcomes.{link_peeks, nothing_made, run_steps, table_made, table_peeks}, Steps.Step}
use Rattle.c104_tools.specs.declared.{faults.LoadFault.LoadFault, reading.LinkNumbers.LinkNumbers}
use Rattle.std.specs.Prelude.{Err, List, Ok, Result, [], if◌then◌else◌, length, nat_eq, nat_lt, true, ℕ, ◌∷◌, ◌≡◌, ◌⊎◌}

-- what a command is given, by what its event answers. A switch that stands in a network always replies.
abbrev pub control_given : Result Reply EventFault → Given
control_given (Ok (ReplyOf.Control bytes)) = Ok bytes
control_given (Ok r) = Err EventFault.NoNode
control_given (Err f) = Err f

-- what a network gives for a command of a switch, and its record after it: the event of that command
abbrev pub net_command : NetRecord → ℕ → List ℕ → Given × NetRecord
net_command r switch bytes =
    let due = record_apply r (Event.Control switch bytes) in (control_given due.0, due.1)

-- what it may give: that; or, for a command that would be done, that memory has run out, and nothing changed
abbrev pub MayGive : NetRecord → ℕ → List ℕ → Given → NetRecord → Type 0
MayGive r switch bytes given after =
    (◌≡◌ {A = Given × NetRecord} (given, after) (net_command r switch bytes))
    ⊎ ((given ≡ Err EventFault.NoMemory)
    × (is_done (record_apply r (Event.Control switch bytes)).0 ≡ true)
    × (after ≡ r))

-- what a call comes to that asks steps and answers what is made of the values that they read
abbrev pub net_outcome : {X : Type 0} → Judge → (List ℕ → Result X LoadFault) → NetRecord → List Step → Result X LoadFault × NetRecord
net_outcome judge make r steps =
    let read = run_steps net_command judge r steps in (and_then read.0 make, read.1)

-- an image is loaded
unfoldable pub net_load : NetRecord → Image → Result (Unit {0}) LoadFault × NetRecord
net_load r image =
    if nat_eq (net_switch_count r) (length image.settings)
    then net_outcome any_value nothing_made r (load_list image.settings)
    else (Err LoadFault.NoSwitch, r)

-- it is seen whether an image is loaded
unfoldable pub net_verify : NetRecord → Image → Result (Unit {0}) LoadFault × NetRecord
net_verify r image =
    if nat_eq (net_switch_count r) (length image.settings)
    then net_outcome due_value_only nothing_made r (verify_list image.settings)
    else (Err LoadFault.NoSwitch, r)

-- the register of a switch at an address is set to a value
unfoldable pub net_poke : NetRecord → ℕ → ℕ → ℕ → Result (Unit {0}) LoadFault × NetRecord
net_poke r switch addr value =
    if nat_lt switch (net_switch_count r)
    then net_outcome any_value nothing_made r (pokes switch ((addr, value) ∷ []))
    else (Err LoadFault.NoSwitch, r)

-- a link of a switch tells of itself
unfoldable pub net_link : NetRecord → ℕ → ℕ → Result LinkNumbers LoadFault × NetRecord
net_link r switch link =
    if nat_lt switch (net_switch_count r)
    then net_outcome any_value link_made r (link_peeks switch link)
    else (Err LoadFault.NoSwitch, r)

-- the table of an input of a switch is read
unfoldable pub net_table : NetRecord → ℕ → ℕ → Result Table LoadFault × NetRecord
net_table r switch link =
    if nat_lt switch (net_switch_count r)
    then net_outcome any_value (table_made switch) r (table_peeks switch link)
    else (Err LoadFault.NoSwitch, r)

-- how a call ends: with what is due, or out of memory for one of its commands
abbrev pub EndsSo : {X : Type 0} → Result X LoadFault × NetRecord → Result X LoadFault → NetRecord → Type 0
EndsSo {X} due result after =
    (◌≡◌ {A = Result X LoadFault × NetRecord} (result, after) due)
    ⊎ (result ≡ Err (LoadFault.Port EventFault.NoMemory))
