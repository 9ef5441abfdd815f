-- What the debugger answers, as a function of the network.
use Rattle.{c104_event.specs.declared.faults.EventFault.EventFault, c104_interval.specs.declared.intervals.Table.Table}
use Rattle.{c104_plan.specs.{PlanImage.Image, Plans.Plan}, c104_regs.specs.declared.faults.RegFault.RegFault}
use Rattle.{c104_regs.specs.declared.registers.TheConstants.LINKS, c104_run.specs.{NetRecords.NetRecord, Network.network_peek}}
use Rattle.c104_script.specs.declared.{answers.Answer.{Answer, TheVariants.{Found, Refused, Replied}}, findings.Finding.Finding}
use Rattle.{c104_script.specs.declared.probes.Probe.Probe, c104_session.specs.FoundRegisters.{differences_answer, differences_from}}
use Rattle.{c104_session.specs.FoundRegisters.told_answer, c104_switch.specs.declared.actions.ReplyOf.TheVariants.Done}
use Rattle.c104_tools.specs.{NetOutcomes.{net_link, net_poke, net_table, net_verify}, declared.faults.LoadFault.LoadFault}
use Rattle.c104_tools.specs.declared.reading.LinkNumbers.{LinkNumbers}
use Rattle.std.specs.Prelude.{Err, List, None, Ok, Option, Result, Some, if◌then◌else◌, nat_lt, slice_get, ℕ, ◌==◌}

-- what a register reads; there may be none
abbrev pub value_answer : Option ℕ → Answer
value_answer (Some value) = Found (Finding.Value value)
value_answer None = Found (Finding.Refused RegFault.NoRegister)

-- what a link tells of itself
abbrev pub link_answer : LinkNumbers → Answer
link_answer n = Found (Finding.Link n.input_level n.output_level n.credit n.granted n.owner n.sunk n.short)

-- an input's table
abbrev pub table_answer : Table → Answer
table_answer table = Found (Finding.Table table)

-- a register was set
abbrev pub set_answer : Unit {0} → Answer
set_answer u = Replied Done

-- all registers read as they were loaded
abbrev pub verified_answer : Unit {0} → Answer
verified_answer u = Found Finding.Verified

-- the fault of a register, by the number of the refusal. The fourth is 6, and there are no others
abbrev pub register_fault_at : ℕ → RegFault
register_fault_at number =
    if number == 3 then RegFault.NoRegister
    else (if number == 4 then RegFault.ReadOnly
    else (if number == 5 then RegFault.OutOfRange
    else RegFault.Busy))

-- a register of the switch of this name reads another value than was loaded
abbrev pub difference_answer : Option (List ℕ) → ℕ → ℕ → Answer
difference_answer (Some switch) addr value = Found (Finding.Differs switch addr value)
difference_answer None addr value = Refused EventFault.NoNode

-- what is answered where the debugger stopped. A network's switches reply to each command with an answer to it,
-- so BadReply doesn't come.
abbrev pub stopped_answer : Plan → LoadFault → Answer
stopped_answer plan (LoadFault.Refused switch addr number) = Found (Finding.Refused (register_fault_at number))
stopped_answer plan (LoadFault.Differs switch addr value) = difference_answer (slice_get plan.switches switch) addr value
stopped_answer plan LoadFault.NoSwitch = Refused EventFault.NoNode
stopped_answer plan (LoadFault.Port kind) = Refused kind
stopped_answer plan (LoadFault.BadReply switch) = Refused EventFault.NoNode

-- what is answered: this of what was read, or why the debugger stopped
abbrev pub tool_answer : {X : Type 0} → Plan → (X → Answer) → Result X LoadFault → Answer
tool_answer plan of_what (Ok x) = of_what x
tool_answer plan of_what (Err kind) = stopped_answer plan kind

-- the same, and the network after it
abbrev pub tool_outcome : {X : Type 0} → (X → Answer) → Result X LoadFault × NetRecord → Answer × NetRecord
tool_outcome of_what r = (tool_answer r.1.network.plan of_what r.0, r.1)

-- of a link what it tells of itself, and of an input its table, where there is such a link
abbrev pub link_outcome : NetRecord → ℕ → ℕ → Answer × NetRecord
link_outcome net switch link =
    if nat_lt link LINKS then tool_outcome link_answer (net_link net switch link) else (Refused EventFault.NoLink, net)

abbrev pub table_outcome : NetRecord → ℕ → ℕ → Answer × NetRecord
table_outcome net switch link =
    if nat_lt link LINKS then tool_outcome table_answer (net_table net switch link) else (Refused EventFault.NoLink, net)

-- what the debugger answers, and the network after it
abbrev pub probe_answer : NetRecord → Image → Probe → Answer × NetRecord
probe_answer net image (Probe.Peek switch addr) = (value_answer (network_peek net.network switch addr), net)
probe_answer net image (Probe.Poke switch addr value) = tool_outcome set_answer (net_poke net switch addr value)
probe_answer net image (Probe.Link switch link) = link_outcome net switch link
probe_answer net image (Probe.Table switch link) = table_outcome net switch link
probe_answer net image Probe.Verify = tool_outcome verified_answer (net_verify net image)
probe_answer net image Probe.VerifyAll = (differences_answer (differences_from net.network 0 image.settings), net)
probe_answer net image (Probe.Dump switch) = (told_answer net.network switch (slice_get net.network.plan.switches switch), net)
