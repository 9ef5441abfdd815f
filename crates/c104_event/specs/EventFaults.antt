-- Why an event is refused: the numbers and the names of the faults.
use Rattle.c104_event.specs.declared.faults.EventFault.{EventFault}
use Rattle.std.specs.Prelude.{List, codes, ℕ}

-- the number that is printed: 1 to 8
abbrev pub event_fault_number : EventFault → ℕ
event_fault_number EventFault.NoNode = 1
event_fault_number EventFault.NoLink = 2
event_fault_number EventFault.NotWired = 3
event_fault_number EventFault.TooLong = 4
event_fault_number EventFault.OutboxFull = 5
event_fault_number EventFault.InboxFull = 6
event_fault_number EventFault.TraceFull = 7
event_fault_number EventFault.NoMemory = 8

-- the name that is printed
abbrev pub event_fault_name : EventFault → List ℕ
event_fault_name EventFault.NoNode = codes "NoNode"
event_fault_name EventFault.NoLink = codes "NoLink"
event_fault_name EventFault.NotWired = codes "NotWired"
event_fault_name EventFault.TooLong = codes "TooLong"
event_fault_name EventFault.OutboxFull = codes "OutboxFull"
event_fault_name EventFault.InboxFull = codes "InboxFull"
event_fault_name EventFault.TraceFull = codes "TraceFull"
event_fault_name EventFault.NoMemory = codes "NoMemory"
