-- Why reading and writing stop, one in terms of the other.
use Rattle.c104_stream.specs.declared.{halt.Halt.Halt, reading.ReadFault.ReadFault}

-- the halt that a reader's fault comes to: the one of the same name
abbrev pub halt_of : ReadFault → Halt
halt_of ReadFault.CannotRead = Halt.CannotRead
halt_of ReadFault.NoMemory = Halt.NoMemory
