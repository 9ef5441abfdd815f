-- A history owns nothing, so several threads may see it.
use Rattle.c104_node.specs.contracts.history.History.{the_row}
use denote.Param.Send.{IsSync, part_keyless}
use Rattle.c104_node.proofs.history.History.TheSendSync.Send.{send}

pub sync : IsSync the_row
sync = record { shared = λ d b o κ q. part_keyless the_row send q d b o }
