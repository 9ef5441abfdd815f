-- The ending of a storm is one of its team, and its text is written.
use Rattle.{c104_run.specs.NetRecords.NetRecord, c104_storm.specs.Endings.{IsEndText, IsEnding, IsEndingByNodes, IsEndingOf, WritesEnd}}
use Rattle.c104_storm.specs.{Endings.is_refused, Workers.{IsStopOf, Team}, declared.{endings.Ending.Ending, working.Worked.Worked}}
use Rattle.{c104_stream.specs.{Writing.AppendsPrefix, declared.halt.Halt.Halt}, std.proofs.Common.{Bool, Err, List, Ok, Option, refl}}
use Rattle.std.{proofs.Common.{subst, sym, ℕ, ◌≡◌}, specs.Io.KnownBytes.Appends}

-- what the nodes say is an ending of any team
by_nodes : (team : Team) (net : NetRecord) (ending : Ending) → IsEndingByNodes net ending → IsEnding team net ending
by_nodes team net Ending.NotQuiet is = is
by_nodes team net (Ending.Stopped worker kind) is = absurd is
by_nodes team net Ending.Quiet is = is

-- where a worker stopped it is one of a team, and had its fault
pub of_team : (team : Team) (net : NetRecord) (worked : Worked) (ending : Ending) → IsStopOf team net.network.plan worked
    → IsEndingOf worked net ending → IsEnding team net ending
of_team team net Worked.Quiet ending stop is = by_nodes team net ending is
of_team team net Worked.NotQuiet ending stop is = by_nodes team net ending is
of_team team net (Worked.Stopped worker kind) ending stop is = subst (IsEnding team net) (sym is.0) (stop.0, stop.1, is.1)

module _ (team : Team) (net : NetRecord) (long faulty : Bool) (held holds : Option (List ℕ)) (ending : Ending) (text lent : List ℕ) where
  pub ends_written : (refused : Bool) → IsEnding team net ending → IsEndText long net ending text → lent ≡ text
      → refused ≡ is_refused long faulty ending → Appends held holds lent → WritesEnd team net long faulty held holds (Ok refused)
  ends_written refused is is_text same answered wrote =
      (text, record { ending = ending; is = is; is_text = is_text; answered = answered }, subst (λ xs. Appends held holds xs) same wrote)

  pub ends_unwritten : IsEnding team net ending → IsEndText long net ending text → lent ≡ text → AppendsPrefix held holds lent
      → WritesEnd team net long faulty held holds (Err Halt.CannotWrite)
  ends_unwritten is is_text same front = (
    text,
    is_refused long faulty ending,
    record { ending = ending; is = is; is_text = is_text; answered = refl },
    subst (λ xs. AppendsPrefix held holds xs) same front,
  )
