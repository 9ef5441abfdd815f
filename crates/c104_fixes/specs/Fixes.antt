-- What is told of labels, and of fixes that were tried.
--     IsMended plan why image      labels that were refused for a fault are accepted now, or refused for another
--     IsWaiting plan routes waiting      whether packets can wait for one another forever
use Rattle.c104_check.specs.{ChannelDependencies.{IsAcyclic, IsNeverRandomized}, Checks.{IsCause, IsFirstLink}, FirstCycles.IsFirstCycle}
use Rattle.c104_check.specs.{Routes.{IsAccepted, IsRandomized, Routes, routes_of}, declared.faults.CheckFault.CheckFault}
use Rattle.{c104_fixes.specs.declared.{fixes.TriedFix.TriedFix, waiting.Waiting.Waiting}, c104_plan.specs.PlanImage.{Fits, Image}}
use Rattle.c104_plan.specs.Plans.{Plan}
use Rattle.std.specs.Prelude.{IfSome, MatchOption, ◌≢◌, ◌⊎◌}

-- the labels of an image for a plan are accepted
abbrev pub LeavesAccepted : Plan → Image → Type 0
LeavesAccepted plan image = Fits image plan × IsAccepted (routes_of plan image)

-- they are, or another fault is the first
abbrev pub IsMended : Plan → CheckFault → Image → Type 0
IsMended plan why image = Fits image plan
    × (IsAccepted (routes_of plan image)
    ⊎ ((other : CheckFault) × IsCause (routes_of plan image) other × (other ≢ CheckFault.NoMemory) × (other ≢ why)))

-- they are, and no inputs depend on one another in a cycle
abbrev pub LeavesNoCycle : Plan → Image → Type 0
LeavesNoCycle plan image = LeavesAccepted plan image × IsAcyclic (routes_of plan image)

-- there is no cycle, and this is the first link where random headers are put before packets, if there is one; or this is the
-- cycle that is told, and with the fix, if one is told, there is none
abbrev pub IsWaiting : Plan → Routes → Waiting → Type 0
IsWaiting plan routes (Waiting.Never randomized) =
    IsAcyclic routes × MatchOption randomized (IsNeverRandomized routes) (IsFirstLink (IsRandomized routes))
IsWaiting plan routes (Waiting.InCycle cycle fix) =
    IsFirstCycle routes cycle.dependencies × IfSome fix (λ (tried : TriedFix). LeavesNoCycle plan tried.image)
