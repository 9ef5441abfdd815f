use Rattle.c104_check.specs.{Parts.{Has, IsReachedFrom}, Reach.{AreDistinctInputs, HaveAllFollowers, IsLongerBy}, Trails.routes_in}
use Rattle.std.proofs.Common.{length, ◌*◌, ◌-◌, ◌≤◌}
use Rattle.c104_check.proofs.routes.Routes.add_reached.Given as goal

-- no input is found twice
abbrev pub decreases-loop-done : goal.decreases-loop-done
decreases-loop-done l = 32 * length (routes_in l.self).settings - l.done

-- the inputs to which the header may go from those so far are found
abbrev pub invariant-loop-done : goal.invariant-loop-done
invariant-loop-done l = record {
  distinct : AreDistinctInputs (routes_in l.self) l.inputs;
  longer : IsLongerBy (IsReachedFrom (routes_in l.self) l.header (Has l.fn.inputs)) l.fn.inputs l.inputs;
  followers : HaveAllFollowers (routes_in l.self) l.header l.inputs l.done;
  within : l.done ≤ length l.inputs;
}
