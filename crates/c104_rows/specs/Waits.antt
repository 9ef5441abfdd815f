-- What inputs wait for.
--     wait_of r x o      how an output stands that an input wants for its header
--     blocker r x      the input that input x waits for
--     is_locked r x      input x waits for itself, over others
pub use Rattle.c104_rows.specs.declared.waits.Wait.{Wait}
use Rattle.{c104_check.specs.{Walks.{is_port, port_of}, declared.ports.SwitchPort.SwitchPort}, c104_event.specs.declared.events.Event.Event}
use Rattle.{c104_plan.specs.{Wiring.peer, declared.ports.Port.Port}, c104_regs.specs.declared.registers.TheConstants.LINKS}
use Rattle.{c104_rows.specs.declared.holders.TheConstants.MOST_INPUTS, c104_run.specs.{NetRecords.NetRecord, NetViews.network_link_view}}
use Rattle.{c104_run.specs.{Reasons.network_why, declared.reason.Reason.Reason}, c104_switch.specs.declared.actions.LinkView.LinkView}
use Rattle.{c104_switch.specs.declared.{phase.Phase.Phase, unready.Unready.Unready}, c104_token.specs.Kinds.plain_kind}
use Rattle.std.specs.Prelude.{Bool, None, Option, Some, false, suc, zero, ℕ, ◌+◌, ◌||◌}

-- how an output stands, by why a header's input can't claim it; none where it isn't of the group that is wanted, or the
-- switch isn't started
abbrev pub wait_by : Unready → Option Wait
wait_by (Unready.Owned i) = Some (Wait.Held i)
wait_by Unready.NoRoomForHeader = Some Wait.Full
wait_by Unready.NoLink = None
wait_by Unready.NotStarted = None
wait_by Unready.NoToken = None
wait_by Unready.NoCredit = None
wait_by Unready.NotGranted = None
wait_by Unready.NoRoom = None
wait_by Unready.CreditFull = None
wait_by (Unready.WantsOutput l) = None
wait_by (Unready.OutputFull o) = None
wait_by Unready.WantsNothing = None
wait_by (Unready.OutsideGroup o) = None

abbrev pub wait_for : Option Reason → Option Wait
wait_for None = Some Wait.Free
wait_for (Some why) = wait_by why.unready

abbrev pub wait_of : NetRecord → SwitchPort → ℕ → Option Wait
wait_of r x o = wait_for (network_why r.network (Event.Claim x.switch x.link o))

-- the input of a switch that a port is, if it is one
abbrev pub input_of : Option Port → Option SwitchPort
input_of None = None
input_of (Some (Port.Switch s l)) = Some (port_of s l)
input_of (Some (Port.Terminal t)) = None

-- the input that an output leads to
abbrev pub far_input : NetRecord → ℕ → ℕ → Option SwitchPort
far_input r s o = input_of (peer r.network.plan (Port.Switch s o))

-- the input for which an output's wish waits: the one that holds the output, or where that is full the one it leads to
abbrev pub blocker_by : NetRecord → ℕ → ℕ → Wait → Option SwitchPort
blocker_by r s o (Wait.Held i) = Some (port_of s i)
blocker_by r s o Wait.Full = far_input r s o
blocker_by r s o Wait.Free = None

abbrev pub claim_or : NetRecord → ℕ → ℕ → Option Wait → Option SwitchPort → Option SwitchPort
claim_or r s o None rest = rest
claim_or r s o (Some w) rest = blocker_by r s o w

-- the same of the first output that an input wants, from output o on
unfoldable pub claim_blocker : NetRecord → SwitchPort → ℕ → ℕ → Option SwitchPort
claim_blocker r x zero o = None
claim_blocker r x (suc n) o = claim_or r x.switch o (wait_of r x o) (claim_blocker r x n (o + 1))

-- the input that an input waits for: where it streams the one to which its output leads, and where it wants an output
-- that of the first one
abbrev pub phase_blocker : {H : Type 0} → NetRecord → SwitchPort → Phase H → Option SwitchPort
phase_blocker r x (Phase.Stream o) = far_input r x.switch o
phase_blocker r x (Phase.Want h g) = claim_blocker r x LINKS 0
phase_blocker r x Phase.Fresh = None
phase_blocker r x (Phase.Head h) = None
phase_blocker r x Phase.Sinking = None

abbrev pub view_blocker : NetRecord → SwitchPort → Option LinkView → Option SwitchPort
view_blocker r x None = None
view_blocker r x (Some view) = phase_blocker r x view.phase

abbrev pub blocker : NetRecord → SwitchPort → Option SwitchPort
blocker r x = view_blocker r x (network_link_view plain_kind r.network x.switch x.link)

-- from an input on, whether another one is met within this many steps
abbrev pub meets_by : SwitchPort → Option SwitchPort → (SwitchPort → Bool) → Bool
meets_by x None on = false
meets_by x (Some y) on = is_port x y || on y

unfoldable pub meets : NetRecord → SwitchPort → ℕ → SwitchPort → Bool
meets r x zero y = false
meets r x (suc n) y = meets_by x (blocker r y) (meets r x n)

-- an input waits for itself, over others
abbrev pub is_locked : NetRecord → SwitchPort → Bool
is_locked r x = meets r x MOST_INPUTS x
