-- The wired links of each switch, as sets.
use Rattle.{c104_crossbar.specs.Groups.has_bit, c104_event.specs.declared.events.Event.Event}
use Rattle.c104_node.specs.{Nodes.Node, PortParts.may_act_at, declared.crossings.Crossing.Crossing}
use Rattle.{c104_node.specs.declared.port_part.PortPart.PortPart, c104_plan.specs.{Plans.Plan, declared.ports.Port.Port}}
use Rattle.{c104_regs.specs.declared.registers.TheConstants.LINKS, c104_run.specs.Network.{Network, wired_fault}}
use Rattle.{c104_run.specs.{RoundParts.{AreIdle, crossing_part}, Rounds.is_wired}, c104_token.specs.Kinds.Kind}
use Rattle.std.specs.Prelude.{List, None, false, length, slice_index_or, true, ℕ, ◌&&◌, ◌<◌, ◌≡◌, ◌≢◌, ◌≤◌}

-- these sets have the wired links of the first n switches
pub record AreLinked (plan : Plan) (n : ℕ) (sets : List ℕ) : Type 0 where
  pub counted : length sets ≡ n
  pub linked : (s l : ℕ) → s < n → l < LINKS → has_bit (slice_index_or sets s 0) l ≡ is_wired plan (Port.Switch s l)

module _ {A : Type 0} (kind : Kind A) (part : PortPart) (s : ℕ) where
  -- this set has the wired links of a switch, from one on, at which it may do its act of a part
  pub record HasReady (net : Network A) (from set : ℕ) : Type 0 where
    pub wired : (l : ℕ) → l < LINKS → is_wired net.plan (Port.Switch s l) ≡ true → wired_fault net.plan (Port.Switch s l) ≡ None
    pub ready : (l : ℕ) → from ≤ l → l < LINKS →
        has_bit set l ≡ (may_act_at kind part net.nodes s l && is_wired net.plan (Port.Switch s l))

  -- the switch may do its act of a part at all links as before, but for one
  pub record LeavesLinks (l : ℕ) (olds news : List (Node A)) : Type 0 where
    pub stay : (other : ℕ) → other ≢ l → may_act_at kind part news s other ≡ may_act_at kind part olds s other

-- the same after what crosses at a port, if that is a switch's
abbrev pub LeavesCrossed : {A : Type 0} → Kind A → Crossing → Port → List (Node A) → List (Node A) → Type 0
LeavesCrossed kind crossing (Port.Switch s l) olds news = LeavesLinks kind (crossing_part crossing) s l olds news
LeavesCrossed kind crossing (Port.Terminal t) olds news = Unit {0}

-- of a walk over links: what isn't of a link of this set does nothing
pub record IdleOutside {A : Type 0} (kind : Kind A) (net : Network A) (part : ℕ → List Event) (set : ℕ) : Type 0 where
  pub idle : (l : ℕ) → l < LINKS → has_bit set l ≡ false → AreIdle kind net (part l)
