-- The tests of an audit, as loops make them.
use Rattle.c104_audit.specs.{AuditFaults.Everywhere, Audits.{AreHalves, CarryAtEnds, HaveOtherTickets, IsCalled, called_by, is_link_wired}}
use Rattle.c104_audit.specs.{Audits.{lists_leads, passes_at, told_reply}, Firsts.lower_of, Leads.{AreRising, Lead, list_at}}
use Rattle.{c104_audit.specs.declared.lists.Lists.Lists, c104_event.specs.declared.calls.Call.Call}
use Rattle.{c104_net.specs.declared.leading.Lead.Lead as Leading, c104_node.specs.declared.{acts.{ActOf.ActOf, Entry.Entry}, ends.End.End}}
use Rattle.{c104_run.specs.EventActs.act_event, c104_switch.specs.declared.actions.ReplyOf.ReplyOf}
use Rattle.std.specs.{List.AllByRecursion, Prelude.{Bool, List, None, Option, Some, [], drop, filter, if◌then◌else◌, length, map, nat_eq}}
use Rattle.std.specs.Prelude.{nat_le, nat_lt, not, slice_get, true, ℕ, ◌&&◌, ◌++◌, ◌+◌, ◌<◌, ◌↔◌, ◌∷◌, ◌≡◌, ◌≤◌}

-- of a link of a node it is kept whether it has a wire, and the same of each of the first links
abbrev pub KeepsLink : Lists → ℕ → List Bool → ℕ → Type 0
KeepsLink lists k wired l = slice_get wired l ≡ Some (is_link_wired lists.switches lists.wires k l)

abbrev pub HasLinksTo : Lists → ℕ → List Bool → ℕ → Type 0
HasLinksTo lists k wired count = (l : ℕ) → l < count → KeepsLink lists k wired l

-- a ticket is later than another, if there is another
abbrev pub is_later : Option ℕ → ℕ → Bool
is_later None t = true
is_later (Some u) t = nat_lt u t

-- the tickets of entries rise, from behind this one
abbrev pub rises_after : Option ℕ → List Entry → Bool
rises_after last [] = true
rises_after last (e ∷ es) = is_later last e.ticket && rises_after (Some e.ticket) es

-- the entries at an end of a wire, in order
abbrev pub passing : ℕ → End → List Entry → List Entry
passing switches end entries = filter (passes_at switches end) entries

-- the first of some entries is the other half of this one, and behind it these are left
abbrev pub HasHalf : Entry → List Entry → List Entry → Type 0
HasHalf e all rest = (other : Entry) × (all ≡ other ∷ rest) × AreHalves e other

-- or it isn't
abbrev pub HasNoHalf : Entry → List Entry → Type 0
HasNoHalf e all = (other : Entry) (rest : List Entry) → all ≡ other ∷ rest → AreHalves e other → ⊥

-- a list has a first
abbrev pub HasNext : List Entry → Type 0
HasNext all = (e : Entry) × (rest : List Entry) × (all ≡ e ∷ rest)

-- the lower of two seats that differ, if they do
abbrev pub odd_seat : Option ℕ → Option ℕ → Option ℕ
odd_seat None other = other
odd_seat (Some s) None = Some s
odd_seat (Some s) (Some t) = if nat_eq s t then None else lower_of (Some s) (Some t)

-- the first seat for which some entries and others differ, one by one
abbrev pub odd_of : List Entry → List Entry → Option ℕ
odd_of [] others = None
odd_of (e ∷ es) [] = None
odd_of (e ∷ es) (d ∷ others) = lower_of (odd_seat e.seat d.seat) (odd_of es others)

-- the first of some entries differs so from this one, and behind it these are left
abbrev pub IsOddBy : Entry → Option ℕ → List Entry → List Entry → Type 0
IsOddBy e odd all rest = (other : Entry) × (all ≡ other ∷ rest) × (odd ≡ odd_seat e.seat other.seat)

-- at the ends of each of the first wires the entries carry the number of a seat alike
abbrev pub CarryAtEndsTo : Lists → ℕ → ℕ → Type 0
CarryAtEndsTo lists count s = (i : ℕ) → i < count → CarryAtEnds lists s i

-- and at the ends of every wire
abbrev pub CarryAtAllEnds : Lists → ℕ → Type 0
CarryAtAllEnds lists s = Everywhere (CarryAtEnds lists s)

-- an entry that leads, as it stands in the traces
abbrev pub entry_or : Option Entry → Entry
entry_or None = record { ticket = 0; act = ActOf.CreditIn; reply = ReplyOf.Done; seat = None }
entry_or (Some e) = e

abbrev pub lead_in : List (List Entry) → Leading → ℕ × Lead Entry
lead_in traces x = (x.ticket, record { place = x.place; entry = entry_or (slice_get (list_at traces x.place) x.at) })

-- these are all that lead
abbrev pub AreLeads : Lists → List Leading → Type 0
AreLeads lists leads = map (lead_in lists.traces) leads ≡ lists_leads lists

-- the calls that leading entries tell which carry the number of a seat
abbrev pub calls_told : Lists → ℕ → List (ℕ × Lead Entry) → List Call
calls_told lists s leads = called_by lists.switches lists.wires s leads

-- a call is what an entry of the node at a place tells that leads
pub record IsCallOf (switches k : ℕ) (e : Entry) (c : Call) : Type 0 where
  pub ticket : c.ticket ≡ e.ticket
  pub event : act_event switches k e.act ≡ Some c.event
  pub reply : c.reply ≡ told_reply e.act e.reply

-- the call at a place of a list is
abbrev pub IsNextCall : ℕ → ℕ → Entry → List Call → ℕ → Type 0
IsNextCall switches k e calls at = (c : Call) × (slice_get calls at ≡ Some c) × IsCallOf switches k e c

-- how many of a seat's calls are told, with one more entry of it that leads: none where it tells another than the next
abbrev pub TellsNext : ℕ → ℕ → Entry → List Call → Option ℕ → Option ℕ → Type 0
TellsNext switches k e calls None after = after ≡ None
TellsNext switches k e calls (Some n) None = IsNextCall switches k e calls n → ⊥
TellsNext switches k e calls (Some n) (Some m) = (m ≡ n + 1) × IsNextCall switches k e calls n

-- this number of a seat's calls is told before a place of those that lead: from there on the rest is told where all is. Or
-- other calls are told.
abbrev pub IsTold : Lists → List Leading → ℕ → ℕ → Option ℕ → Type 0
IsTold lists leads i s None = calls_told lists s (lists_leads lists) ≡ list_at lists.calls s → ⊥
IsTold lists leads i s (Some n) =
    ((calls_told lists s (map (lead_in lists.traces) (drop i leads)) ≡ drop n (list_at lists.calls s))
    ↔ (calls_told lists s (lists_leads lists) ≡ list_at lists.calls s)) × (n ≤ length (list_at lists.calls s))

-- and so of each seat that is counted
abbrev pub AreTold : Lists → List Leading → ℕ → List (Option ℕ) → Type 0
AreTold lists leads i counts = (s : ℕ) (o : Option ℕ) → slice_get counts s ≡ Some o → IsTold lists leads i s o

-- of each seat that has a list all its calls are counted exactly where they are what the entries tell
pub record AreCounts (lists : Lists) (counts : List (Option ℕ)) : Type 0 where
  pub long : length counts ≡ length lists.calls
  pub counted : (s : ℕ) → s < length lists.calls →
      (slice_get counts s ≡ Some (Some (length (list_at lists.calls s))))
      ↔ (calls_told lists s (lists_leads lists) ≡ list_at lists.calls s)

-- the tickets of calls rise, from behind this one, and none is below the first
abbrev pub listed_after : ℕ → Option ℕ → List Call → Bool
listed_after first last [] = true
listed_after first last (c ∷ calls) = (is_later last c.ticket && nat_le first c.ticket) && listed_after first (Some c.ticket) calls

-- a seat's list rises, and none of its tickets is below the first
pub record IsListed (first : ℕ) (calls : List Call) : Type 0 where
  pub rising : AreRising (λ (c : Call). c.ticket) calls
  pub late : AllByRecursion (λ (c : Call). first ≤ c.ticket) calls

-- a seat's list is told by the entries that carry its number, and in order
pub record IsToldSo (lists : Lists) (s : ℕ) (calls : List Call) : Type 0 where
  pub told : calls_told lists s (lists_leads lists) ≡ calls
  pub listed : IsListed lists.first calls

-- and so of the list that a seat has
abbrev pub IsToldAt : Lists → ℕ → Type 0
IsToldAt lists s = IsToldSo lists s (list_at lists.calls s)

-- a number isn't this one, if there is one
abbrev pub is_other : ℕ → Option ℕ → Bool
is_other s None = true
is_other s (Some t) = not (nat_eq s t)

-- the seat of one that leads
abbrev pub lead_seat : Lists → Leading → Option ℕ
lead_seat lists x = (lead_in lists.traces x).1.entry.seat

-- a seat whose number is at least this, if there is one
abbrev pub past_seat : ℕ → Option ℕ → Option ℕ
past_seat count None = None
past_seat count (Some s) = if nat_le count s then Some s else None

-- the first such seat that some entries carry
abbrev pub strays : ℕ → List (ℕ × Lead Entry) → Option ℕ
strays count [] = None
strays count (m ∷ ms) = lower_of (past_seat count m.1.entry.seat) (strays count ms)

-- from this number on, a seat has no call
abbrev pub HasNoStray : Lists → ℕ → ℕ → Type 0
HasNoStray lists count s = count ≤ s → calls_told lists s (lists_leads lists) ≡ []

-- no ticket of a seat's list stands in another's
abbrev pub AreApart : Lists → ℕ → ℕ → Type 0
AreApart lists s other = HaveOtherTickets (list_at lists.calls s) (list_at lists.calls other)

-- no ticket of a seat's list stands in a lower seat's
abbrev pub IsApart : Lists → ℕ → Type 0
IsApart lists s = (lower : ℕ) → lower < s → AreApart lists s lower

-- the tickets of a seat's list rise
abbrev pub IsRisingAt : Lists → ℕ → Type 0
IsRisingAt lists s = AreRising (λ (c : Call). c.ticket) (list_at lists.calls s)

-- a call of this ticket is the first
abbrev pub StandsFirst : ℕ → List Call → Type 0
StandsFirst t [] = ⊥
StandsFirst t (c ∷ calls) = c.ticket ≡ t

-- the ticket of the first isn't below this one
abbrev pub IsNotBelow : ℕ → List Call → Type 0
IsNotBelow t [] = Unit {0}
IsNotBelow t (c ∷ calls) = t ≤ c.ticket

-- from a place to a place of a list the tickets are below this one, and the next isn't
pub record Skips (calls : List Call) (from to t : ℕ) : Type 0 where
  pub gone : List Call
  pub split : drop from calls ≡ gone ++ drop to calls
  pub below : AllByRecursion (λ (c : Call). c.ticket < t) gone
  pub next : IsNotBelow t (drop to calls)

-- the seats below one are called so
abbrev pub AreCalledBelow : Lists → ℕ → Type 0
AreCalledBelow lists s = (t : ℕ) → t < s → IsCalled lists t
