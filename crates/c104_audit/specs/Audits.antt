-- Audits: whether the lists that nodes and seats kept are those of one run. Each clause is a word of its own, of a number:
--     IsShaped      a node's kind, the size of its buffers and its wired links are those of the plan
--     IsOrdered     the tickets of a node's trace rise strictly
--     AgreeAtEnds   the entries at the two ends of a wire agree one by one
--     IsCalled      a seat's list is what the entries tell that carry its number
--     IsAsBefore    a node's start and its entries without a seat are those that it had before the seats were made
use Rattle.c104_audit.specs.{Leads.{AreRising, Lead, list_at, merged_leads}, declared.{carried.Carried.Carried, lists.Lists.Lists}}
use Rattle.{c104_audit.specs.declared.lists.NodeShape.NodeShape, c104_event.specs.{Calls.call_of, declared.calls.Call.Call}}
use Rattle.{c104_event.specs.declared.events.Event.Event, c104_node.specs.{ActLinks.{act_link, on_links}, declared.acts.ActOf.ActOf}}
use Rattle.{c104_node.specs.declared.{acts.Entry.Entry, ends.End.End}, c104_plan.specs.{Ports.other_end, declared.ports.Port.Port}}
use Rattle.{c104_plan.specs.declared.ports.Wire.Wire, c104_regs.specs.declared.registers.TheConstants.LINKS}
use Rattle.{c104_run.specs.{EventActs.act_event, Rounds.link_numbers}, c104_switch.specs.Actions.Reply}
use Rattle.{c104_switch.specs.declared.actions.{ActionOf.ActionOf, ReplyOf.ReplyOf}, c104_token.specs.declared.tokens.Token.Token}
use Rattle.std.specs.{List.{AllByRecursion, flat_map}, Option.{option_map, option_to_list}, Prelude.{Bool, List, None, Option, Some, []}}
use Rattle.std.specs.Prelude.{false, filter, if◌then◌else◌, is_some, length, map, nat_eq, nat_lt, not, slice_get, ℕ, ◌&&◌, ◌+◌, ◌-◌, ◌<◌}
use Rattle.std.specs.Prelude.{◌∷◌, ◌≡◌, ◌≢◌, ◌≤◌, ◌⊎◌}

-- whether there is a number and it is this one
abbrev pub is_number : ℕ → Option ℕ → Bool
is_number n None = false
is_number n (Some m) = nat_eq n m

-- whether an act is one of a switch, or else of a terminal
abbrev pub is_of_kind : Bool → ActOf Token → Bool
is_of_kind on_switch (ActOf.Step a) = on_switch
is_of_kind on_switch a = not on_switch

-- where a port is among nodes that begin with this number of switches
abbrev pub end_among : ℕ → Port → End
end_among switches (Port.Switch s l) = record { node = s; link = l }
end_among switches (Port.Terminal t) = record { node = switches + t; link = 0 }

-- whether an entry carries the number of a seat
abbrev pub carries : ℕ → Entry → Bool
carries s e = is_number s e.seat

-- the entries that no seat asked for
abbrev pub unseated : List Entry → List Entry
unseated entries = filter (λ (e : Entry). not (is_some e.seat)) entries

-- what an act lets out over a wire that was answered so, and what an act takes in
abbrev pub carried_out : ActOf Token → Reply → Option Carried
carried_out (ActOf.Step (ActionOf.Leave l)) (ReplyOf.Token x) = Some (Carried.Token x)
carried_out (ActOf.Step (ActionOf.CreditOut l)) r = Some Carried.Grant
carried_out ActOf.Leave (ReplyOf.Token x) = Some (Carried.Token x)
carried_out ActOf.CreditOut r = Some Carried.Grant
carried_out a r = None

abbrev pub carried_in : ActOf Token → Option Carried
carried_in (ActOf.Step (ActionOf.Enter l x)) = Some (Carried.Token x)
carried_in (ActOf.Step (ActionOf.CreditIn l)) = Some Carried.Grant
carried_in (ActOf.Enter x) = Some (Carried.Token x)
carried_in ActOf.CreditIn = Some Carried.Grant
carried_in a = None

-- the one lets out what the other takes in
abbrev pub IsPassed : Entry → Entry → Type 0
IsPassed a b = (c : Carried) × (carried_out a.act a.reply ≡ Some c) × (carried_in b.act ≡ Some c)

-- entries at the two ends of a wire are the halves of one event: they have one ticket, and what goes out at the one end
-- comes in at the other
abbrev pub AreHalves : Entry → Entry → Type 0
AreHalves a b = (a.ticket ≡ b.ticket) × (IsPassed a b ⊎ IsPassed b a)

-- and so of lists, one by one
abbrev pub AgreeOneByOne : List Entry → List Entry → Type 0
AgreeOneByOne [] [] = Unit {0}
AgreeOneByOne (a ∷ entries) (b ∷ others) = AreHalves a b × AgreeOneByOne entries others
AgreeOneByOne entries others = ⊥

-- the reply of an event that is led so: a grant is done, and any other is answered as its act was
abbrev pub told_reply : ActOf Token → Reply → Reply
told_reply (ActOf.Step (ActionOf.CreditOut l)) r = ReplyOf.Done
told_reply ActOf.CreditOut r = ReplyOf.Done
told_reply a r = r

module _ (switches : ℕ) where
  -- whether an entry is at this end of a wire: its act is of the node's kind, and goes over the link
  abbrev pub passes_at : End → Entry → Bool
  passes_at end e = is_of_kind (nat_lt end.node switches) e.act && is_number end.link (act_link e.act)

  -- the entries at a port, in order
  abbrev pub passing_at : List (List Entry) → Port → List Entry
  passing_at traces p = filter (passes_at (end_among switches p)) (list_at traces (end_among switches p).node)

module _ (switches : ℕ) (wires : List Wire) where
  -- whether a link of a node has a wire, a terminal's one link being 0
  abbrev pub is_link_wired : ℕ → ℕ → Bool
  is_link_wired k l =
      if nat_lt k switches
      then is_some (other_end wires (Port.Switch k l))
      else nat_eq l 0 && is_some (other_end wires (Port.Terminal (k - switches)))

  -- the event that an act of the node at a place leads in, if it stands for one: it is of the node's kind, and where it
  -- goes over a link, this has a wire
  abbrev pub entry_event : ℕ → ActOf Token → Option Event
  entry_event k a =
      if is_of_kind (nat_lt k switches) a && on_links (is_link_wired k) a then act_event switches k a else None

  abbrev pub is_leading : ℕ → Entry → Bool
  is_leading k e = is_some (entry_event k e.act)

  -- the entries that lead, of all traces, by ticket and then by place
  abbrev pub leading_entries : List (List Entry) → List (ℕ × Lead Entry)
  leading_entries traces = merged_leads (λ (e : Entry). e.ticket) is_leading traces

  -- the event of one that leads, and its call, with the entry's ticket
  abbrev pub led_event : ℕ × Lead Entry → Option Event
  led_event m = entry_event m.1.place m.1.entry.act

  abbrev pub led_call : ℕ × Lead Entry → Option Call
  led_call m = option_map (λ e. call_of e m.1.entry.ticket (told_reply m.1.entry.act m.1.entry.reply)) (led_event m)

  -- the events of those that lead, and the calls of a seat among them
  abbrev pub led_by : List (ℕ × Lead Entry) → List Event
  led_by ms = flat_map (λ m. option_to_list (led_event m)) ms

  abbrev pub called_by : ℕ → List (ℕ × Lead Entry) → List Call
  called_by s ms = flat_map (λ (m : ℕ × Lead Entry). if carries s m.1.entry then option_to_list (led_call m) else []) ms

-- the entries that lead in the traces of lists, and the events that they tell
abbrev pub lists_leads : Lists → List (ℕ × Lead Entry)
lists_leads lists = leading_entries lists.switches lists.wires lists.traces

abbrev pub lists_events : Lists → List Event
lists_events lists = led_by lists.switches lists.wires (lists_leads lists)

-- a node is of the kind that its place says, its buffers have the size of all, and of its links those are wired that are
pub record HasShape (lists : Lists) (k : ℕ) (n : NodeShape) : Type 0 where
  pub kind : n.is_switch ≡ nat_lt k lists.switches
  pub size : n.cap ≡ lists.cap
  pub links : n.wired ≡ map (is_link_wired lists.switches lists.wires k) link_numbers

abbrev pub IsShaped : Lists → ℕ → Type 0
IsShaped lists k = (n : NodeShape) → slice_get lists.nodes k ≡ Some n → HasShape lists k n

abbrev pub IsOrdered : Lists → ℕ → Type 0
IsOrdered lists k = AreRising (λ (e : Entry). e.ticket) (list_at lists.traces k)

abbrev pub AgreeAtEnds : Lists → ℕ → Type 0
AgreeAtEnds lists i = (w : Wire) → slice_get lists.wires i ≡ Some w →
    AgreeOneByOne (passing_at lists.switches lists.traces w.here) (passing_at lists.switches lists.traces w.there)

-- the entries at the two ends of a wire carry the number of a seat alike, one by one
abbrev pub CarryAtEnds : Lists → ℕ → ℕ → Type 0
CarryAtEnds lists s i = (w : Wire) → slice_get lists.wires i ≡ Some w →
    map (carries s) (passing_at lists.switches lists.traces w.here)
    ≡ map (carries s) (passing_at lists.switches lists.traces w.there)

-- no ticket of these calls is one of those
abbrev pub HaveOtherTickets : List Call → List Call → Type 0
HaveOtherTickets calls others = AllByRecursion (λ (c : Call). AllByRecursion (λ (d : Call). c.ticket ≢ d.ticket) others) calls

-- a seat's list is exactly what the entries tell that carry its number, both ends of an event carrying it; its tickets
-- rise strictly, and none is below the first or stands in a lower seat's list
pub record IsCalled (lists : Lists) (s : ℕ) : Type 0 where
  pub told : list_at lists.calls s ≡ called_by lists.switches lists.wires s (lists_leads lists)
  pub rising : AreRising (λ (c : Call). c.ticket) (list_at lists.calls s)
  pub ends : (i : ℕ) → CarryAtEnds lists s i
  pub late : AllByRecursion (λ (c : Call). lists.first ≤ c.ticket) (list_at lists.calls s)
  pub apart : (lower : ℕ) → lower < s → HaveOtherTickets (list_at lists.calls s) (list_at lists.calls lower)

pub record IsAsBefore (lists : Lists) (k : ℕ) : Type 0 where
  pub start : option_map (λ (n : NodeShape). n.start) (slice_get lists.nodes k) ≡ slice_get lists.starts k
  pub entries : unseated (list_at lists.traces k) ≡ list_at lists.before k

-- the lists are those of one run
pub record IsAudited (lists : Lists) : Type 0 where
  pub shaped : (k : ℕ) → IsShaped lists k
  pub ordered : (k : ℕ) → IsOrdered lists k
  pub ended : (i : ℕ) → AgreeAtEnds lists i
  pub called : (s : ℕ) → IsCalled lists s
  pub before : (k : ℕ) → IsAsBefore lists k

-- a port is a link of one of `count` nodes, which begin with this number of switches
abbrev pub IsEndAmong : ℕ → ℕ → Port → Type 0
IsEndAmong switches count (Port.Switch s l) = (s < switches) × (l < LINKS)
IsEndAmong switches count (Port.Terminal t) = switches + t < count

-- what a judge asks of lists: those per node are equally long, and each wire ends at links of two different nodes of them
pub record AreLists (lists : Lists) : Type 0 where
  pub starts : length lists.starts ≡ length lists.nodes
  pub before : length lists.before ≡ length lists.nodes
  pub traces : length lists.traces ≡ length lists.nodes
  pub switches : lists.switches ≤ length lists.nodes
  pub apart : (i : ℕ) (w : Wire) → slice_get lists.wires i ≡ Some w →
      (end_among lists.switches w.here).node ≢ (end_among lists.switches w.there).node
  pub inside : (i : ℕ) (w : Wire) → slice_get lists.wires i ≡ Some w →
      IsEndAmong lists.switches (length lists.nodes) w.here × IsEndAmong lists.switches (length lists.nodes) w.there
