-- Fabrics: the plan, the word of tickets, and what the nodes had done when the fabric was made; and what a fabric leaves.
use Rattle.{c104_event.specs.Calls.tickets_of, c104_node.specs.{Records.{NodeRecord, NodeRoom}, declared.acts.Entry.Entry}}
use Rattle.{c104_node.specs.declared.starts.NodeStart.NodeStart, c104_plan.specs.{PlanParts.empty_plan, Plans.Plan}}
use Rattle.{c104_run.specs.{NetParts.node_count, NetRecords.{IsNetRecord, NetRecord}}, c104_tickets.specs.Tickets.TableId}
use Rattle.{c104_tickets.specs.declared.views.Terms.Terms, c104_turns.specs.Calls.SeatView}
use Rattle.c104_workers.specs.declared.calls.SeatCalls.{SeatCalls}
use Rattle.std.specs.Prelude.{List, [], ℕ, ◌++◌, ◌∷◌, ◌≡◌}

-- what is known of the network of a fabric: its plan, how many events it had done, where its nodes started, and what they
-- had done since
pub record Handed : Type 0 where
  pub plan : Plan
  pub count : ℕ
  pub starts : List NodeStart
  pub before : List (List Entry)

-- what is so known of a network with its record
abbrev pub handed_of : NetRecord → Handed
handed_of r = record {
  plan = r.network.plan;
  count = r.count;
  starts = r.starts;
  before = r.traces;
}

-- it is known of some network with its record: so what the nodes had done is that of one run
pub record WasHanded (handed : Handed) : Type 0 where
  pub net : NetRecord
  pub kept : IsNetRecord net
  pub is : handed ≡ handed_of net

-- a fabric as it is seen: what is known of its network, its word of tickets, and what that was told
pub record FabricView : Type 0 where
  pub handed : Handed
  pub word_id : TableId
  pub terms : Terms

-- a network of which a fabric may be made, and its word of tickets, as they are seen
pub record ReadyView : Type 0 where
  pub net : NetRecord
  pub word_id : TableId
  pub terms : Terms

-- what a fabric tells its word of tickets: the first ticket is how many events were done, and there is a place for each node
abbrev pub terms_of : NetRecord → ℕ → Terms
terms_of r seats = record { first = r.count; seats = seats; places = node_count r.network.plan }

-- a network that no fabric has
abbrev pub nothing_handed : Handed
nothing_handed = record { plan = empty_plan; count = 0; starts = []; before = [] }

abbrev pub seat_view : SeatView × ℕ → SeatView
seat_view s = s.0

-- a seat draws from this word
abbrev pub IsSeatOf : TableId → SeatView × ℕ → Type 0
IsSeatOf word_id s = s.0.word_id ≡ word_id

-- the same of each of a list
abbrev pub AreSeatsOf : TableId → List (SeatView × ℕ) → Type 0
AreSeatsOf word_id [] = Unit {0}
AreSeatsOf word_id (s ∷ seats) = IsSeatOf word_id s × AreSeatsOf word_id seats

-- the tickets of seats
abbrev pub all_tickets : List (SeatView × ℕ) → List ℕ
all_tickets [] = []
all_tickets (s ∷ seats) = tickets_of s.0.calls ++ all_tickets seats

-- what a seat leaves
abbrev pub calls_of : SeatView × ℕ → SeatCalls
calls_of s = record { number = s.0.number; calls = s.0.calls; lent = s.0.lent }

-- what a fabric leaves
pub record Left : Type 0 where
  pub handed : Handed
  -- how many seats the fabric had, and the ticket after the last
  pub seat_count : ℕ
  pub next : ℕ
  pub nodes : List (NodeRecord × NodeRoom)
  pub seats : List SeatCalls
