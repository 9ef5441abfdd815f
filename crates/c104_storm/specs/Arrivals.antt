-- The packets that arrived in a run, sorted.
use Rattle.{c104_net.specs.{Deliveries.arrived_at, TracedEnds.traced_end}, c104_node.specs.Origins.origins_in}
use Rattle.{c104_node.specs.declared.{origins.Origin.Origin, traced.Traced.Traced}, c104_plan.specs.Plans.Plan}
use Rattle.{c104_run.specs.FinishedRecords.FinishedRecord, c104_storm.specs.{Texts.arrival_line, declared.packets.Arrival.Arrival}}
use Rattle.c104_token.specs.{Cut.whole_pieces, Packets.packet_tokens, declared.packets.Packet.Packet}
use Rattle.std.specs.{List.Sorted.IsPermutation, Prelude.{List, [], flat_map, map, suc, zero, ℕ, ◌++◌, ◌<◌, ◌∷◌, ◌≡◌, ◌≤◌, ◌⊎◌}}

-- a whole packet that arrived, and where it came from
pub record Arrived : Type 0 where
  pub packet : Packet
  pub origin : Origin

-- the same of one whose packet is lent
abbrev pub arrived_of : Arrival → Arrived
arrived_of arrival = record { packet = arrival.packet.now; origin = arrival.origin }

-- the line of a packet that arrived at a terminal
abbrev pub arrived_line : Plan → ℕ → Arrived → List ℕ
arrived_line plan terminal arrived = arrival_line plan terminal arrived.packet arrived.origin

-- these are the whole packets of tokens, in order, each with the origin that its terminator tells
pub record AreArrivals (tokens : List Traced) (arrivals : List Arrived) : Type 0 where
  pub packets : map (λ (a : Arrived). packet_tokens a.packet) arrivals ≡ whole_pieces (λ x. x) [] (map (λ (x : Traced). x.token) tokens)
  pub origins : map (λ (a : Arrived). a.origin) arrivals ≡ origins_in tokens

-- a packet of the one origin may stand before one of the other: its sender's number is less, or it is the same sender's
-- and its own number isn't greater
abbrev pub IsUpTo : Origin → Origin → Type 0
IsUpTo first next = (first.terminal < next.terminal) ⊎ ((first.terminal ≡ next.terminal) × (first.number ≤ next.number))

-- packets that arrived stand by their senders, and those of one sender by their numbers
abbrev pub AreSorted : List Arrived → Type 0
AreSorted [] = Unit {0}
AreSorted (a ∷ []) = Unit {0}
AreSorted (a ∷ b ∷ arrivals) = IsUpTo a.origin b.origin × AreSorted (b ∷ arrivals)

-- packets and their origins, one by one
pub record AreAll (packets : List Packet) (origins : List Origin) (arrivals : List Arrived) : Type 0 where
  pub packets_are : map (λ (a : Arrived). a.packet) arrivals ≡ packets
  pub origins_are : map (λ (a : Arrived). a.origin) arrivals ≡ origins

-- the same, sorted
pub record IsSortedOf (packets : List Packet) (origins : List Origin) (sorted : List Arrived) : Type 0 where
  pub arrivals : List Arrived
  pub all : AreAll packets origins arrivals
  pub same : IsPermutation arrivals sorted
  pub rising : AreSorted sorted

-- the lines of the whole packets among the tokens that arrived at a terminal, sorted, join a text
pub record JoinSorted (plan : Plan) (terminal : ℕ) (tokens : List Traced) (old new : List ℕ) : Type 0 where
  pub arrivals : List Arrived
  pub are : AreArrivals tokens arrivals
  pub sorted : List Arrived
  pub same : IsPermutation arrivals sorted
  pub rising : AreSorted sorted
  pub is : new ≡ old ++ flat_map (arrived_line plan terminal) sorted

-- the lines of what arrived at the first n terminals of a run join a text, terminal by terminal. Where packets came from is
-- told by their own tokens, in the same run over tokens that tell it.
abbrev pub JoinArrivals : FinishedRecord → List ℕ → ℕ → List ℕ → Type 0
JoinArrivals run old zero new = new ≡ old
JoinArrivals run old (suc n) new = (text : List ℕ) × JoinArrivals run old n text
    × JoinSorted run.finished.plan n (arrived_at (traced_end run) n) text new
