-- Fabrics on which nobody changed the network, and what is then known of what they left.
--     IsLeftByWorkers handed left      what workers left through all seats of a fabric
--     IsCalmLeft plan image left      what a fabric left whose network nobody changed, before or through a seat
--     AreLeftOrigins routes left lists      the lists are the origins of what arrived in the run of the seats' calls
--     StandsQuiet left      where the nodes stand still, they are quiet
use Rattle.{c104_check.specs.Routes.{Routes, routes_of}, c104_event.specs.declared.calls.Call.Call, c104_net.specs.RoundEvents.IsOfRound}
use Rattle.{c104_node.specs.{Records.node_state, declared.origins.Origin.Origin}, c104_plan.specs.{PlanImage.Image, Plans.Plan}}
use Rattle.c104_run.specs.{FinishedRecords.FinishedRecord, NetRecords.NetRecord, Network.{Network, network_of}, QuietNets.IsQuiet}
use Rattle.{c104_run.specs.Standstill.StandsStill, c104_tests_net.specs.CalmNets.{IsCalm, IsCalmDone, IsListed, IsNamed}}
use Rattle.{c104_tests_net.specs.FoundPackets.AreFoundOnce, c104_token.specs.{Kinds.plain_kind, declared.tokens.Token.Token}}
use Rattle.{c104_turns.specs.Calls.{IsSameSeat, SeatView}, c104_workers.specs.{Audited.TellsSeats, Fabrics.{Handed, Left, handed_of}}}
use Rattle.c104_workers.specs.{OneRuns.IsWhole, declared.calls.SeatCalls.SeatCalls}
use Rattle.std.specs.{Global.Vec as Kept, Prelude.{All, List, length, map, slice_index_or, ℕ, ◌++◌, ◌<◌, ◌≡◌}}

-- a call of an event that left registers as they were, and sent what any terminal may send
abbrev pub IsCalmCall : Routes → Call → Type 0
IsCalmCall routes c = IsCalmDone routes c.event c.reply

-- the same of each call of a seat
abbrev pub IsCalmSeat : Routes → SeatCalls → Type 0
IsCalmSeat routes s = All (IsCalmCall routes) s.calls

-- a call of an event of a kind that rounds have: no packet is sent, and no command is given
abbrev pub IsRoundCall : Call → Type 0
IsRoundCall c = IsOfRound c.event

-- what was done through a seat: it is the seat that it was, and its list grew by such calls
pub record HasDoneRounds (old new : SeatView) : Type 0 where
  pub same : IsSameSeat old new
  pub more : List Call
  pub listed : new.calls ≡ old.calls ++ more
  pub own : All IsRoundCall more

-- the same of each of some seats
abbrev pub HaveDoneRounds : List (SeatView × ℕ) → List (SeatView × ℕ) → Type 0
HaveDoneRounds old new = (length new ≡ length old)
    × ((i : ℕ) (d : SeatView × ℕ) → i < length old → HasDoneRounds (slice_index_or old i d).0 (slice_index_or new i d).0)

-- what workers left of a fabric, of which this was known when it was made: all its seats, with such calls
pub record IsLeftByWorkers (handed : Handed) (left : Left) : Type 0 where
  pub handed_so : left.handed ≡ handed
  pub whole : IsWhole left
  pub calls : All (λ (s : SeatCalls). All IsRoundCall s.calls) left.seats

-- what a fabric left that was made of a network that nobody had changed since it started as an image says, and through whose
-- seats nobody changed it
pub record IsCalmLeft (plan : Plan) (image : Image) (left : Left) : Type 0 where
  pub net : NetRecord
  pub handed : left.handed ≡ handed_of net
  pub calm : IsCalm plan image net
  pub calls : All (IsCalmSeat (routes_of plan image)) left.seats

-- the network of the nodes that a fabric left
abbrev pub left_network : Left → Network Token
left_network left = network_of left.handed.plan (map node_state left.nodes)

-- in the run that the seats' calls tell and nothing else, a terminal received a k-th packet, and it is the whole packet of
-- this origin
abbrev pub IsNamedBySeats : Routes → Left → ℕ → ℕ → Origin → Type 0
IsNamedBySeats routes left t k o = (run : FinishedRecord) × TellsSeats left run × IsNamed routes run t k o

-- lists are the origins of what arrived at each terminal in that run: each names the packet that was received at its place, no
-- packet stands at two places, and where no token stands anywhere none is missing
pub record AreLeftOrigins (routes : Routes) (left : Left) (lists : List (Kept Origin)) : Type 0 where
  pub named : (t k : ℕ) (o : Origin) → IsListed lists t k o → IsNamedBySeats routes left t k o
  pub once : (t u i j : ℕ) (o : Origin) → IsListed lists t i o → IsListed lists u j o → (t ≡ u) × (i ≡ j)
  pub found : IsQuiet (left_network left) → AreFoundOnce routes (left_network left) lists

-- where no event of a round can be done on the nodes that a fabric left, no token stands anywhere
abbrev pub StandsQuiet : Left → Type 0
StandsQuiet left = StandsStill plain_kind (left_network left) → IsQuiet (left_network left)

-- and so each packet that was sent to a terminal has come there
abbrev pub StandsDelivered : Routes → Left → List (Kept Origin) → Type 0
StandsDelivered routes left lists = StandsStill plain_kind (left_network left) → AreFoundOnce routes (left_network left) lists
