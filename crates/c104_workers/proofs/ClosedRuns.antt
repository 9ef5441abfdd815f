-- What a fabric leaves when its word is closed is one run.
use Rattle.{c104_node.specs.Records.{NodeRecord, NodeRoom}, c104_plan.specs.Plans.IsPlan, c104_run.specs.NetParts.node_count}
use Rattle.{c104_tickets.specs.{Tickets.AreNumbered, declared.views.{Done.Done, Terms.Terms, Track.Track}}, c104_turns.specs.Calls.SeatView}
use Rattle.c104_workers.proofs.{ClosedNodes.nodes_did, ClosedWords.{log_seated, log_seats}, LogRecords.{all_inside, log_is}}
use Rattle.c104_workers.specs.{Closing.{HoldTracks, TellTracks}, Fabrics.{Handed, WasHanded, calls_of}, OneRuns.IsLeft}
use Rattle.{c104_workers.specs.declared.calls.SeatCalls.SeatCalls, std.proofs.Common.{List, ap, length, map, subst, sym, ℕ, ◌+◌, ◌∙◌, ◌≡◌}}

-- the nodes and the seats that were taken out tell one run
one_left : (handed : Handed) (was : WasHanded handed) → IsPlan handed.plan → (terms : Terms) (next : ℕ) (seats : List (SeatView × ℕ))
    (nodes : List (NodeRecord × NodeRoom)) (old others : List Track) (count : ℕ) → TellTracks terms next seats others
    → HoldTracks handed nodes old others → terms.first ≡ handed.count → terms.places ≡ node_count handed.plan
    → length nodes ≡ node_count handed.plan → count ≡ terms.seats
    → IsLeft (record { handed = handed; seat_count = count; next = next; nodes = nodes; seats = map calls_of seats })
one_left handed was is_plan terms next seats nodes old others count told held first places full counted =
    let log : List Done = told.closed.log in
    let numbered : AreNumbered handed.count log = subst (λ n. AreNumbered n log) first told.closed.numbered in
    record {
      nodes = full;
      handed = was;
      one = record {
        log = log;
        numbered = numbered;
        last = told.closed.last ∙ ap (λ n. n + length log) first;
        seated = log_seated terms next seats others told count counted;
        run = log_is handed was is_plan log numbered nodes full
            (nodes_did handed terms next seats nodes old others told held (full ∙ sym places))
            (all_inside handed.plan terms log places told.closed.inside);
        seats = log_seats terms next seats others told;
      };
    }

-- and so it is where its fields have other names
pub left_is : (handed : Handed) (was : WasHanded handed) → IsPlan handed.plan → (terms : Terms) (next : ℕ) (seats : List (SeatView × ℕ))
    (nodes : List (NodeRecord × NodeRoom)) (old others : List Track) (first count : ℕ) (lists : List SeatCalls)
    → TellTracks terms next seats others → HoldTracks handed nodes old others → terms.first ≡ handed.count
    → terms.places ≡ node_count handed.plan → length nodes ≡ node_count handed.plan → count ≡ terms.seats → first ≡ handed.count
    → lists ≡ map calls_of seats → IsLeft (record {
      handed = record { plan = handed.plan; count = first; starts = handed.starts; before = handed.before };
      seat_count = count;
      next = next;
      nodes = nodes;
      seats = lists;
    })
left_is handed was is_plan terms next seats nodes old others first count lists told held begins places full counted same listed =
    let left = one_left handed was is_plan terms next seats nodes old others count told held begins places full counted in
    subst (λ (n : ℕ). IsLeft (record {
      handed = record { plan = handed.plan; count = n; starts = handed.starts; before = handed.before };
      seat_count = count;
      next = next;
      nodes = nodes;
      seats = lists;
    })) (sym same)
    (subst (λ (ss : List SeatCalls). IsLeft (record { handed = handed; seat_count = count; next = next; nodes = nodes; seats = ss }))
    (sym listed) left)
