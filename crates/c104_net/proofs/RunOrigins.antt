-- What a run that is done once more tells of where its packets came from.
use Rattle.{c104_check.specs.Routes.{IsAccepted, routes_of}, c104_event.specs.declared.events.Event.Event, c104_link.specs.Steps.◌>>=◌}
use Rattle.c104_net.proofs.{NamedOrigins.{found_origins, named_origins, quiet_traced, sent_plain}, OriginPieces.packet_origin}
use Rattle.c104_net.proofs.{Promises.headline, SentBytes.{AreBytesSent, IsFitEntry, fit_run, run_bytes}, StartMaps.starts_are}
use Rattle.c104_net.proofs.{StartMaps.still_placed, SureOrigins.arrived_sure, ToldEvents.events_told, TracedRuns.{run_after, token_of}}
use Rattle.c104_net.{proofs.TracedRuns.traced_from, specs.{Deliveries.{Promise, arrived_at}, Merges.by_ticket, Replays.TellsOn}}
use Rattle.c104_net.specs.{RunOrigins.AreOrigins, ToldEvents.{told_by, told_event, told_events}, TracedEnds.traced_end}
use Rattle.{c104_net.specs.Unchanged.{AreStartsOf, IsUnchanged}, c104_node.specs.{MappedNodes.map_node, Nodes.{Node, arrived_tokens}}}
use Rattle.c104_node.specs.{Nodes.{is_switch, node_arrived, terminals_of}, Origins.{AreSure, origins_in}, Starts.start_node}
use Rattle.c104_node.specs.{Terminals.Terminal, Traced.traced_kind, Traces.part, declared.{acts.Entry.Entry, ends.End.End}}
use Rattle.c104_node.specs.declared.{node.NodeOf.NodeOf, origins.Origin.Origin, stamps.Stamp.Stamp, starts.NodeStart.NodeStart}
use Rattle.{c104_node.specs.declared.traced.Traced.Traced, c104_plan.specs.{PlanImage.Image, Plans.{IsPlan, Plan}}}
use Rattle.c104_run.proofs.{Finishing.{arrived_same, terminals_counted}, NodeMaps.kinds_plain, StartsBack.starts_back}
use Rattle.c104_run.specs.{Balance.{AreInPlace, IsSteady, credit_at, credit_of, granted_at, granted_of}, Ends.end_of, EventRuns.run_events}
use Rattle.c104_run.specs.{Finished.{FinishedRun, network_finish, run_arrived}, FinishedRecords.{FinishedRecord, IsFinishedRecord}}
use Rattle.c104_run.specs.{FinishedRecords.{ended_record, record_finish}, NetRecords.{NetRecord, fresh_record}, Network.Network}
use Rattle.c104_run.specs.{Network.{network_apply, network_arrived, network_of, terminal_place}, Runs.{IsDoneRun, IsRunRecord}}
use Rattle.{c104_run.specs.{TracedRuns.IsTracedRun, WiredActs.IsRecordedAt}, c104_switch.specs.{Actions.Reply, Starts.start_input}}
use Rattle.{c104_switch.specs.{Starts.start_output, declared.link_start.LinkStart.LinkStart}, c104_token.specs.Kinds.plain_kind}
use Rattle.{c104_token.specs.declared.tokens.Token.Token, std.proofs.Common.{All, Err, IfOk, List, None, Ok, Option, Result, Some, [], ap}}
use Rattle.std.proofs.Common.{arith, get_or, if◌then◌else◌, length, map, nat_lt, option_map, refl, slice_get, subst, suc, sym, true, ℕ}
use Rattle.std.proofs.{Common.{⊎_elim, ◌++◌, ◌<◌, ◌∙◌, ◌∷◌, ◌≡◌, ◌≤◌}, lemmas.{Bool.Decides.nat_tests, List.length-map}}
use Rattle.std.proofs.lemmas.Option.{slice_get-map, slice_get_cases}

-- starts read no token: what holds of the credits at a start holds of them over any kind of token
module _ (A B : Type 0) where
  output_same : (o : Option LinkStart) → (option_map (start_output {A = B}) o >>= (λ q. Some q.credit)) ≡ (option_map (start_output {A = A}) o >>= (λ q. Some q.credit))
  output_same None = refl
  output_same (Some l) = refl

  input_same : (o : Option LinkStart) → (option_map (start_input {A = B}) o >>= (λ p. Some p.buffer.granted)) ≡ (option_map (start_input {A = A}) o >>= (λ p. Some p.buffer.granted))
  input_same None = refl
  input_same (Some l) = refl

  credit_start : (l : ℕ) (s : NodeStart) → credit_of l (start_node {A = B} s) ≡ credit_of l (start_node {A = A} s)
  credit_start l (NodeStart.Switch s) = rw (slice_get-map (start_output {A = B}) s.links l, slice_get-map (start_output {A = A}) s.links l) (output_same (slice_get s.links l))
  credit_start l (NodeStart.Terminal t) = refl

  granted_start : (l : ℕ) (s : NodeStart) → granted_of l (start_node {A = B} s) ≡ granted_of l (start_node {A = A} s)
  granted_start l (NodeStart.Switch s) = rw (slice_get-map (start_input {A = B}) s.links l, slice_get-map (start_input {A = A}) s.links l) (input_same (slice_get s.links l))
  granted_start l (NodeStart.Terminal t) = refl

  credit_there : (l : ℕ) (o : Option NodeStart) → (option_map (start_node {A = B}) o >>= credit_of l) ≡ (option_map (start_node {A = A}) o >>= credit_of l)
  credit_there l None = refl
  credit_there l (Some s) = credit_start l s

  granted_there : (l : ℕ) (o : Option NodeStart) → (option_map (start_node {A = B}) o >>= granted_of l) ≡ (option_map (start_node {A = A}) o >>= granted_of l)
  granted_there l None = refl
  granted_there l (Some s) = granted_start l s

  credits_same : (starts : List NodeStart) (end : End) → credit_at (map (start_node {A = B}) starts) end ≡ credit_at (map (start_node {A = A}) starts) end
  credits_same starts end = rw (slice_get-map (start_node {A = B}) starts end.node, slice_get-map (start_node {A = A}) starts end.node) (credit_there end.link (slice_get starts end.node))

  grants_same : (starts : List NodeStart) (end : End) → granted_at (map (start_node {A = B}) starts) end ≡ granted_at (map (start_node {A = A}) starts) end
  grants_same starts end = rw (slice_get-map (start_node {A = B}) starts end.node, slice_get-map (start_node {A = A}) starts end.node) (granted_there end.link (slice_get starts end.node))

  pub still_steady : (plan : Plan) (starts : List NodeStart) → IsSteady {A = A} (network_of plan (map start_node starts)) → IsSteady {A = B} (network_of plan (map start_node starts))
  still_steady plan starts steady = record {
    in_place = still_placed A B plan starts steady.in_place;
    balanced = λ p q wired. let level = steady.balanced p q wired in (level.0, credits_same starts (end_of plan p) ∙ level.1, grants_same starts (end_of plan q) ∙ level.2);
  }

-- a run of a network by its own fields, and that what was sent in it are bytes
pub record IsKeptRun (run : FinishedRecord) : Type 0 where
  pub stamps : ℕ → Stamp
  pub events : List (Event × Reply)
  pub nodes : List (Node Token)
  pub told : IsRunRecord plain_kind run.finished.plan stamps (map start_node run.starts) nodes run.traces run.count events
  pub ended : run.finished ≡ network_finish (network_of run.finished.plan nodes)
  pub placed : AreInPlace run.finished.plan nodes
  pub started : IsSteady {A = Token} (network_of run.finished.plan (map start_node run.starts))
  pub sent : AreBytesSent events

-- each trace that is kept of a network is within the limits of a packet
pub traces_fit : (net : NetRecord) → ((k : ℕ) → IsRecordedAt net k) → (k : ℕ) (trace : List Entry) → slice_get net.traces k ≡ Some trace → All IsFitEntry trace
traces_fit net recorded k trace at =
    let found = recorded k trace at in
    let both : Some found.0.trace ≡ Some trace = sym found.1.trace ∙ at in
    let same : found.0.trace ≡ trace = cc in
    subst (All IsFitEntry) same (fit_run found.0.wired (start_node found.0.start) found.0.state found.0.trace found.1.recorded.run)

pub kept_run : (run : FinishedRecord) → IsFinishedRecord run → IsKeptRun run
kept_run run is = record {
  stamps = is.stamps;
  events = is.events;
  nodes = is.nodes;
  told = is.told;
  ended = is.ended;
  placed = is.placed;
  started = is.started;
  sent = run_bytes run.finished.plan is.stamps (map start_node run.starts) is.nodes run.traces run.count is.events is.started.in_place is.told (traces_fit (ended_record run is.nodes) is.recorded);
}

module _ (run : FinishedRecord) (is_plan : IsPlan run.finished.plan) (kept : IsKeptRun run) where
  abbrev plan : Plan
  plan = run.finished.plan

  -- the same run over tokens that tell where they came from
  pub traced : (traced : List (Node Traced)) × IsTracedRun run.finished.plan run.starts kept.events kept.nodes traced
  traced = traced_from run.finished.plan run.starts kept.nodes kept.events kept.told.run

-- the origins of what arrived at each terminal among nodes
abbrev pub terminal_origins : Terminal Traced → List Origin
terminal_origins t = origins_in t.arrived

origins_there : (found : Terminal Traced) (o : Option (Node Traced)) → ◌≡◌ {A = Option (List Traced)} (Some found.arrived) (o >>= node_arrived) → origins_in found.arrived ≡ origins_in (part [] arrived_tokens o)
origins_there found (Some (NodeOf.Terminal t)) is = let same : found.arrived ≡ t.arrived = cc in ap origins_in same
origins_there found o is = absurd (cc)

plain_node : (arrived : List Traced) (o : Option (Node Traced)) → ◌≡◌ {A = Option (List Traced)} (Some arrived) (o >>= node_arrived) → (option_map (map_node token_of) o >>= node_arrived) ≡ Some (map token_of (part [] arrived_tokens o))
plain_node arrived (Some (NodeOf.Terminal t)) is = refl
plain_node arrived o is = absurd (cc)

module _ (plan : Plan) (nodes : List (Node Traced)) (placed : AreInPlace plan nodes) where
  lists_counted : length (map terminal_origins (terminals_of nodes)) ≡ length plan.terminals
  lists_counted = length-map (terminals_of nodes) terminal_origins ∙ terminals_counted plan nodes placed

  -- a terminal of the plan is there, and what arrived at it
  terminal_there : (t : ℕ) → t < length plan.terminals → (found : Terminal Traced) × (slice_get (terminals_of nodes) t ≡ Some found) × (◌≡◌ {A = Option (List Traced)} (Some found.arrived) (slice_get nodes (terminal_place plan t) >>= node_arrived))
  terminal_there t inside = ⊎_elim
      (λ (there : (x : Terminal Traced) × (t < length (terminals_of nodes)) × (slice_get (terminals_of nodes) t ≡ Some x) × (get_or (terminals_of nodes) t x ≡ x)). by_terminal there.0 there.2)
      (λ (past : (length (terminals_of nodes) ≤ t) × (slice_get (terminals_of nodes) t ≡ None)). absurd (let few = past.0 in let counted = terminals_counted plan nodes placed in let no : ⊥ = omega (arith, few, counted, inside) in no))
      (slice_get_cases (terminals_of nodes) t).1
    where
      by_terminal : (found : Terminal Traced) → slice_get (terminals_of nodes) t ≡ Some found → (found : Terminal Traced) × (slice_get (terminals_of nodes) t ≡ Some found) × (◌≡◌ {A = Option (List Traced)} (Some found.arrived) (slice_get nodes (terminal_place plan t) >>= node_arrived))
      by_terminal found some =
          let told : ◌≡◌ {A = Option (List Traced)} (Some found.arrived) (network_arrived (network_of plan nodes) t) = ap (λ (o : Option (Terminal Traced)). o >>= (λ (x : Terminal Traced). Some x.arrived)) (sym some) ∙ arrived_same (network_of plan nodes) placed t in
          let here : nat_lt t (length plan.terminals) ≡ true = grind (arith, nat_tests) in
          (found, some, told ∙ ap (λ b. if b then (slice_get nodes (terminal_place plan t) >>= node_arrived) else None) here)

  list_there : (t : ℕ) → t < length plan.terminals → slice_get (map terminal_origins (terminals_of nodes)) t ≡ Some (origins_in (arrived_at (network_of plan nodes) t))
  list_there t inside =
      let there = terminal_there t inside in
      slice_get-map terminal_origins (terminals_of nodes) t ∙ ap (option_map terminal_origins) there.1 ∙ ap Some (origins_there there.0 (slice_get nodes (terminal_place plan t)) there.2)

  -- what arrived there without where it came from is what arrived in the plain run
  plain_there : (run : FinishedRun Token) (ends : List (Node Token)) → run ≡ network_finish (network_of plan ends) → AreInPlace plan ends → map (map_node token_of) nodes ≡ ends → (t : ℕ) → t < length plan.terminals → run_arrived run t ≡ Some (map token_of (arrived_at (network_of plan nodes) t))
  plain_there run ends ended stand plain t inside =
      let there = terminal_there t inside in
      let here : nat_lt t (length plan.terminals) ≡ true = grind (arith, nat_tests) in
      ap (λ (r : FinishedRun Token). run_arrived r t) ended
      ∙ arrived_same (network_of plan ends) stand t
      ∙ ap (λ b. if b then (slice_get ends (terminal_place plan t) >>= node_arrived) else None) here
      ∙ ap (λ (ns : List (Node Token)). slice_get ns (terminal_place plan t) >>= node_arrived) (sym plain)
      ∙ ap (λ (o : Option (Node Token)). o >>= node_arrived) (slice_get-map (map_node token_of) nodes (terminal_place plan t))
      ∙ plain_node there.0.arrived (slice_get nodes (terminal_place plan t)) there.2

-- the lists of the traced run's terminals are the origins of the run
module _ (run : FinishedRecord) (is_plan : IsPlan run.finished.plan) (kept : IsKeptRun run) where
  traced_placed : AreInPlace run.finished.plan (traced run is_plan kept).0
  traced_placed = sym (kinds_plain (λ (x : Traced). x.token) (traced run is_plan kept).0) ∙ ap (map is_switch) (traced run is_plan kept).1.plain ∙ kept.placed

  -- over tokens that tell where they came from the run ends where the events that its traces tell lead
  pub ends_traced : traced_end run ≡ network_of run.finished.plan (traced run is_plan kept).0
  unfolding traced_end
  ends_traced =
      ap (λ (events : List Event). (run_events (network_apply traced_kind) (network_of run.finished.plan (map start_node run.starts)) events).1)
      (events_told run.finished.plan is_plan kept.stamps (map start_node run.starts) kept.nodes run.traces run.count kept.events kept.told kept.started.in_place)
      ∙ run_after traced_kind (network_of run.finished.plan (map start_node run.starts)) (network_of run.finished.plan (traced run is_plan kept).0) kept.events (traced run is_plan kept).1.run

  -- lists that are those of where the traced run ends are the origins of the run
  origins_are : (lists : List (List Origin)) → length lists ≡ length run.finished.plan.terminals →
      ((t : ℕ) → t < length run.finished.plan.terminals → slice_get lists t ≡ Some (origins_in (arrived_at (traced_end run) t))) → AreOrigins run lists
  origins_are lists counted each =
      let found = traced run is_plan kept in
      let promised : (image : Image) → IsAccepted (routes_of run.finished.plan image) → AreStartsOf run.finished.plan image run.starts → IsUnchanged (routes_of run.finished.plan image) kept.events → Promise (routes_of run.finished.plan image) (network_of run.finished.plan found.0) = λ image accepted are unchanged. headline image (network_of run.finished.plan (map start_node run.starts)) (network_of run.finished.plan found.0) kept.events is_plan accepted (starts_are run.finished.plan image run.starts are) found.1.run unchanged kept.sent in
      let is : network_of run.finished.plan found.0 ≡ traced_end run = sym ends_traced in
      record {
        events = kept.events;
        nodes = kept.nodes;
        done = kept.told.run;
        ended = kept.ended;
        events_told = events_told run.finished.plan is_plan kept.stamps (map start_node run.starts) kept.nodes run.traces run.count kept.events kept.told kept.started.in_place;
        once_more = subst (λ (net : Network Traced). IsDoneRun traced_kind (network_of run.finished.plan (map start_node run.starts)) kept.events net) is found.1.run;
        same_plan = ap (λ (net : Network Traced). net.plan) ends_traced;
        plain = subst (λ (net : Network Traced). (t : ℕ) → t < length run.finished.plan.terminals → run_arrived run.finished t ≡ Some (map (λ (x : Traced). x.token) (arrived_at net t))) is (plain_there run.finished.plan found.0 traced_placed run.finished kept.nodes kept.ended kept.placed found.1.plain);
        sure = subst (λ (net : Network Traced). (t : ℕ) → AreSure (arrived_at net t)) is (arrived_sure run.finished.plan run.starts kept.events (network_of run.finished.plan found.0) found.1.run);
        counted = counted;
        each = each;
        promise = λ image accepted are unchanged. subst (Promise (routes_of run.finished.plan image)) is (promised image accepted are unchanged);
        named = λ image accepted are unchanged. named_origins (routes_of run.finished.plan image) (traced_end run) (subst (Promise (routes_of run.finished.plan image)) is (promised image accepted are unchanged));
        found = λ image accepted are unchanged quiet a n t p sent whole owned.
            subst (λ (net : Network Traced). (k : ℕ) × (slice_get (origins_in (arrived_at net t)) k ≡ Some (packet_origin a n))) is
            (found_origins (routes_of run.finished.plan image) (network_of run.finished.plan found.0) (promised image accepted are unchanged) (quiet_traced run.finished.plan found.0 kept.nodes found.1.plain quiet) a n t p
            (ap (λ ps. slice_get ps n) (sym (sent_plain run.finished.plan found.0 kept.nodes found.1.plain a)) ∙ sent) whole owned);
      }

  pub origins_lent : (lists : List (List Origin)) → lists ≡ map terminal_origins (terminals_of (traced run is_plan kept).0) → AreOrigins run lists
  origins_lent lists are =
      let nodes : List (Node Traced) = (traced run is_plan kept).0 in
      origins_are lists (ap length are ∙ lists_counted run.finished.plan nodes traced_placed)
      (λ t inside. ap (λ ls. slice_get ls t) are ∙ list_there run.finished.plan nodes traced_placed t inside ∙ ap (λ (net : Network Traced). Some (origins_in (arrived_at net t))) (sym ends_traced))

-- runs from the same starts, whose traces tell the same events, end alike over tokens that tell where they came from
same_end : (one two : FinishedRecord) → one.finished.plan ≡ two.finished.plan → one.starts ≡ two.starts → told_events one.finished.plan one.traces ≡ told_events two.finished.plan two.traces → traced_end one ≡ traced_end two
unfolding traced_end
same_end one two plan starts told =
    ap (λ (p : Plan). (run_events (network_apply traced_kind) (network_of p (map start_node one.starts)) (told_events one.finished.plan one.traces)).1) plan
    ∙ ap (λ (ss : List NodeStart). (run_events (network_apply traced_kind) (network_of two.finished.plan (map start_node ss)) (told_events one.finished.plan one.traces)).1) starts
    ∙ ap (λ (es : List Event). (run_events (network_apply traced_kind) (network_of two.finished.plan (map start_node two.starts)) es).1) told

-- where nothing was done no event is told
none_by : (switches k : ℕ) (nodes : List (Node Token)) → told_by switches k (map (λ n. []) nodes) ≡ []
none_by switches k [] = refl
none_by switches k (n ∷ nodes) = none_by switches (suc k) nodes

none_told : (net : Network Token) → told_events net.plan (fresh_record net).traces ≡ []
unfolding told_events
none_told net = ap (λ es. map told_event (by_ticket es)) (none_by (length net.plan.switches) 0 net.nodes)

-- the origins that a network tells in which a run was done once more are those of the run
module _ (run : FinishedRecord) (is_plan : IsPlan run.finished.plan) (kept : IsKeptRun run) where
  abbrev start : Network Token
  start = network_of run.finished.plan (map start_node run.starts)

  pub origins_replayed : (first last : NetRecord) (lists : List (List Origin)) → first ≡ fresh_record start → TellsOn first (told_events first.network.plan run.traces) last → AreOrigins (record_finish last) lists → AreOrigins run lists
  origins_replayed first last lists begun on are =
      let plan : last.network.plan ≡ run.finished.plan = on.plan ∙ ap (λ (r : NetRecord). r.network.plan) begun in
      let told : told_events last.network.plan last.traces ≡ told_events run.finished.plan run.traces =
      on.told ∙ ap (λ (r : NetRecord). told_events r.network.plan r.traces ++ told_events r.network.plan run.traces) begun ∙ ap (λ es. es ++ told_events run.finished.plan run.traces) (none_told start) in
      let ends : traced_end (record_finish last) ≡ traced_end run = same_end (record_finish last) run plan (on.starts ∙ ap (λ (r : NetRecord). r.starts) begun ∙ sym (starts_back run.starts)) told in
      origins_are run is_plan kept lists (are.counted ∙ ap (λ (p : Plan). length p.terminals) plan)
      (λ t inside. are.each t (subst (λ (p : Plan). t < length p.terminals) (sym plan) inside) ∙ ap (λ (net : Network Traced). Some (origins_in (arrived_at net t))) ends)

-- what is said of a result, with what follows of it
pub if_ok : {X E : Type 0} (P Q : X → Type 0) (r : Result X E) → ((x : X) → P x → Q x) → IfOk r P → IfOk r Q
if_ok P Q (Ok x) f is = f x is
if_ok P Q (Err e) f is = tt
