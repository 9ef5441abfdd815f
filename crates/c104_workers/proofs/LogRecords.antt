-- Where each node did what it had done before and then its part of a log, the nodes tell one run of the network: what had been
-- done before, and then what was done on the fabric's own nodes, in the order of the tickets.
use Rattle.{c104_audit.specs.Leads.list_at, c104_event.specs.declared.{events.Event.Event, faults.EventFault.EventFault}}
use Rattle.{c104_link.proofs.MadeSteps.given, c104_net.proofs.Members.element_at, c104_node.specs.{Nodes.Node, Records.IsNodeRun}}
use Rattle.c104_node.specs.{Records.{IsRecorded, NodeRecord, NodeRoom, node_start, node_state, node_trace}, Starts.start_node}
use Rattle.c104_node.specs.{Traces.{Deed as Kept, part, seatless}, declared.{stamps.Stamp.Stamp, starts.NodeStart.NodeStart}}
use Rattle.{c104_plan.specs.Plans.{IsPlan, Plan}, c104_run.proofs.{RecordSteps.{done_made, nodes_counted}, RoundJoins.apply_plan}}
use Rattle.c104_run.specs.{EventActs.{acts_step, event_acts}, NetParts.node_count, NetRecords.{IsNetRecord, NetRecord}, Network.Network}
use Rattle.c104_run.specs.{Network.{event_fault, network_apply, network_of, told_step}, NodeRuns.starting_nodes, Runs.IsDoneRun}
use Rattle.{c104_run.specs.Runs.{IsRunRecord, at_node, run_deeds}, c104_switch.specs.Actions.Reply, c104_tickets.specs.Tickets.AreNumbered}
use Rattle.c104_tickets.specs.{Tickets.{Each, IsInside, belongs, kept_if, part_of, stands_at}, declared.views.{Done.Done, Name.Name}}
use Rattle.{c104_tickets.specs.declared.views.Terms.Terms, c104_token.specs.{Kinds.plain_kind, declared.tokens.Token.Token}}
use Rattle.c104_turns.proofs.{LogEntries.{IsOwnAt, at_append, log_entries}, LogRuns.{CanBeDone, RunTheirs, events_run}}
use Rattle.c104_turns.specs.{Calls.is_own, Logs.{IsDoneHere, done_pair, entries_of, kept_own, log_stamps, own_of}}
use Rattle.c104_workers.{proofs.LogStamps.{log_stamped, order_all, own_late, run_append, same_deeds, stamps_before}, specs.Fabrics.Handed}
use Rattle.{c104_workers.specs.{Fabrics.{WasHanded, handed_of}, OneRuns.IsLogOf}, std.proofs.Common.{Bool, List, None, Ok, Option, Result}}
use Rattle.std.proofs.Common.{Some, [], ap, arith, false, is_some, length, length-append, map, option_map, refl, slice_get, subst, suc, sym}
use Rattle.std.proofs.{Common.{true, unwrap_or, ℕ, ◌++◌, ◌+◌, ◌<◌, ◌∙◌, ◌∷◌, ◌≡◌}, lemmas.{Bool.Decides.nat_tests, List.length-map}}
use Rattle.std.proofs.lemmas.Option.{slice_get-map, slice_get_within}

-- what holds of each, in other words

pub each_append : {X : Type 0} (P : X → Type 0) (xs ys : List X) → Each P xs → Each P ys → Each P (xs ++ ys)
each_append P [] ys front back = back
each_append P (x ∷ xs) ys front back = (front.0, each_append P xs ys front.1 back)

pub each_weaker : {X : Type 0} (P Q : X → Type 0) (xs : List X) → ((x : X) → P x → Q x) → Each P xs → Each Q xs
each_weaker P Q [] weaker each = tt
each_weaker P Q (x ∷ xs) weaker each = (weaker x each.0, each_weaker P Q xs weaker each.1)

pub each_both : {X : Type 0} (P Q R : X → Type 0) (xs : List X) → ((x : X) → P x → Q x → R x) → Each P xs → Each Q xs → Each R xs
each_both P Q R [] both ps qs = tt
each_both P Q R (x ∷ xs) both ps qs = (both x ps.0 qs.0, each_both P Q R xs both ps.1 qs.1)

-- what holds of each at every number that is so holds at every such number of each
each_all : {X : Type 0} (Is : ℕ → Type 0) (P : ℕ → X → Type 0) (xs : List X) → ((k : ℕ) → Is k → Each (P k) xs)
    → Each (λ x. (k : ℕ) → Is k → P k x) xs
each_all Is P [] at = tt
each_all Is P (x ∷ xs) at = (λ k is. (at k is).0, each_all Is P xs (λ k is. (at k is).1))

-- what holds of a part holds of all that belongs to it
pub each_part : (P : Done → Type 0) (name : Name) (log : List Done) → Each P (part_of name log)
    → Each (λ d. belongs name d.deed ≡ true → P d) log
each_part P name [] each = tt
each_part P name (d ∷ ds) each = by_test (belongs name d.deed) refl each (each_part P name ds)
  where
    by_test : (b : Bool) → belongs name d.deed ≡ b → Each P (kept_if b d (part_of name ds))
        → (Each P (part_of name ds) → Each (λ e. belongs name e.deed ≡ true → P e) ds)
        → Each (λ e. belongs name e.deed ≡ true → P e) (d ∷ ds)
    by_test true is each rest = (λ has. each.0, rest each.1)
    by_test false is each rest = (λ has. absurd (let no : false ≡ true = sym is ∙ has in cc), rest each)

-- events that were done can be
module _ (plan : Plan) where
  possible : (net next : Network Token) (e : Event) (r : Reply)
      → ◌≡◌ {A = Result Reply EventFault × Network Token} (Ok r, next) (network_apply plain_kind net e) → event_fault net.plan e ≡ None
  possible net next e r is = grind arith

  pub run_can : (net ended : Network Token) (events : List (Event × Reply)) → net.plan ≡ plan → IsDoneRun plain_kind net events ended
      → Each (CanBeDone plan) events
  run_can net ended [] same run = tt
  run_can net ended (e ∷ events) same run = (
    given (event_acts net.plan e.0) (λ acts. told_step plain_kind net (acts_step plain_kind net.plan net.nodes acts)) (e.1, run.0)
        (done_made plain_kind net run.0 e.1 e.0 run.1 run.2)
        (λ acts asked more. record {
          acts = acts;
          asked = ap (λ p. event_acts p e.0) (sym same) ∙ asked;
          possible = ap (λ p. event_fault p e.0) (sym same) ∙ possible net run.0 e.0 e.1 run.1;
          ready = run.2;
        }),
    run_can run.0 ended events (after ∙ same) run.3,
  )
    where
      after : run.0.plan ≡ net.plan
      after = ap (λ (v : Result Reply EventFault × Network Token). v.1.plan) run.1 ∙ apply_plan plain_kind net e.0

-- what a node of a log did: it started where it was known to have, and did what it had done before and then its part
pub record DidPart (handed : Handed) (log : List Done) (k : ℕ) (n : NodeRecord × NodeRoom) : Type 0 where
  pub start : slice_get handed.starts k ≡ Some n.0.start
  pub trace : n.0.trace ≡ list_at handed.before k ++ entries_of handed.plan k (part_of (Name.Place k) log)
  pub kept : IsRecorded n.0
  pub done : Each (IsDoneHere handed.plan) (part_of (Name.Place k) log)

-- the place of what leads is one of the nodes'
abbrev pub IsNearInside : Plan → Done → Type 0
IsNearInside plan d = (k : ℕ) → d.deed.near ≡ Some k → k < node_count plan

stands_there : (k : ℕ) (deed_near : Option ℕ) → deed_near ≡ Some k → stands_at k deed_near ≡ true
stands_there k deed_near is = ap (stands_at k) is ∙ (let same : stands_at k (Some k) ≡ true = grind (arith, nat_tests) in same)

near_inside : (plan : Plan) (terms : Terms) (d : Done) → terms.places ≡ node_count plan → IsInside terms d → IsNearInside plan d
near_inside plan terms d places inside k near =
    let there : stands_at k d.deed.near ≡ true = stands_there k d.deed.near near in
    subst (λ n. k < n) places (inside (Name.Place k) (rw there refl))

-- it is, where the deeds belong to places that there are
pub all_inside : (plan : Plan) (terms : Terms) (log : List Done) → terms.places ≡ node_count plan → Each (IsInside terms) log
    → Each (IsNearInside plan) log
all_inside plan terms log places inside =
    each_weaker (IsInside terms) (IsNearInside plan) log (λ d is. near_inside plan terms d places is) inside

module _ (net : NetRecord) (kept : IsNetRecord net) (is_plan : IsPlan net.network.plan) (log : List Done)
    (numbered : AreNumbered net.count log) (nodes : List (NodeRecord × NodeRoom)) (counted : length nodes ≡ node_count net.network.plan)
    (did : (k : ℕ) (n : NodeRecord × NodeRoom) → slice_get nodes k ≡ Some n → DidPart (handed_of net) log k n)
    (inside : Each (IsNearInside net.network.plan) log) where
  abbrev P : Plan
  P = net.network.plan

  abbrev Own : List Done
  Own = own_of log

  abbrev Before : List (Event × Reply)
  Before = kept.told.0

  abbrev Stamps : ℕ → Stamp
  Stamps = log_stamps net.count Own

  abbrev Starts : List (Node Token)
  Starts = map start_node net.starts

  before_long : length Before ≡ net.count
  before_long = sym kept.told.1.counted

  -- what belongs to a place of these was done on these nodes
  done_at : (k : ℕ) → k < node_count P → Each (λ d. belongs (Name.Place k) d.deed ≡ true → IsDoneHere P d) log
  done_at k below =
      let n = element_at nodes k (omega (arith, below, counted)) in
      each_part (IsDoneHere P) (Name.Place k) log (did k n.0 n.1).done

  abbrev DoneAtAll : Done → Type 0
  DoneAtAll d = (k : ℕ) → k < node_count P → belongs (Name.Place k) d.deed ≡ true → IsDoneHere P d

  done_all : Each DoneAtAll log
  done_all = each_all (λ k. k < node_count P) (λ k d. belongs (Name.Place k) d.deed ≡ true → IsDoneHere P d) log done_at

  own_done : (d : Done) → DoneAtAll d → IsNearInside P d → is_own d ≡ true → IsDoneHere P d
  own_done d done near own = by_near d.deed.near refl own
    where
      by_near : (o : Option ℕ) → d.deed.near ≡ o → is_some o ≡ true → IsDoneHere P d
      by_near None is some = absurd (let no : false ≡ true = some in cc)
      by_near (Some k) is some =
          let there : stands_at k d.deed.near ≡ true = stands_there k d.deed.near is in
          done k (near k is) (rw there refl)

  done_own : (d : Done) → IsDoneHere P d → is_own d ≡ true
  done_own d done = ap is_some done.near

  own_at : (k : ℕ) → k < node_count P → Each (IsOwnAt P k) log
  own_at k below = each_both DoneAtAll (IsNearInside P) (IsOwnAt P k) log
      (λ d done near. record { done = own_done d done near; own = λ has. done_own d (done k below has) }) done_all inside

  -- so each event can be done
  own_can : (ds : List Done) → Each (λ d. is_own d ≡ true → IsDoneHere P d) ds → Each (CanBeDone P) (map done_pair (own_of ds))
  own_can [] done = tt
  own_can (d ∷ ds) done = by_own (is_own d) refl (own_can ds done.1)
    where
      by_own : (b : Bool) → is_own d ≡ b → Each (CanBeDone P) (map done_pair (own_of ds))
          → Each (CanBeDone P) (map done_pair (kept_own b d (own_of ds)))
      by_own false is rest = rest
      by_own true is rest =
          let here = done.0 is in
          (record { acts = here.acts; asked = here.asked; possible = here.possible; ready = here.ready }, rest)

  all_can : Each (CanBeDone P) (Before ++ map done_pair Own)
  all_can = each_append (CanBeDone P) Before (map done_pair Own)
      (run_can P (network_of P Starts) (network_of P net.network.nodes) Before refl kept.told.1.run)
      (own_can log (each_both DoneAtAll (IsNearInside P) (λ d. is_own d ≡ true → IsDoneHere P d) log own_done done_all inside))

  -- the nodes started where those of the network did
  starts_counted : length net.starts ≡ node_count P
  starts_counted = sym (length-map net.starts (start_node {A = Token})) ∙ nodes_counted P Starts kept.started.in_place

  same_gets : {X : Type 0} (xs ys : List X) → length xs ≡ length ys
      → ((k : ℕ) (x : X) → slice_get xs k ≡ Some x → slice_get ys k ≡ Some x) → xs ≡ ys
  same_gets [] [] long same = refl
  same_gets [] (y ∷ ys) long same = absurd (let no : ⊥ = omega (arith, long) in no)
  same_gets (x ∷ xs) [] long same = absurd (let no : ⊥ = omega (arith, long) in no)
  same_gets (x ∷ xs) (y ∷ ys) long same =
      let heads : x ≡ y = (let first : Some y ≡ Some x = same 0 x refl in cc) in
      ap (λ z. z ∷ xs) heads ∙ ap (λ zs. y ∷ zs) (same_gets xs ys (omega (arith, long)) (λ k z at. same (suc k) z at))

  starts_are : map node_start nodes ≡ net.starts
  starts_are = same_gets (map node_start nodes) net.starts (length-map nodes node_start ∙ counted ∙ sym starts_counted)
      (λ k s at. by_node k s (slice_get nodes k) refl (sym (slice_get-map node_start nodes k) ∙ at))
    where
      by_node : (k : ℕ) (s : NodeStart) (o : Option (NodeRecord × NodeRoom)) → slice_get nodes k ≡ o → option_map node_start o ≡ Some s
          → slice_get net.starts k ≡ Some s
      by_node k s None at is = absurd (let no : None ≡ Some s = is in cc)
      by_node k s (Some n) at is = (did k n at).start ∙ is

  -- what the node at a place keeps of all events
  before_at : (k : ℕ) → k < node_count P → list_at net.traces k ≡ at_node k (run_deeds P seatless 0 Before)
  before_at k below =
      let start = element_at Starts k (omega (arith, below, starts_counted, length-map net.starts (start_node {A = Token}))) in
      ap (λ o. unwrap_or o [])
      (kept.told.1.told k ∙ ap (option_map (λ n. at_node k (run_deeds P seatless 0 Before))) start.1)

  deeds_before : run_deeds P Stamps 0 Before ≡ run_deeds P seatless 0 Before
  deeds_before = same_deeds P Stamps seatless 0 net.count Before (omega (arith, before_long)) (stamps_before net.count Own)

  entries_are : (k : ℕ) → k < node_count P
      → at_node k (run_deeds P Stamps 0 (Before ++ map done_pair Own)) ≡ list_at net.traces k ++ entries_of P k (part_of (Name.Place k) log)
  entries_are k below =
      let there : 0 + length Before ≡ net.count = omega (arith, before_long) in
      ap (at_node k) (run_append P Stamps 0 Before (map done_pair Own))
      ∙ at_append k (run_deeds P Stamps 0 Before) (run_deeds P Stamps (0 + length Before) (map done_pair Own))
      ∙ ap (λ ds. at_node k ds ++ at_node k (run_deeds P Stamps (0 + length Before) (map done_pair Own))) deeds_before
      ∙ ap (λ xs. xs ++ at_node k (run_deeds P Stamps (0 + length Before) (map done_pair Own))) (sym (before_at k below))
      ∙ ap (λ n. list_at net.traces k ++ at_node k (run_deeds P Stamps n (map done_pair Own))) there
      ∙ ap (λ xs. list_at net.traces k ++ xs) (log_entries P k net.count Stamps log (own_at k below) (log_stamped net.count Own))

  trace_is : (k : ℕ) (n : NodeRecord × NodeRoom) → slice_get nodes k ≡ Some n
      → n.0.trace ≡ at_node k (run_deeds P Stamps 0 (Before ++ map done_pair Own))
  trace_is k n at =
      let below : k < length nodes = slice_get_within nodes k n at in
      (did k n at).trace ∙ sym (entries_are k (omega (arith, below, counted)))

  -- each runs its part
  abbrev Wired : ℕ → ℕ
  Wired k = part 0 (λ (n : NodeRecord × NodeRoom). n.0.wired) (slice_get nodes k)

  abbrev Deeds : List Kept
  Deeds = run_deeds P Stamps 0 (Before ++ map done_pair Own)

  runs : RunTheirs Wired (starting_nodes nodes) (map node_state nodes) Deeds
  runs k n m at end_at = by_node (slice_get nodes k) refl
      (sym (slice_get-map start_node (map node_start nodes) k ∙ ap (option_map start_node) (slice_get-map node_start nodes k)) ∙ at)
      (sym (slice_get-map node_state nodes k) ∙ end_at)
    where
      by_node : (o : Option (NodeRecord × NodeRoom)) → slice_get nodes k ≡ o → option_map start_node (option_map node_start o) ≡ Some n
          → option_map node_state o ≡ Some m → IsNodeRun (Wired k) n (at_node k Deeds) m
      by_node None here started ended = absurd (let no : None ≡ Some m = ended in cc)
      by_node (Some r) here started ended =
          let from : start_node r.0.start ≡ n = (let both : Some (start_node r.0.start) ≡ Some n = started in cc) in
          let to : r.0.state ≡ m = (let both : Some r.0.state ≡ Some m = ended in cc) in
          let wired : r.0.wired ≡ Wired k = sym (ap (part 0 (λ (q : NodeRecord × NodeRoom). q.0.wired)) here) in
          subst (λ w. IsNodeRun w n (at_node k Deeds) m) wired
          (subst (λ xs. IsNodeRun r.0.wired n xs m) (trace_is k r here)
          (subst (λ f. IsNodeRun r.0.wired f r.0.trace m) from
          (subst (λ t. IsNodeRun r.0.wired (start_node r.0.start) r.0.trace t) to (did k r here).kept.run)))

  told : (k : ℕ) → slice_get (map node_trace nodes) k
      ≡ option_map (λ n. at_node k Deeds) (slice_get (starting_nodes nodes) k)
  told k =
      slice_get-map node_trace nodes k ∙ by_node (slice_get nodes k) refl
      ∙ ap (option_map (λ n. at_node k Deeds))
      (sym (slice_get-map start_node (map node_start nodes) k ∙ ap (option_map start_node) (slice_get-map node_start nodes k)))
    where
      by_node : (o : Option (NodeRecord × NodeRoom)) → slice_get nodes k ≡ o
          → option_map node_trace o
          ≡ option_map (λ (n : Node Token). at_node k Deeds) (option_map start_node (option_map node_start o))
      by_node None at = refl
      by_node (Some n) at = ap Some (trace_is k n at)

  starting_counted : length (starting_nodes nodes) ≡ node_count P
  starting_counted = length-map (map node_start nodes) start_node ∙ length-map nodes node_start ∙ counted

  log_run : IsRunRecord plain_kind P Stamps (starting_nodes nodes) (map node_state nodes) (map node_trace nodes) (net.count + length Own)
      (Before ++ map done_pair Own)
  log_run = record {
    run = events_run P is_plan Wired Stamps 0 (Before ++ map done_pair Own) (starting_nodes nodes) (map node_state nodes)
        starting_counted (length-map nodes node_state ∙ counted) all_can runs;
    told = told;
    counted = sym (length-append Before (map done_pair Own) ∙ ap (λ n. n + length (map done_pair Own)) before_long
        ∙ ap (λ n. net.count + n) (length-map Own done_pair));
    ordered = order_all P Stamps net.count Own (stamps_before net.count Own) (log_stamped net.count Own) (own_late net.count log numbered)
        0 Before (omega (arith, before_long));
  }

  pub log_of_net : IsLogOf (handed_of net) nodes log
  log_of_net = record {
    before = Before;
    middle = net.network.nodes;
    was = kept.told.1;
    starts = starts_are;
    told = log_run;
    count = before_long;
  }

-- nodes that did their parts of a log are what one run leaves
pub log_is : (handed : Handed) (was : WasHanded handed) → IsPlan handed.plan → (log : List Done) → AreNumbered handed.count log
    → (nodes : List (NodeRecord × NodeRoom)) → length nodes ≡ node_count handed.plan
    → ((k : ℕ) (n : NodeRecord × NodeRoom) → slice_get nodes k ≡ Some n → DidPart handed log k n)
    → Each (IsNearInside handed.plan) log → IsLogOf handed nodes log
log_is handed was is_plan log numbered nodes counted did inside =
    subst (λ (h : Handed). IsPlan h.plan → AreNumbered h.count log → length nodes ≡ node_count h.plan
    → ((k : ℕ) (n : NodeRecord × NodeRoom) → slice_get nodes k ≡ Some n → DidPart h log k n) → Each (IsNearInside h.plan) log
    → IsLogOf h nodes log)
    (sym was.is) (λ valid numbers count parts near. log_of_net was.net was.kept valid log numbers nodes count parts near)
    is_plan numbered counted did inside
