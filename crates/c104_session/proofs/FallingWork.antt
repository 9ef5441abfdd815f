-- Lines that send nothing leave no more work, and each of their rounds leaves less, till the network is quiet: whatever else
-- they ask between the rounds.
use Rattle.{c104_check.specs.Routes.Routes, c104_deadlock.proofs.{FairMembers.fair_finds, FairOrders.orders_kept, HandedRounds.still_plain}}
use Rattle.c104_deadlock.{proofs.{RecordedRounds.applied_plain, RoundsAlike.of_fair_round}, specs.DeadlockFreedom.AreOrders}
use Rattle.{c104_event.specs.declared.{events.Event.Event, faults.EventFault.EventFault}, c104_net.proofs.SentBytes.SendsBytes}
use Rattle.{c104_net.specs.{RoundEvents.IsOfRound, Unchanged.MayHappen}, c104_node.specs.{Nodes.Node, Quiet.IsQuietNode}}
use Rattle.{c104_node.specs.declared.starts.NodeStart.NodeStart, c104_plan.{proofs.RangeLists.all_of_each, specs.PlanImage.Image}}
use Rattle.{c104_plan.specs.{Plans.{IsPlan, Plan}, declared.limits.TheConstants.MAX_SWITCHES}, c104_run.proofs.LinkOrders.orders_first}
use Rattle.c104_run.{proofs.RoundRuns.{Applied, run_append, run_seen, undone_leaves}, specs.EventRuns.{Outcome, run_events, unless_fault}}
use Rattle.c104_run.specs.{FairRounds.{InTurn, fair_events, fair_round, fairly, first_turns, in_turn}, HandedWords.round_with}
use Rattle.c104_run.specs.{HandedWords.{rounds_with, words_behind, words_of}, NetRecords.NetRecord, Network.{Network, network_apply}}
use Rattle.c104_run.specs.{QuietNets.IsQuiet, RecordedRuns.record_apply, Rounds.round, Standstill.{IsUnready, StandsStill}}
use Rattle.{c104_run.specs.declared.words.Words.Words, c104_script.specs.{Script.read_script_line, declared.faults.LineFault.LineFault}}
use Rattle.{c104_script.specs.declared.places.Request.Request, c104_session.proofs.SilentLines.{KeepsSilent, both_empty, events_keep}}
use Rattle.c104_session.proofs.{SilentLines.{keeps_quiet, line_keeps, silent_line}, UnchangedNets.{IsUnchangedNet, events_leave}}
use Rattle.c104_session.{proofs.UnchangedNets.{keeps_nothing, nothing, of_round, round_event}, specs.DeliveredRuns.line_rounds}
use Rattle.c104_session.specs.{DeliveredRuns.{lines_rounds, rounds_asked}, PrintedPackets.{LeaveUnchanged, MayAsk, event_sends, line_sends}}
use Rattle.c104_session.specs.{PrintedPackets.{lines_sent, was_done}, Shown.{answer_of_read, event_answer, line_answer, line_outcome}}
use Rattle.c104_session.specs.{Shown.{new_session, rounds_answer}, declared.session.Session.Session}
use Rattle.{c104_stream.specs.Scripts.lines_outcome, c104_switch.specs.{Actions.{Reply, is_ready}, declared.actions.ReplyOf.ReplyOf}}
use Rattle.{c104_token.specs.{Kinds.plain_kind, declared.{packets.Packet.Packet, tokens.Token.Token}}, std.proofs.Common.{All, Bool, Err}}
use Rattle.std.proofs.Common.{List, Ok, Option, Result, Some, [], ap, arith, false, if◌then◌else◌, inl, inr, length, refl, subst, suc, sym}
use Rattle.std.{proofs.Common.{true, zero, ℕ, ◌++◌, ◌+◌, ◌<◌, ◌∙◌, ◌∷◌, ◌≡◌, ◌≤◌, ◌⊎◌}, specs.List.AllByRecursion}

not_ready : (r : Reply) → is_ready r ≡ false → r ≡ ReplyOf.NotReady
not_ready r is = search arith

none_either : (b : Bool) → ◌≡◌ {A = ℕ} (if b then 0 else 0) 0
none_either b = search arith

-- rounds, whatever their words and turns: events of the kinds that rounds have, of which none is ready only
-- where none of a plain round is
pub record IsRound (plan : Plan) (es : List Event) : Type 0 where
  pub of : AllByRecursion IsOfRound es
  pub finds : (net : Network Token) → net.plan ≡ plan → AllByRecursion (IsUnready plain_kind net) es → AllByRecursion (IsUnready plain_kind net) (round plan)

-- n rounds, one after another
abbrev pub AreRounds : Plan → ℕ → List Event → Type 0
AreRounds plan zero es = es ≡ []
AreRounds plan (suc n) es = (now : List Event) × (later : List Event) × (es ≡ now ++ later) × IsRound plan now × AreRounds plan n later

handed_rounds : (plan : Plan) (n : ℕ) (words : Words) → AreRounds plan n (rounds_with words plan n)
handed_rounds plan zero words = refl
handed_rounds plan (suc n) words =
    let later : Words = words_behind words (length plan.switches) in (
      round_with words plan,
      rounds_with later plan n,
      refl,
      record {
        of = of_round words plan;
        finds = λ net same all. still_plain plain_kind net words (round plan) all;
      },
      handed_rounds plan n later,
    )

fair_rounds : (plan : Plan) (n : ℕ) (words : Words) (x : InTurn NetRecord) → AreOrders x.turns → AreRounds plan n (fair_events record_apply words plan n x)
fair_rounds plan zero words x orders = refl
fair_rounds plan (suc n) words x orders =
    let now : List Event = fair_round words x.turns plan in
    let next : InTurn NetRecord = (run_events (fairly record_apply) x now).1 in
    let later : Words = words_behind words (length plan.switches) in (
      now,
      fair_events record_apply later plan n next,
      refl,
      record {
        of = of_fair_round plan words x.turns;
        finds = λ net same all.
            subst (λ p. AllByRecursion (IsUnready plain_kind net) (round p)) same
            (fair_finds x.turns orders plain_kind net words (subst (λ p. AllByRecursion (IsUnready plain_kind net) (fair_round words x.turns p)) (sym same) all));
      },
      fair_rounds plan n later next (orders_kept record_apply x now orders),
    )

-- as many rounds were done
abbrev pub Came : NetRecord → ℕ → NetRecord → Type 0
Came net count after = (es : List Event) × AreRounds net.network.plan count es × (run_events record_apply net es ≡ (Ok tt, after))

-- a line does no rounds, or all that count
abbrev CountsRounds : Session → ℕ → Session → Type 0
CountsRounds session count after = (count ≡ 0) ⊎ Came session.net count after.net

abbrev read_rounds : Session → Result (Option Request) LineFault → ℕ
read_rounds session asked = if was_done (answer_of_read session asked).0 then rounds_asked asked else 0

-- what is answered of rounds, and how many count then
abbrev rounds_counted : ℕ → Result (Unit {0}) EventFault → ℕ
rounds_counted count answer = if was_done (Some (event_answer (rounds_answer answer))) then count else 0

abbrev rounds_to : Words → NetRecord → ℕ → Outcome NetRecord
rounds_to words net count = run_events record_apply net (rounds_with words net.network.plan count)

abbrev fair_to : Words → InTurn NetRecord → ℕ → Outcome (InTurn NetRecord)
fair_to words x count = run_events (fairly record_apply) x (fair_events record_apply words x.state.network.plan count x)

answer_counts : (words : Words) (net : NetRecord) (count : ℕ) (answer : Result (Unit {0}) EventFault) → (rounds_to words net count).0 ≡ answer →
    (rounds_counted count answer ≡ 0) ⊎ Came net (rounds_counted count answer) (rounds_to words net count).1
answer_counts words net count (Ok u) told =
    inr (rounds_with words net.network.plan count, handed_rounds net.network.plan count words, ap (λ (o : Result (Unit {0}) EventFault). (o, (rounds_to words net count).1)) told)
answer_counts words net count (Err f) told = inl refl

fair_counts : (words : Words) (x : InTurn NetRecord) (count : ℕ) → AreOrders x.turns → (answer : Result (Unit {0}) EventFault) → (fair_to words x count).0 ≡ answer →
    (rounds_counted count answer ≡ 0) ⊎ Came x.state (rounds_counted count answer) (fair_to words x count).1.state
fair_counts words x count orders (Ok u) told =
    let events : List Event = fair_events record_apply words x.state.network.plan count x in
    inr (
      events,
      fair_rounds x.state.network.plan count words x orders,
      sym (run_seen (fairly record_apply) record_apply (λ (z : InTurn NetRecord). z.state) (λ z e. refl) events x)
          ∙ ap (λ (o : Result (Unit {0}) EventFault). (o, (fair_to words x count).1.state)) told,
    )
fair_counts words x count orders (Err f) told = inl refl

read_counts : (session : Session) (asked : Result (Option Request) LineFault) → AreOrders session.turns → CountsRounds session (read_rounds session asked) (answer_of_read session asked).1
read_counts session (Ok (Some (Request.Rounds count false seed))) orders =
    answer_counts (words_of seed) session.net count (rounds_to (words_of seed) session.net count).0 refl
read_counts session (Ok (Some (Request.Rounds count true seed))) orders =
    let x : InTurn NetRecord = in_turn session.net session.turns in
    fair_counts (words_of seed) x count orders (fair_to (words_of seed) x count).0 refl
read_counts session asked orders = search (arith, none_either)

line_counts : (session : Session) (line : List ℕ) → AreOrders session.turns → CountsRounds session (line_rounds session line) (line_answer session line).1
unfolding line_answer
line_counts session line orders = read_counts session (read_script_line session.net.network.plan session.image line) orders

-- turns that are orders stay orders
read_orders : (session : Session) (asked : Result (Option Request) LineFault) → AreOrders session.turns → AreOrders (answer_of_read session asked).1.turns
read_orders session (Ok (Some (Request.Rounds count true seed))) orders =
    let x : InTurn NetRecord = in_turn session.net session.turns in
    orders_kept record_apply x (fair_events record_apply (words_of seed) session.net.network.plan count x) orders
read_orders session asked orders = orders

line_orders : (session : Session) (line : List ℕ) → AreOrders session.turns → AreOrders (line_answer session line).1.turns
unfolding line_answer
line_orders session line orders = read_orders session (read_script_line session.net.network.plan session.image line) orders

pub lines_orders : (lines : List (List ℕ)) (number : ℕ) (session : Session) → AreOrders session.turns → AreOrders (lines_outcome line_outcome number session lines).1.turns
unfolding line_outcome
lines_orders [] number session orders = orders
lines_orders (line ∷ lines) number session orders = lines_orders lines (suc number) (line_answer session line).1 (line_orders session line orders)

pub first_orders : (plan : Plan) (image : Image) → AreOrders (new_session plan image).turns
first_orders plan image s = orders_first first_turns MAX_SWITCHES s refl

module _ (routes : Routes) (plan : Plan) (is_plan : IsPlan plan) (starts : List NodeStart) (work : List (Node Token) → ℕ) where
  abbrev Is : List (ℕ × Packet) → NetRecord → Type 0
  Is sends net = IsUnchangedNet routes plan starts nothing sends net

  -- what an event comes to that is done
  abbrev IsDue : NetRecord → Event → Reply → Network Token → Type 0
  IsDue net e r next = ◌≡◌ {A = Applied (Network Token)} (Ok r, next) (network_apply plain_kind net.network e) × (is_ready r ≡ true)

  -- an event of a round leaves less work, and no other leaves more but one that sends; and a network that stands still is quiet
  pub record IsFalling : Type 0 where
    pub falls : (sends : List (ℕ × Packet)) (net : NetRecord) (e : Event) (r : Reply) (next : Network Token) → Is sends net → IsDue net e r next → IsOfRound e → work next.nodes < work net.network.nodes
    pub grows_none : (sends : List (ℕ × Packet)) (net : NetRecord) (e : Event) (r : Reply) (next : Network Token) → Is sends net → IsDue net e r next → MayHappen routes e r → SendsBytes e → event_sends e ≡ [] → work next.nodes ≤ work net.network.nodes
    pub rests : (sends : List (ℕ × Packet)) (net : NetRecord) → Is sends net → StandsStill plain_kind net.network → IsQuiet net.network

  module _ (falling : IsFalling) where
    -- there is less work than this, or none that matters
    abbrev pub IsLeft : ℕ → List (Node Token) → Type 0
    IsLeft most nodes = All IsQuietNode nodes ⊎ (work nodes < most)

    left_within : (few most : ℕ) (nodes : List (Node Token)) → few ≤ most → IsLeft few nodes → IsLeft most nodes
    left_within few most nodes within left = search arith

    none_left : (nodes : List (Node Token)) → IsLeft 0 nodes → All IsQuietNode nodes
    none_left nodes left = search arith

    -- an event that sends nothing keeps it so
    keeps_left : (most : ℕ) → KeepsSilent routes plan is_plan starts (IsLeft most)
    keeps_left most sends net e r next was due ready may bytes none (inl quiet) = inl (keeps_quiet routes plan is_plan starts sends net e r next was due ready may bytes none quiet)
    keeps_left most sends net e r next was due ready may bytes none (inr less) = inr (let more = falling.grows_none sends net e r next was (due, ready) may bytes none in omega (arith, less, more))

    -- events of a round leave less work, or were all unready
    abbrev Goes : NetRecord → List Event → NetRecord → Type 0
    Goes net es after = (work after.network.nodes < work net.network.nodes) ⊎ ((after.network ≡ net.network) × AllByRecursion (IsUnready plain_kind net.network) es)

    goes_on : (sends : List (ℕ × Packet)) (net after : NetRecord) (e : Event) (es : List Event) → IsOfRound e → Is sends net →
        (◌≡◌ {A = Outcome NetRecord} (run_events record_apply (record_apply net e).1 es) (Ok tt, after) → Goes (record_apply net e).1 es after) →
        (answer : Result Reply EventFault) → (record_apply net e).0 ≡ answer → ◌≡◌ {A = Outcome NetRecord} (unless_fault answer (record_apply net e).1 (λ n. run_events record_apply n es)) (Ok tt, after) → Goes net (e ∷ es) after
    goes_on sends net after e es of was later (Err f) told is = let no : ◌≡◌ {A = Result (Unit {0}) EventFault} (Err f) (Ok tt) = ap (λ (z : Outcome NetRecord). z.0) is in absurd (cc)
    goes_on sends net after e es of was later (Ok r) told is = by_ready (is_ready r) refl (later is)
      where
        next : Network Token
        next = (record_apply net e).1.network

        due : ◌≡◌ {A = Applied (Network Token)} (Ok r, next) (network_apply plain_kind net.network e)
        due = applied_plain net e r told

        by_ready : (b : Bool) → is_ready r ≡ b → Goes (record_apply net e).1 es after → Goes net (e ∷ es) after
        by_ready true ready (inl less) = let one = falling.falls sends net e r next was (due, ready) of in inl (omega (arith, less, one))
        by_ready true ready (inr all) =
            let one = falling.falls sends net e r next was (due, ready) of in
            let same : work after.network.nodes ≡ work next.nodes = ap (λ (n : Network Token). work n.nodes) all.0 in
            inl (omega (arith, same, one))
        by_ready false not (inl less) =
            let same : work next.nodes ≡ work net.network.nodes = ap (λ (n : Network Token). work n.nodes) (undone_leaves plain_kind net.network next e r not (inl due)) in
            inl (omega (arith, same, less))
        by_ready false not (inr all) =
            let stays : next ≡ net.network = undone_leaves plain_kind net.network next e r not (inl due) in
            let unready : IsUnready plain_kind net.network e = sym (ap (λ (z : Applied (Network Token)). z.0) due) ∙ ap Ok (not_ready r not) in
            inr (all.0 ∙ stays, (unready, subst (λ n. AllByRecursion (IsUnready plain_kind n) es) stays all.1))

    goes : (sends : List (ℕ × Packet)) (es : List Event) (net after : NetRecord) → AllByRecursion IsOfRound es → Is sends net → ◌≡◌ {A = Outcome NetRecord} (run_events record_apply net es) (Ok tt, after) → Goes net es after
    goes sends [] net after of was is = inr (sym (ap (λ (z : Outcome NetRecord). z.1.network) is), tt)
    goes sends (e ∷ es) net after of was is =
        goes_on sends net after e es of.0 was
        (λ rest. goes sends es (record_apply net e).1 after of.1 (round_event routes plan is_plan starts nothing (keeps_nothing routes plan starts) sends net e of.0 was) rest)
        (record_apply net e).0 refl is

    -- so a round leaves less, or finds the network quiet
    one_round : (now : List Event) → IsRound plan now → (sends : List (ℕ × Packet)) (net after : NetRecord) → Is sends net → run_events record_apply net now ≡ (Ok tt, after) →
        (work after.network.nodes < work net.network.nodes) ⊎ All IsQuietNode after.network.nodes
    one_round now round_is sends net after was is = by_run (goes sends now net after round_is.of was is)
      where
        still : AllByRecursion (IsUnready plain_kind net.network) now → StandsStill plain_kind net.network
        still all =
            all_of_each (IsUnready plain_kind net.network) (round net.network.plan)
            (subst (λ p. AllByRecursion (IsUnready plain_kind net.network) (round p)) (sym was.same_plan) (round_is.finds net.network was.same_plan all))

        by_run : Goes net now after → (work after.network.nodes < work net.network.nodes) ⊎ All IsQuietNode after.network.nodes
        by_run (inl less) = inl less
        by_run (inr all) = inr (subst IsQuiet (sym all.0) (falling.rests sends net was (still all.1)))

    -- as much is left after a round as before, less one
    left_after : (now : List Event) → IsRound plan now → (sends : List (ℕ × Packet)) (net mid : NetRecord) (most : ℕ) → Is sends net → run_events record_apply net now ≡ (Ok tt, mid) → IsLeft (most + 1) net.network.nodes → IsLeft most mid.network.nodes
    left_after now round_is sends net mid most was is (inl quiet) =
        let came : (run_events record_apply net now).1 ≡ mid = ap (λ (z : Outcome NetRecord). z.1) is in
        inl (subst (λ (n : NetRecord). All IsQuietNode n.network.nodes) came (events_keep routes plan is_plan starts (All IsQuietNode) (keeps_quiet routes plan is_plan starts) sends now net round_is.of was quiet))
    left_after now round_is sends net mid most was is (inr few) = by_round (one_round now round_is sends net mid was is)
      where
        by_round : (work mid.network.nodes < work net.network.nodes) ⊎ All IsQuietNode mid.network.nodes → IsLeft most mid.network.nodes
        by_round left = search arith

    -- and after several: the first, and then the others
    first_left : (now later : List Event) → IsRound plan now → (n : ℕ) (sends : List (ℕ × Packet)) (most : ℕ) (net after : NetRecord) → Is sends net → IsLeft (suc n + most) net.network.nodes →
        ((mid : NetRecord) → Is sends mid → run_events record_apply mid later ≡ (Ok tt, after) → IsLeft (n + most) mid.network.nodes → IsLeft most after.network.nodes) →
        (answer : Result (Unit {0}) EventFault) → (run_events record_apply net now).0 ≡ answer →
        ◌≡◌ {A = Outcome NetRecord} (unless_fault answer (run_events record_apply net now).1 (λ next. run_events record_apply next later)) (Ok tt, after) → IsLeft most after.network.nodes
    first_left now later round_is n sends most net after was left goes_on (Err f) told rest = let no : ◌≡◌ {A = Result (Unit {0}) EventFault} (Err f) (Ok tt) = ap (λ (z : Outcome NetRecord). z.0) rest in absurd (cc)
    first_left now later round_is n sends most net after was left goes_on (Ok u) told rest =
        let mid : NetRecord = (run_events record_apply net now).1 in
        let first : run_events record_apply net now ≡ (Ok tt, mid) = ap (λ (o : Result (Unit {0}) EventFault). (o, mid)) told in
        let there : Is sends mid = events_leave routes plan is_plan starts nothing (keeps_nothing routes plan starts) sends now net round_is.of was in
        goes_on mid there rest
        (left_after now round_is sends net mid (n + most) was first (left_within (suc n + most) (n + most + 1) net.network.nodes (omega arith) left))

    rounds_left : (n : ℕ) (es : List Event) → AreRounds plan n es → (sends : List (ℕ × Packet)) (most : ℕ) (net after : NetRecord) → Is sends net → run_events record_apply net es ≡ (Ok tt, after) → IsLeft (n + most) net.network.nodes → IsLeft most after.network.nodes
    rounds_left zero es none sends most net after was is left =
        let same : ◌≡◌ {A = Outcome NetRecord} (Ok tt, net) (Ok tt, after) = sym (ap (run_events record_apply net) none) ∙ is in
        subst (λ (m : NetRecord). IsLeft most m.network.nodes) (ap (λ (z : Outcome NetRecord). z.1) same) (left_within (zero + most) most net.network.nodes (omega arith) left)
    rounds_left (suc n) es are sends most net after was is left =
        first_left are.0 are.1 are.3 n sends most net after was left (λ mid there came fewer. rounds_left n are.1 are.4 sends most mid after there came fewer)
        (run_events record_apply net are.0).0 refl
        (sym (ap (run_events record_apply net) are.2 ∙ run_append record_apply are.0 are.1 net) ∙ is)

    -- the same of a line that sends nothing, and of lines
    line_left : (sends : List (ℕ × Packet)) (session : Session) (line : List ℕ) (most : ℕ) → Is sends session.net → AreOrders session.turns → MayAsk routes (read_script_line session.net.network.plan session.image line) (line_answer session line).0 → line_sends session line ≡ [] → IsLeft (line_rounds session line + most) session.net.network.nodes → IsLeft most (line_answer session line).1.net.network.nodes
    line_left sends session line most was orders may silent left = by_count (line_counts session line orders)
      where
        by_count : CountsRounds session (line_rounds session line) (line_answer session line).1 → IsLeft most (line_answer session line).1.net.network.nodes
        by_count (inl none) =
            let fewer : IsLeft most session.net.network.nodes = left_within (line_rounds session line + most) most session.net.network.nodes (omega (arith, none)) left in
            line_keeps routes plan is_plan starts (IsLeft most) (keeps_left most) sends session line was may silent fewer
        by_count (inr came) =
            rounds_left (line_rounds session line) came.0 (subst (λ p. AreRounds p (line_rounds session line) came.0) was.same_plan came.1)
            sends most session.net (line_answer session line).1.net was came.2 left

    pub lines_left : (lines : List (List ℕ)) (number : ℕ) (sends : List (ℕ × Packet)) (session : Session) → Is sends session.net → AreOrders session.turns → LeaveUnchanged routes session lines → lines_sent session lines ≡ [] → IsLeft (lines_rounds session lines) session.net.network.nodes → IsQuiet (lines_outcome line_outcome number session lines).1.net.network
    unfolding line_outcome
    lines_left [] number sends session was orders all silent left = none_left session.net.network.nodes left
    lines_left (line ∷ lines) number sends session was orders all silent left =
        let next : Session = (line_answer session line).1 in
        let parts = both_empty (line_sends session line) (lines_sent next lines) silent in
        let there : Is sends next.net = silent_line routes plan is_plan starts sends session line was all.0 parts.0 in
        lines_left lines (suc number) sends next there (line_orders session line orders) all.1 parts.1 (line_left sends session line (lines_rounds next lines) was orders all.0 parts.0 left)
