-- Rounds, whatever their words and in whatever order their claims are: events of the kinds that rounds have, of which none is
-- ready exactly where none of a plain round is.
--     AreRounds plan n es      these events are n such rounds, one after another
use Rattle.c104_deadlock.proofs.{FairMembers.{each_of_fair_round, fair_finds, fair_idles}, FairOrders.orders_kept, HandedRounds.still_plain}
use Rattle.c104_deadlock.proofs.{HandedRounds.{still_worded, unready_stays}, RoundMembers.each_of_round_with}
use Rattle.{c104_deadlock.specs.DeadlockFreedom.AreOrders, c104_event.specs.declared.events.Event.Event}
use Rattle.{c104_net.proofs.JointKeeps.IsOfRound, c104_node.specs.{Nodes.Node, Traced.traced_kind, declared.traced.Traced.Traced}}
use Rattle.{c104_plan.{proofs.RangeLists.each_append, specs.Plans.{IsPlan, Plan}}, c104_run.proofs.RoundRuns.{Applied, run_from}}
use Rattle.c104_run.specs.{EventRuns.{Outcome, run_events}, FairRounds.{InTurn, fair_events, fair_round, fairly}, HandedWords.round_with}
use Rattle.c104_run.specs.{HandedWords.{rounds_with, words_behind}, Network.{Network, network_apply, network_of}, Rounds.round}
use Rattle.{c104_run.specs.{Standstill.IsUnready, declared.{turns.SwitchTurns.SwitchTurns, words.Words.Words}}, std.proofs.Common.List}
use Rattle.std.{proofs.Common.{Ok, [], ap, length, refl, suc, zero, ℕ, ◌++◌, ◌∙◌, ◌≡◌}, specs.List.AllByRecursion}

-- all events of a round are events of a round
pub of_round : (plan : Plan) (words : Words) → AllByRecursion IsOfRound (round_with words plan)
of_round plan words = each_of_round_with plan IsOfRound words (λ p q wire. tt) (λ p q wire. tt) (λ s l w q wire. tt) (λ s i o inside input output. tt) (λ t inside. tt)

-- so are those of fair rounds, whatever turns they begin with
pub of_fair_round : (plan : Plan) (words : Words) (turns : List SwitchTurns) → AllByRecursion IsOfRound (fair_round words turns plan)
of_fair_round plan words turns = each_of_fair_round turns plan IsOfRound words (λ p q wire. tt) (λ p q wire. tt) (λ s l w q wire. tt) (λ s i o inside turn. tt) (λ t inside. tt)

pub of_fair_events : {S : Type 0} (apply : S → Event → Applied S) (words : Words) (plan : Plan) (n : ℕ) (x : InTurn S) → AllByRecursion IsOfRound (fair_events apply words plan n x)
of_fair_events apply words plan zero x = tt
of_fair_events apply words plan (suc n) x =
    let now : List Event = fair_round words x.turns plan in
    let next = (run_events (fairly apply) x now).1 in
    let later : Words = words_behind words (length plan.switches) in
    each_append IsOfRound now (fair_events apply later plan n next) (of_fair_round plan words x.turns) (of_fair_events apply later plan n next)

module _ (plan : Plan) where
  abbrev pub AreUnready : List (Node Traced) → List Event → Type 0
  AreUnready nodes es = AllByRecursion (IsUnready traced_kind (network_of plan nodes)) es

  pub record IsRound (es : List Event) : Type 0 where
    pub of : AllByRecursion IsOfRound es
    pub finds : (nodes : List (Node Traced)) → AreUnready nodes es → AreUnready nodes (round plan)
    pub idles : (nodes : List (Node Traced)) → AreUnready nodes (round plan) → AreUnready nodes es

  abbrev pub AreRounds : ℕ → List Event → Type 0
  AreRounds zero es = es ≡ []
  AreRounds (suc n) es = (now : List Event) × (later : List Event) × (es ≡ now ++ later) × IsRound now × AreRounds n later

  -- where none is ready they leave all as it was
  pub rounds_idle : (nodes : List (Node Traced)) → AreUnready nodes (round plan) → (n : ℕ) (es : List Event) → AreRounds n es → ◌≡◌ {A = Outcome (Network Traced)} (run_events (network_apply traced_kind) (network_of plan nodes) es) (Ok tt, network_of plan nodes)
  rounds_idle nodes still zero es none = ap (run_events (network_apply traced_kind) (network_of plan nodes)) none
  rounds_idle nodes still (suc n) es is =
      ap (run_events (network_apply traced_kind) (network_of plan nodes)) is.2
      ∙ run_from (network_apply traced_kind) (network_of plan nodes) (network_of plan nodes) is.0 is.1 (unready_stays traced_kind (network_of plan nodes) is.0 (is.3.idles nodes still))
      ∙ rounds_idle nodes still n is.1 is.4

  -- those that hand words
  pub handed_rounds : (n : ℕ) (words : Words) → AreRounds n (rounds_with words plan n)
  handed_rounds zero words = refl
  handed_rounds (suc n) words =
      let later : Words = words_behind words (length plan.switches) in (
        round_with words plan,
        rounds_with later plan n,
        refl,
        record {
          of = of_round plan words;
          finds = λ nodes all. still_plain traced_kind (network_of plan nodes) words (round plan) all;
          idles = λ nodes all. still_worded traced_kind (network_of plan nodes) words (round plan) all;
        },
        handed_rounds n later,
      )

  -- and fair ones, where the turns are orders
  pub fair_rounds : IsPlan plan → {S : Type 0} (apply : S → Event → Applied S) (n : ℕ) (words : Words) (x : InTurn S) → AreOrders x.turns → AreRounds n (fair_events apply words plan n x)
  fair_rounds is_plan apply zero words x orders = refl
  fair_rounds is_plan apply (suc n) words x orders =
      let now : List Event = fair_round words x.turns plan in
      let next = (run_events (fairly apply) x now).1 in
      let later : Words = words_behind words (length plan.switches) in (
        now,
        fair_events apply later plan n next,
        refl,
        record {
          of = of_fair_round plan words x.turns;
          finds = λ nodes all. fair_finds x.turns orders traced_kind (network_of plan nodes) words all;
          idles = λ nodes all. fair_idles x.turns orders traced_kind (network_of plan nodes) words is_plan all;
        },
        fair_rounds is_plan apply n later next (orders_kept apply x now orders),
      )
