-- What traces tell of a run goes on by an event that was done.
use Rattle.{c104_event.specs.declared.{events.Event.Event, faults.EventFault.EventFault}, c104_node.proofs.WireEnds.get_set_other}
use Rattle.c104_node.{proofs.WireEnds.get_set_same, specs.{Nodes.{Node, is_switch}, Traces.{Deed, noted_all, noted_at, part, seatless}}}
use Rattle.c104_node.specs.declared.{acts.Entry.Entry, node.NodeOf.TheVariants.{Switch, Terminal}, stamps.Stamp.Stamp}
use Rattle.{c104_plan.specs.Plans.Plan, c104_run.specs.{Balance.AreInPlace, EventDeeds.event_deeds, EventPlaces.event_place}}
use Rattle.c104_run.specs.{Network.{AnswersWith, Network, network_apply, network_of}, Runs.{AreBehind, AreInOrder, IsDoneRun, IsRunRecord}}
use Rattle.{c104_run.specs.Runs.{at_node, run_deeds}, c104_switch.specs.Actions.{Reply, is_ready}, c104_token.specs.Kinds.Kind}
use Rattle.std.proofs.Common.{Bool, List, Ok, Option, Result, [], ap, append-nil, append_assoc, arith, false, inl, length, length-append}
use Rattle.std.proofs.Common.{map, nat_lt, refl, replicate, slice_get, subst, suc, sym, true, zero, ℕ, ◌++◌, ◌+◌, ◌<◌, ◌∙◌, ◌∷◌, ◌≡◌}
use Rattle.std.{proofs.lemmas.{Bool.Decides.nat_tests, List.{length-map, length-replicate}}, specs.Option.option_map}

-- whether there is a switch at a place
abbrev is_switch_at : {A : Type 0} → List (Node A) → ℕ → Bool
is_switch_at nodes k = part false is_switch (slice_get nodes k)

-- whether a plan has a switch at a place: the switches stand first
abbrev pub is_switch_place : Plan → ℕ → Bool
is_switch_place plan k = nat_lt k (length plan.switches)

-- where each node stands at its place, the plan tells which are switches
pub by_counts : {A : Type 0} (a b : ℕ) (nodes : List (Node A)) → map is_switch nodes ≡ replicate a true ++ replicate b false → (k : ℕ) → is_switch_at nodes k ≡ nat_lt k a
by_counts zero zero [] are k = grind (arith, nat_tests)
by_counts zero (suc b) (Terminal t ∷ nodes) are zero = grind (arith, nat_tests)
by_counts zero (suc b) (Terminal t ∷ nodes) are (suc k) = by_counts zero b nodes (let rest : map is_switch nodes ≡ replicate b false = cc in rest) k ∙ (let none : nat_lt k 0 ≡ nat_lt (suc k) 0 = grind (arith, nat_tests) in none)
by_counts (suc a) b (Switch s ∷ nodes) are zero = grind (arith, nat_tests)
by_counts (suc a) b (Switch s ∷ nodes) are (suc k) = by_counts a b nodes (let rest : map is_switch nodes ≡ replicate a true ++ replicate b false = cc in rest) k ∙ (let same : nat_lt k a ≡ nat_lt (suc k) (suc a) = grind (arith, nat_tests) in same)
by_counts a b nodes are k = cc

-- and how many nodes there are
pub counted : {A : Type 0} (a b : ℕ) (nodes : List (Node A)) → map is_switch nodes ≡ replicate a true ++ replicate b false → length nodes ≡ a + b
counted a b nodes are = search (arith, length-map, length-append, replicate, length-replicate)

pub in_place : {A : Type 0} (plan : Plan) (nodes : List (Node A)) → AreInPlace plan nodes → (k : ℕ) → is_switch_at nodes k ≡ is_switch_place plan k
in_place plan nodes are k = by_counts (length plan.switches) (length plan.terminals) nodes are k

-- an entry that joins a trace is seen at its place alone
noted_one : (traces : List (List Entry)) (j k : ℕ) (e : Entry) → slice_get (noted_at true traces j e) k ≡ option_map (λ t. t ++ at_node k ((j, e) ∷ [])) (slice_get traces k)
noted_one traces j k e = search (arith, append-nil, nat_tests, get_set_same, get_set_other)

at_append : (k : ℕ) (ds es : List Deed) → at_node k (ds ++ es) ≡ at_node k ds ++ at_node k es
at_append k [] es = refl
at_append k (d ∷ ds) es = search (arith, at_append k ds es)

-- entries that join traces are seen as the part of each place
noted_parts : (ds : List Deed) (traces : List (List Entry)) (k : ℕ) → slice_get (noted_all true traces ds) k ≡ option_map (λ t. t ++ at_node k ds) (slice_get traces k)
noted_parts [] traces k = search (arith, append-nil)
noted_parts (d ∷ ds) traces k = noted_parts ds (noted_at true traces d.0 d.1) k ∙ ap (option_map (λ t. t ++ at_node k ds)) (noted_one traces d.0 k d.1) ∙ joined (slice_get traces k)
  where
    joined : (o : Option (List Entry)) → option_map (λ t. t ++ at_node k ds) (option_map (λ t. t ++ at_node k (d ∷ [])) o) ≡ option_map (λ t. t ++ at_node k (d ∷ ds)) o
    joined o = search (arith, append_assoc, at_append)

deeds_append : (plan : Plan) (stamps : ℕ → Stamp) (n : ℕ) (events : List (Event × Reply)) (e : Event) (r : Reply) → run_deeds plan stamps n (events ++ (e, r) ∷ []) ≡ run_deeds plan stamps n events ++ event_deeds plan (stamps (n + length events)) e r
deeds_append plan stamps n [] e r = append-nil _ ∙ ap (λ t. event_deeds plan (stamps t) e r) (let same : n ≡ n + 0 = omega arith in same)
deeds_append plan stamps n (d ∷ events) e r =
    let here : List Deed = event_deeds plan (stamps n) d.0 d.1 in
    let further : suc n + length events ≡ n + suc (length events) = omega arith in
    ap (λ ds. here ++ ds) (deeds_append plan stamps (suc n) events e r ∙ ap (λ t. run_deeds plan stamps (suc n) events ++ event_deeds plan (stamps t) e r) further)
    ∙ sym (append_assoc here (run_deeds plan stamps (suc n) events) (event_deeds plan (stamps (n + suc (length events))) e r))

-- where each number is a ticket, events stand in the order of their tickets
seatless_behind : (plan : Plan) (ticket place n : ℕ) (events : List (Event × Reply)) → ticket < n → AreBehind plan seatless ticket place n events
seatless_behind plan ticket place n [] before = tt
seatless_behind plan ticket place n (e ∷ events) before = (inl before, seatless_behind plan ticket place (suc n) events (omega (arith, before)))

pub seatless_order : (plan : Plan) (n : ℕ) (events : List (Event × Reply)) → AreInOrder plan seatless n events
seatless_order plan n [] = tt
seatless_order plan n (e ∷ events) = (seatless_behind plan n (event_place plan e.0) (suc n) events (omega arith), seatless_order plan (suc n) events)

module _ {A : Type 0} (kind : Kind A) where
  done_append : (net mid after : Network A) (events : List (Event × Reply)) (e : Event) (r : Reply) → IsDoneRun kind net events mid → ◌≡◌ {A = Result Reply EventFault × Network A} (Ok r, after) (network_apply kind mid e) → is_ready r ≡ true → IsDoneRun kind net (events ++ (e, r) ∷ []) after
  done_append net mid after [] e r run due ready = (after, subst (λ n. ◌≡◌ {A = Result Reply EventFault × Network A} (Ok r, after) (network_apply kind n e)) run due, ready, refl)
  done_append net mid after (d ∷ events) e r run due ready = (run.0, run.1, run.2, done_append run.0 mid after events e r run.3 due ready)

  -- the record of a run goes on by an event that was done, with the stamp of its number, where this stands behind all
  pub record_on : (plan : Plan) (stamps : ℕ → Stamp) (start nodes after : List (Node A)) (traces more : List (List Entry)) (count : ℕ) (events : List (Event × Reply)) (full : Bool) (e : Event) (r : Reply) →
      AreInPlace plan nodes → IsRunRecord kind plan stamps start nodes traces count events → AnswersWith kind full (network_of plan nodes) e (Ok r) (network_of plan after) → is_ready r ≡ true →
      more ≡ noted_all true traces (event_deeds plan (stamps count) e r) →
      AreInOrder plan stamps 0 (events ++ (e, r) ∷ []) →
      IsRunRecord kind plan stamps start after more (count + 1) (events ++ (e, r) ∷ [])
  record_on plan stamps start nodes after traces more count events full e r are before answer ready noted ordered =
      search (arith, deeds_append, done_append, noted_parts, counted, length-append, at_append)
