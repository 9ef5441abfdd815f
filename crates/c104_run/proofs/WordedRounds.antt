-- A round whose inputs are handed words, as it is walked; and rounds of them.
use Rattle.c104_event.specs.declared.{events.Event.Event, faults.EventFault.EventFault}
use Rattle.{c104_node.specs.declared.port_part.PortPart.TheVariants.{Credit, Cross, Turn}, c104_plan.specs.Plans.Plan}
use Rattle.{c104_plan.specs.declared.ports.Port.Port, c104_run.proofs.{LaterWords.words_after, PortWalks.{ports_walked, round_walked}}}
use Rattle.c104_run.{proofs.{PortWalks.turns_walked, RoundRuns.{Applied, run_append, run_from}}, specs.EventRuns.{EventsEnd, Outcome}}
use Rattle.c104_run.specs.{EventRuns.{run_events, unless_fault}, HandedWords.{Words, all_worded, round_with, rounds_with, walked_with}}
use Rattle.c104_run.specs.{HandedWords.{worded, words_behind}, RoundParts.{claim_walk, drain_walk, input_walk, output_walk, port_events}}
use Rattle.c104_run.specs.{RoundParts.{switch_walk, terminal_walk}, Rounds.{link_numbers, round, rounds, turn_at, wired_ports}}
use Rattle.std.proofs.Common.{Err, List, Ok, [], ap, append-nil, append_assoc, arith, inl, inr, length, refl, suc, sym, zero, ℕ, ◌++◌, ◌+◌}
use Rattle.std.{proofs.{Common.{◌-◌, ◌<◌, ◌∙◌, ◌∷◌, ◌≡◌}, lemmas.List.map-append}, specs.List.{flat_map, range_with_len}}

module _ (words : Words) where
  -- events of parts that hand none
  pub flat_kept : {X : Type 0} (f : X → List Event) → ((x : X) → all_worded words (f x) ≡ f x) → (xs : List X) → all_worded words (flat_map f xs) ≡ flat_map f xs
  flat_kept f each [] = refl
  flat_kept f each (x ∷ xs) = search (arith, map-append, each x, flat_kept f each xs)

  pub joined : (xs ys : List Event) {us vs : List Event} → all_worded words xs ≡ us → all_worded words ys ≡ vs → all_worded words (xs ++ ys) ≡ us ++ vs
  joined xs ys {us} {vs} one two = map-append (worded words) xs ys ∙ ap (λ es. es ++ all_worded words ys) one ∙ ap (λ es. us ++ es) two

  module _ (plan : Plan) where
    pub credit_kept : all_worded words (switch_walk plan Credit ++ terminal_walk plan Credit) ≡ switch_walk plan Credit ++ terminal_walk plan Credit
    credit_kept = ap (all_worded words) (sym (ports_walked plan Credit)) ∙ flat_kept (port_events Credit) (λ p. refl) (wired_ports plan) ∙ ports_walked plan Credit

    pub cross_kept : all_worded words (switch_walk plan Cross ++ terminal_walk plan Cross) ≡ switch_walk plan Cross ++ terminal_walk plan Cross
    cross_kept = ap (all_worded words) (sym (ports_walked plan Cross)) ∙ flat_kept (port_events Cross) (λ p. refl) (wired_ports plan) ∙ ports_walked plan Cross

    claims_kept : all_worded words (claim_walk plan) ≡ claim_walk plan
    claims_kept = flat_kept input_walk (λ s. flat_kept (output_walk s) (λ i. flat_kept (λ o. Event.Claim s i o ∷ []) (λ o. refl) link_numbers) link_numbers) (range_with_len 0 (length plan.switches))

    drains_kept : all_worded words (drain_walk plan) ≡ drain_walk plan
    drains_kept = flat_kept (λ t. Event.Drain t ∷ []) (λ t. refl) (range_with_len 0 (length plan.terminals))

    pub walked_words : round_with words plan ≡ walked_with words plan
    walked_words = ap (all_worded words) (round_walked plan) ∙ joined _ _ (joined _ _ (joined _ _ (joined _ _ credit_kept cross_kept) refl) claims_kept) drains_kept

-- a plain round hands 0 to each
zero_turn : (p : Port) → all_worded Words.Zero (turn_at p) ≡ turn_at p
zero_turn (Port.Switch s l) = refl
zero_turn (Port.Terminal t) = refl

zero_turns : (plan : Plan) → all_worded Words.Zero (switch_walk plan Turn) ≡ switch_walk plan Turn
zero_turns plan = ap (all_worded Words.Zero) (sym (turns_walked plan)) ∙ flat_kept Words.Zero turn_at zero_turn (wired_ports plan) ∙ turns_walked plan

pub zero_round : (plan : Plan) → round_with Words.Zero plan ≡ round plan
zero_round plan = ap (all_worded Words.Zero) (round_walked plan) ∙ joined Words.Zero _ _ (joined Words.Zero _ _ (joined Words.Zero _ _ (joined Words.Zero _ _ (credit_kept Words.Zero plan) (cross_kept Words.Zero plan)) (zero_turns plan)) (claims_kept Words.Zero plan)) (drains_kept Words.Zero plan) ∙ sym (round_walked plan)

-- so do rounds
pub zero_rounds : (plan : Plan) (n : ℕ) → rounds_with Words.Zero plan n ≡ rounds plan n
zero_rounds plan zero = refl
zero_rounds plan (suc n) = ap (λ es. es ++ rounds_with Words.Zero plan n) (zero_round plan) ∙ ap (λ es. round plan ++ es) (zero_rounds plan n)

-- rounds in two parts
pub words_two : (plan : Plan) (words : Words) (m n : ℕ) → rounds_with words plan (m + n) ≡ rounds_with words plan m ++ rounds_with (words_after words (length plan.switches) m) plan n
words_two plan words zero n = let same : zero + n ≡ n = omega arith in ap (rounds_with words plan) same
words_two plan words (suc m) n =
    let same : suc m + n ≡ suc (m + n) = omega arith in
    let next : Words = words_behind words (length plan.switches) in
    ap (rounds_with words plan) same ∙ ap (λ es. round_with words plan ++ es) (words_two plan next m n)
    ∙ sym (append_assoc (round_with words plan) (rounds_with next plan m) (rounds_with (words_after next (length plan.switches) m) plan n))

-- the words of the next round
pub words_next : (words : Words) (switches i : ℕ) → words_behind (words_after words switches i) switches ≡ words_after words switches (i + 1)
words_next words switches zero = refl
words_next words switches (suc i) = words_next (words_behind words switches) switches i ∙ (let same : suc (i + 1) ≡ suc i + 1 = omega arith in ap (words_after words switches) same)

-- some rounds, the next one, and those after it
pub words_from : (plan : Plan) (words : Words) (i n : ℕ) → i < n → rounds_with words plan n ≡ rounds_with words plan i ++ (round_with (words_after words (length plan.switches) i) plan ++ rounds_with (words_behind (words_after words (length plan.switches) i) (length plan.switches)) plan (n - suc i))
words_from plan words i n further = let count : n ≡ i + suc (n - suc i) = omega arith in ap (rounds_with words plan) count ∙ words_two plan words i (suc (n - suc i))

module _ {S : Type 0} (apply : S → Event → Applied S) (plan : Plan) (words : Words) where
  abbrev pub Handed : ℕ → Words
  Handed = words_after words (length plan.switches)

  -- one more round
  pub words_taken : (net mid after : S) (i : ℕ) → run_events apply net (rounds_with words plan i) ≡ (Ok tt, mid) → run_events apply mid (round_with (Handed i) plan) ≡ (Ok tt, after) → run_events apply net (rounds_with words plan (i + 1)) ≡ (Ok tt, after)
  words_taken net mid after i front next =
      ap (run_events apply net) (words_two plan words i 1 ∙ ap (λ es. rounds_with words plan i ++ es) (append-nil (round_with (Handed i) plan)))
      ∙ run_from apply net mid (rounds_with words plan i) (round_with (Handed i) plan) front ∙ next

  -- a round that ends with a fault, or short
  pub words_refused : (net mid after : S) (i n : ℕ) (f : EventFault) → i < n → run_events apply net (rounds_with words plan i) ≡ (Ok tt, mid) → EventsEnd apply mid (round_with (Handed i) plan) (Err f) after → EventsEnd apply net (rounds_with words plan n) (Err f) after
  words_refused net mid after i n f further front ends =
      let now : List Event = round_with (Handed i) plan in
      let more : List Event = rounds_with (words_behind (Handed i) (length plan.switches)) plan (n - suc i) in
      elim ends [
        | inl due ↦ inl (sym (ap (run_events apply net) (words_from plan words i n further) ∙ run_from apply net mid (rounds_with words plan i) (now ++ more) front
            ∙ run_append apply now more mid ∙ ap (λ (r : Outcome S). unless_fault r.0 r.1 (λ next. run_events apply next more)) (sym due)))
        | inr short ↦ inr (record {
          refused = short.refused;
          front = rounds_with words plan i ++ short.front;
          event = short.event;
          rest = short.rest ++ more;
          parts = words_from plan words i n further ∙ ap (λ es. rounds_with words plan i ++ (es ++ more)) short.parts ∙ ap (λ es. rounds_with words plan i ++ es) (append_assoc short.front (short.event ∷ short.rest) more) ∙ sym (append_assoc (rounds_with words plan i) short.front (short.event ∷ (short.rest ++ more)));
          stands = run_from apply net mid (rounds_with words plan i) short.front front ∙ short.stands;
          wanted = short.wanted;
        })
      ]
