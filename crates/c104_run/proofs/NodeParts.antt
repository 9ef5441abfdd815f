-- The part of a node in a round is what its ports and the node itself have in each part of the round.
use Rattle.{c104_event.specs.declared.events.Event.Event, c104_node.specs.declared.port_part.PortPart.PortPart, c104_plan.specs.Plans.Plan}
use Rattle.{c104_plan.specs.declared.ports.Port.Port, c104_run.specs.{EventActs.port_place, EventPlaces.event_place, NodeParts.events_of}}
use Rattle.c104_run.specs.{NodeParts.{node_ports, own_events, round_part}, RoundParts.port_events, Rounds.{all_claims, all_drains}}
use Rattle.c104_run.specs.Rounds.{claims_of, is_wired, link_numbers, switch_claims, turn_at, wired_links, wired_ports, wired_terminals}
use Rattle.std.proofs.Common.{Bool, List, [], ap, append-nil, append_assoc, arith, false, filter, if◌then◌else◌, length, map, nat_eq}
use Rattle.std.proofs.{Common.{nat_lt, refl, suc, true, zero, ℕ, ◌++◌, ◌+◌, ◌-◌, ◌<◌, ◌∙◌, ◌∷◌, ◌≡◌, ◌≤◌}, lemmas.Bool.Decides.nat_tests}
use Rattle.std.{proofs.lemmas.List.Elements.{filter-append, filter_agree}, specs.List.{flat_map, range_with_len}}

-- of lists that are joined, and of which a test passes all or none
filter_flat : {X Y : Type 0} (q : Y → Bool) (f : X → List Y) (r : X → Bool) → ((x : X) → filter q (f x) ≡ (if r x then f x else [])) → (xs : List X) → filter q (flat_map f xs) ≡ flat_map f (filter r xs)
filter_flat q f r each [] = refl
filter_flat {X} {Y} q f r each (x ∷ xs) = search (arith, filter-append, filter_flat q f r each xs)

-- what passes a test of what is made
filter_map_of : {X Y : Type 0} (q : Y → Bool) (f : X → Y) (xs : List X) → filter q (map f xs) ≡ map f (filter (λ x. q (f x)) xs)
filter_map_of q f [] = refl
filter_map_of {X} {Y} q f (x ∷ xs) = search (arith, filter_map_of q f xs)

-- two tests may change places
filter_swap : {X : Type 0} (q w : X → Bool) (xs : List X) → filter q (filter w xs) ≡ filter w (filter q xs)
filter_swap q w [] = refl
filter_swap {X} q w (x ∷ xs) = search (arith, filter_swap q w xs)

-- a test that is the same of all
filter_all : {X : Type 0} (b : Bool) (xs : List X) → filter (λ x. b) xs ≡ (if b then xs else [])
filter_all true [] = refl
filter_all {X} true (x ∷ xs) = ap (λ (ys : List X). x ∷ ys) (filter_all true xs)
filter_all false [] = refl
filter_all false (x ∷ xs) = filter_all false xs

-- one number of those in turn
none_later : (k a n : ℕ) → k < a → filter (λ j. nat_eq j k) (range_with_len a n) ≡ []
none_later k a zero past = refl
none_later k a (suc n) past = let no : nat_eq a k ≡ false = grind (arith, nat_tests, past) in rw no (none_later k (a + 1) n (omega (arith, past)))

one_number : (k a n : ℕ) → a ≤ k → filter (λ j. nat_eq j k) (range_with_len a n) ≡ (if nat_lt k (a + n) then k ∷ [] else [])
one_number k a zero low = let no : nat_lt k (a + 0) ≡ false = grind (arith, nat_tests, low) in rw no refl
one_number k a (suc n) low = by_test (one_number k (a + 1) n) (nat_eq a k) refl
  where
    by_test : (a + 1 ≤ k → filter (λ j. nat_eq j k) (range_with_len (a + 1) n) ≡ (if nat_lt k (a + 1 + n) then k ∷ [] else [])) → (b : Bool) → nat_eq a k ≡ b → (if b then a ∷ filter (λ j. nat_eq j k) (range_with_len (a + 1) n) else filter (λ j. nat_eq j k) (range_with_len (a + 1) n)) ≡ (if nat_lt k (a + suc n) then k ∷ [] else [])
    by_test again true is =
        let same : a ≡ k = grind (arith, nat_tests, is) in
        let here : nat_lt k (a + suc n) ≡ true = grind (arith, nat_tests, same) in
        rw here (ap (λ (js : List ℕ). a ∷ js) (none_later k (a + 1) n (omega (arith, same))) ∙ ap (λ (j : ℕ). j ∷ []) same)
    by_test again false is =
        let more : a + 1 ≤ k = grind (arith, nat_tests, is, low) in
        let sum : a + suc n ≡ a + 1 + n = omega arith in
        rw sum (again more)

-- parts that are joined
joined : {X : Type 0} (a b c d e own_a own_b own_c own : List X) → a ≡ own_a → b ≡ own_b → c ≡ own_c → d ++ e ≡ own → a ++ b ++ c ++ d ++ e ≡ own_a ++ own_b ++ own_c ++ own
joined {X} a b c d e own_a own_b own_c own first second third last = search (arith, append_assoc)

module _ (plan : Plan) (k : ℕ) where
  abbrev switches : ℕ
  switches = length plan.switches

  abbrev terminals : ℕ
  terminals = length plan.terminals

  abbrev leads : Event → Bool
  leads e = nat_eq (event_place plan e) k

  abbrev is_here : Port → Bool
  is_here p = nat_eq (port_place plan p) k

  -- of what is made of switches, what is made of one
  number_flat : {Y : Type 0} (f : ℕ → List Y) (n : ℕ) → flat_map f (filter (λ j. nat_eq j k) (range_with_len 0 n)) ≡ (if nat_lt k n then f k else [])
  number_flat {Y} f n = search (arith, one_number, append-nil)

  -- of the terminals, one
  abbrev here_of : {Y : Type 0} → (ℕ → List Y) → List Y
  here_of f = if nat_lt k switches then [] else if nat_lt (k - switches) terminals then f (k - switches) else []

  number_is : (t : ℕ) → nat_lt k switches ≡ false → nat_eq (switches + t) k ≡ nat_eq t (k - switches)
  number_is t past = search (arith, nat_tests)

  terminal_here : filter (λ t. nat_eq (switches + t) k) (range_with_len 0 terminals) ≡ here_of (λ t. t ∷ [])
  terminal_here = by_test (nat_lt k switches) refl
    where
      by_test : (b : Bool) → nat_lt k switches ≡ b → filter (λ t. nat_eq (switches + t) k) (range_with_len 0 terminals) ≡ (if b then [] else if nat_lt (k - switches) terminals then (k - switches) ∷ [] else [])
      by_test true before = filter_agree (λ t. nat_eq (switches + t) k) (λ t. false) (λ t. grind (arith, nat_tests, before)) (range_with_len 0 terminals) ∙ filter_all false (range_with_len 0 terminals)
      by_test false past =
          let sum : 0 + terminals ≡ terminals = omega arith in
          filter_agree (λ t. nat_eq (switches + t) k) (λ t. nat_eq t (k - switches)) (λ t. number_is t past) (range_with_len 0 terminals)
          ∙ one_number (k - switches) 0 terminals (omega arith)
          ∙ ap (λ (m : ℕ). if nat_lt (k - switches) m then (k - switches) ∷ [] else []) sum

  here_made : {Y Z : Type 0} (g : List Y → List Z) (f : ℕ → List Y) → g [] ≡ [] → g (here_of f) ≡ here_of (λ t. g (f t))
  here_made {Y} {Z} g f none = search arith

  -- the wired ports of the node
  links_here : (s : ℕ) → filter is_here (wired_links plan s) ≡ (if nat_eq s k then wired_links plan s else [])
  links_here s =
      filter_swap is_here (is_wired plan) (map (Port.Switch s) link_numbers)
      ∙ ap (filter (is_wired plan)) (filter_map_of is_here (Port.Switch s) link_numbers ∙ ap (map (Port.Switch s)) (filter_all (nat_eq s k) link_numbers))
      ∙ by_test (nat_eq s k)
    where
      by_test : (b : Bool) → filter (is_wired plan) (map (Port.Switch s) (if b then link_numbers else [])) ≡ (if b then wired_links plan s else [])
      by_test true = refl
      by_test false = refl

  switch_ports : filter is_here (flat_map (wired_links plan) (range_with_len 0 switches)) ≡ (if nat_lt k switches then wired_links plan k else [])
  switch_ports = filter_flat is_here (wired_links plan) (λ s. nat_eq s k) links_here (range_with_len 0 switches) ∙ number_flat (wired_links plan) switches

  terminal_ports : filter is_here (wired_terminals plan) ≡ here_of (λ t. filter (is_wired plan) (Port.Terminal t ∷ []))
  terminal_ports = search (arith, filter_swap, filter_map_of, terminal_here, here_made)

  -- what is of a switch, or else of a terminal
  either : {Y : Type 0} (of_switch : List Y) (of_terminal : ℕ → List Y) → (if nat_lt k switches then of_switch else []) ++ here_of of_terminal ≡ (if nat_lt k switches then of_switch else here_of of_terminal)
  either {Y} of_switch of_terminal = search (arith, append-nil)

  either_of : {Y : Type 0} (of_switch : List Y) (of_terminal : ℕ → List Y) → (if nat_lt k switches then of_switch else here_of of_terminal) ≡ (if nat_lt k switches then of_switch else if nat_lt (k - switches) terminals then of_terminal (k - switches) else [])
  either_of {Y} of_switch of_terminal = search arith

  ports_are : filter is_here (wired_ports plan) ≡ node_ports plan k
  ports_are = search (arith, filter-append, switch_ports, terminal_ports, either, either_of)

  -- what a part of a round has at them
  part_here : (part : PortPart) (p : Port) → filter leads (port_events part p) ≡ (if is_here p then port_events part p else [])
  part_here part p = search arith

  part_events : (part : PortPart) → filter leads (flat_map (port_events part) (wired_ports plan)) ≡ flat_map (port_events part) (node_ports plan k)
  part_events part = filter_flat leads (port_events part) is_here (part_here part) (wired_ports plan) ∙ ap (flat_map (port_events part)) ports_are

  -- the claims of the node
  claim_here : (s i : ℕ) → filter leads (claims_of s i) ≡ (if nat_eq s k then claims_of s i else [])
  claim_here s i =
      filter_map_of leads (Event.Claim s i) link_numbers ∙ ap (map (Event.Claim s i)) (filter_all (nat_eq s k) link_numbers) ∙ by_test (nat_eq s k)
    where
      by_test : (b : Bool) → map (Event.Claim s i) (if b then link_numbers else []) ≡ (if b then claims_of s i else [])
      by_test true = refl
      by_test false = refl

  claims_here : (s : ℕ) → filter leads (switch_claims s) ≡ (if nat_eq s k then switch_claims s else [])
  claims_here s =
      filter_flat leads (claims_of s) (λ i. nat_eq s k) (claim_here s) link_numbers ∙ ap (flat_map (claims_of s)) (filter_all (nat_eq s k) link_numbers) ∙ by_test (nat_eq s k)
    where
      by_test : (b : Bool) → flat_map (claims_of s) (if b then link_numbers else []) ≡ (if b then switch_claims s else [])
      by_test true = refl
      by_test false = refl

  own_are : filter leads (all_claims switches) ++ filter leads (all_drains terminals) ≡ own_events plan k
  own_are =
      ap (λ (es : List Event). es ++ filter leads (all_drains terminals)) (filter_flat leads switch_claims (λ s. nat_eq s k) claims_here (range_with_len 0 switches) ∙ number_flat switch_claims switches)
      ∙ ap (λ (es : List Event). (if nat_lt k switches then switch_claims k else []) ++ es)
      (filter_map_of leads Event.Drain (range_with_len 0 terminals) ∙ ap (map Event.Drain) terminal_here ∙ here_made (map Event.Drain) (λ t. t ∷ []) refl)
      ∙ either (switch_claims k) (λ t. Event.Drain t ∷ [])
      ∙ either_of (switch_claims k) (λ t. Event.Drain t ∷ [])

  abbrev credits : List Event
  credits = map Event.Credit (wired_ports plan)

  abbrev crosses : List Event
  crosses = map Event.Cross (wired_ports plan)

  abbrev turns : List Event
  turns = flat_map turn_at (wired_ports plan)

  abbrev claims : List Event
  claims = all_claims switches

  abbrev drains : List Event
  drains = all_drains terminals

  parted : round_part plan k ≡ filter leads credits ++ filter leads crosses ++ filter leads turns ++ filter leads claims ++ filter leads drains
  parted = search (arith, filter-append)

  pub round_part_is : round_part plan k ≡ events_of plan k (node_ports plan k)
  round_part_is = search (arith, parted, joined, part_events, own_are)
