-- What the part of a node looks like: of a switch the credit, the crossings, the turns and the claims, by its wired links; of a
-- terminal the credit and the crossing, if it has a wire, and a token's arrival.
use Rattle.{c104_crossbar.specs.Groups.has_bit, c104_event.specs.declared.events.Event.Event, c104_node.specs.Records.has_link}
use Rattle.{c104_node.specs.declared.port_part.PortPart.TheVariants.{Credit, Cross, Turn}, c104_plan.specs.Plans.Plan}
use Rattle.{c104_plan.specs.declared.ports.Port.Port, c104_run.proofs.{NodeParts.round_part_is, RoundLists.links_passed}}
use Rattle.c104_run.specs.{KnownWires.is_linked_end, NodeParts.{events_of, node_ports, own_events}, RoundParts.port_events, Rounds.is_wired}
use Rattle.{c104_run.specs.Rounds.{link_numbers, switch_claims, wired_links}, c104_turns.specs.{Parts.links_in, Working.IsSomePart}}
use Rattle.{c104_turns.specs.Working.{PartView, is_at_home, is_claim}, std.proofs.Common.{Bool, List, [], ap, append_assoc, arith, false}}
use Rattle.std.proofs.Common.{filter, if◌then◌else◌, length, map, nat_lt, not, refl, suc, sym, true, zero, ℕ, ◌&&◌, ◌++◌, ◌+◌, ◌-◌, ◌<◌}
use Rattle.std.{proofs.{Common.{◌∙◌, ◌∷◌, ◌≡◌, ◌≤◌}, lemmas.Bool.Decides.nat_tests}, specs.List.{flat_map, position_or_len, range_with_len}}

-- tests that say the same of the numbers at hand
filter_range : (t u : ℕ → Bool) (a n : ℕ) → ((l : ℕ) → l < a + n → t l ≡ u l) → filter t (range_with_len a n) ≡ filter u (range_with_len a n)
filter_range t u a zero same = refl
filter_range t u a (suc n) same =
    ap (λ (b : Bool). if b then a ∷ filter t (range_with_len (a + 1) n) else filter t (range_with_len (a + 1) n)) (same a (omega arith))
    ∙ ap (λ (fs : List ℕ). if u a then a ∷ fs else fs) (filter_range t u (a + 1) n (λ l below. same l (omega (arith, below))))

pub filter_links : (t u : ℕ → Bool) → ((l : ℕ) → l < 32 → t l ≡ u l) → filter t link_numbers ≡ filter u link_numbers
filter_links t u same =
    let all : range_with_len 0 32 ≡ link_numbers = links_passed 32 refl in
    ap (filter t) (sym all) ∙ filter_range t u 0 32 same ∙ ap (filter u) all

filter_length : (t : ℕ → Bool) (a n : ℕ) → length (filter t (range_with_len a n)) ≤ n
filter_length t a zero = omega arith
filter_length t a (suc n) = by_test (t a) (filter t (range_with_len (a + 1) n)) (filter_length t (a + 1) n)
  where
    by_test : (b : Bool) (rest : List ℕ) → length rest ≤ n → length (if b then a ∷ rest else rest) ≤ suc n
    by_test true rest low = omega (arith, low)
    by_test false rest low = omega (arith, low)

-- what is made of each, of which a test passes some
filter_made : {X Y : Type 0} (q : Y → Bool) (f : X → Y) (xs : List X) → filter q (map f xs) ≡ map f (filter (λ x. q (f x)) xs)
filter_made q f [] = refl
filter_made {X} q f (x ∷ xs) = by_test (q (f x)) (filter (λ y. q (f y)) xs) (filter_made q f xs)
  where
    by_test : (b : Bool) (ys : List X) → filter q (map f xs) ≡ map f ys → (if b then f x ∷ filter q (map f xs) else filter q (map f xs)) ≡ map f (if b then x ∷ ys else ys)
    by_test true ys is = ap (λ zs. f x ∷ zs) is
    by_test false ys is = is

-- events at links of a switch
abbrev pub credit_at : ℕ → ℕ → Event
credit_at k l = Event.Credit (Port.Switch k l)

abbrev pub cross_at : ℕ → ℕ → Event
cross_at k l = Event.Cross (Port.Switch k l)

abbrev pub turn_of : ℕ → ℕ → Event
turn_of k l = Event.Input k l 0

credits_are : (k : ℕ) (ls : List ℕ) → flat_map (port_events Credit) (map (Port.Switch k) ls) ≡ map (credit_at k) ls
credits_are k [] = refl
credits_are k (l ∷ ls) = ap (λ (es : List Event). credit_at k l ∷ es) (credits_are k ls)

crosses_are : (k : ℕ) (ls : List ℕ) → flat_map (port_events Cross) (map (Port.Switch k) ls) ≡ map (cross_at k) ls
crosses_are k [] = refl
crosses_are k (l ∷ ls) = ap (λ (es : List Event). cross_at k l ∷ es) (crosses_are k ls)

turns_are : (k : ℕ) (ls : List ℕ) → flat_map (port_events Turn) (map (Port.Switch k) ls) ≡ map (turn_of k) ls
turns_are k [] = refl
turns_are k (l ∷ ls) = ap (λ (es : List Event). turn_of k l ∷ es) (turns_are k ls)

abbrev pub switch_list : ℕ → List ℕ → List Event
switch_list k ls = map (credit_at k) ls ++ (map (cross_at k) ls ++ (map (turn_of k) ls ++ switch_claims k))

abbrev pub terminal_list : ℕ → Bool → List Event
terminal_list t true = Event.Credit (Port.Terminal t) ∷ Event.Cross (Port.Terminal t) ∷ Event.Drain t ∷ []
terminal_list t false = Event.Drain t ∷ []

-- where the first is that passes, behind some that don't
behind : (q : Event → Bool) (f : ℕ → Event) → ((l : ℕ) → q (f l) ≡ false) → (ls : List ℕ) (rest : List Event) → position_or_len q (map f ls ++ rest) ≡ length ls + position_or_len q rest
behind q f none [] rest = omega arith
behind q f none (l ∷ ls) rest =
    let step : (if not (q (f l)) then 1 + position_or_len q (map f ls ++ rest) else 0) ≡ 1 + position_or_len q (map f ls ++ rest) = ap (λ (b : Bool). if not b then 1 + position_or_len q (map f ls ++ rest) else 0) (none l) in
    step ∙ omega (arith, behind q f none ls rest)

first_claim : (k : ℕ) → position_or_len is_claim (switch_claims k) ≡ 0
unfolding link_numbers
first_claim k = refl

first_home : (k : ℕ) (ls : List ℕ) → position_or_len is_at_home (map (turn_of k) ls ++ switch_claims k) ≡ 0
unfolding link_numbers
first_home k [] = refl
first_home k (l ∷ ls) = refl

some_claim : (k : ℕ) → 0 < length (switch_claims k)
unfolding link_numbers
some_claim k = omega arith

-- four lists in turn, and how long they are
nested : (xs ys zs ws : List Event) → xs ++ ys ++ zs ++ ws ≡ xs ++ (ys ++ (zs ++ ws))
nested xs ys zs ws = search (arith, append_assoc)

pub size_of : (f : ℕ → Event) (ls : List ℕ) (rest : List Event) → length (map f ls ++ rest) ≡ length ls + length rest
size_of f [] rest = omega arith
size_of f (l ∷ ls) rest = omega (arith, size_of f ls rest)

-- the part of a switch
pub record IsSwitchPart (p : PartView) : Type 0 where
  pub events : p.events ≡ switch_list p.node (links_in p.wired)
  pub turns : p.turns ≡ length (links_in p.wired) + length (links_in p.wired)
  pub claims : p.claims ≡ length (links_in p.wired) + length (links_in p.wired) + length (links_in p.wired)
  pub few : length (links_in p.wired) ≤ 32
  pub more : p.claims < length p.events

-- that of a terminal
pub record IsTerminalPart (p : PartView) : Type 0 where
  pub number : ℕ
  pub wired : Bool
  pub events : p.events ≡ terminal_list number wired
  pub turns : p.turns ≡ (if wired then 2 else 0)
  pub claims : p.claims ≡ (if wired then 3 else 1)
  pub all : p.claims ≡ length p.events

module _ (p : PartView) (some : IsSomePart p) where
  abbrev switches : ℕ
  switches = length some.plan.switches

  abbrev terminals : ℕ
  terminals = length some.plan.terminals

  abbrev links : List ℕ
  links = links_in p.wired

  abbrev t : ℕ
  t = p.node - switches

  abbrev one_port : List Port
  one_port = filter (is_wired some.plan) (Port.Terminal t ∷ [])

  events_are : p.events ≡ events_of some.plan p.node (node_ports some.plan p.node)
  events_are = some.is.events ∙ round_part_is some.plan p.node

  wired_as : nat_lt p.node switches ≡ true → (l : ℕ) → l < 32 → is_wired some.plan (Port.Switch p.node l) ≡ has_bit p.wired l
  wired_as is l below =
      let low : nat_lt l 32 ≡ true = grind (arith, nat_tests, below) in
      sym (ap (λ (b : Bool). b && has_bit p.wired l) (sym low) ∙ some.is.wired l
      ∙ ap (λ (b : Bool). if b then is_wired some.plan (Port.Switch p.node l) else is_linked_other l) is)
    where
      is_linked_other : ℕ → Bool
      is_linked_other l = Rattle.std.specs.Prelude.nat_eq l 0 && is_wired some.plan (Port.Terminal t)

  ports_are : nat_lt p.node switches ≡ true → node_ports some.plan p.node ≡ map (Port.Switch p.node) links
  ports_are is =
      ap (λ (b : Bool). if b then wired_links some.plan p.node else (if nat_lt t terminals then one_port else [])) is
      ∙ filter_made (is_wired some.plan) (Port.Switch p.node) link_numbers
      ∙ ap (map (Port.Switch p.node)) (filter_links (λ l. is_wired some.plan (Port.Switch p.node l)) (has_bit p.wired) (wired_as is))

  own_are : nat_lt p.node switches ≡ true → own_events some.plan p.node ≡ switch_claims p.node
  own_are is = ap (λ (b : Bool). if b then switch_claims p.node else (if nat_lt t terminals then Event.Drain t ∷ [] else [])) is

  switch_events : nat_lt p.node switches ≡ true → p.events ≡ switch_list p.node links
  switch_events is =
      events_are
      ∙ ap (λ (ports : List Port). flat_map (port_events Credit) ports ++ flat_map (port_events Cross) ports ++ flat_map (port_events Turn) ports ++ own_events some.plan p.node) (ports_are is)
      ∙ ap (λ (es : List Event). es ++ flat_map (port_events Cross) (map (Port.Switch p.node) links) ++ flat_map (port_events Turn) (map (Port.Switch p.node) links) ++ own_events some.plan p.node) (credits_are p.node links)
      ∙ ap (λ (es : List Event). map (credit_at p.node) links ++ es ++ flat_map (port_events Turn) (map (Port.Switch p.node) links) ++ own_events some.plan p.node) (crosses_are p.node links)
      ∙ ap (λ (es : List Event). map (credit_at p.node) links ++ map (cross_at p.node) links ++ es ++ own_events some.plan p.node) (turns_are p.node links)
      ∙ ap (λ (es : List Event). map (credit_at p.node) links ++ map (cross_at p.node) links ++ map (turn_of p.node) links ++ es) (own_are is)
      ∙ nested (map (credit_at p.node) links) (map (cross_at p.node) links) (map (turn_of p.node) links) (switch_claims p.node)

  pub of_switch : nat_lt p.node switches ≡ true → IsSwitchPart p
  of_switch is =
      let events = switch_events is in
      let home = ap (position_or_len is_at_home) events ∙ behind is_at_home (credit_at p.node) (λ l. refl) links (map (cross_at p.node) links ++ (map (turn_of p.node) links ++ switch_claims p.node)) in
      let home_next = behind is_at_home (cross_at p.node) (λ l. refl) links (map (turn_of p.node) links ++ switch_claims p.node) in
      let home_last = first_home p.node links in
      let claim = ap (position_or_len is_claim) events ∙ behind is_claim (credit_at p.node) (λ l. refl) links (map (cross_at p.node) links ++ (map (turn_of p.node) links ++ switch_claims p.node)) in
      let claim_next = behind is_claim (cross_at p.node) (λ l. refl) links (map (turn_of p.node) links ++ switch_claims p.node) in
      let claim_last = behind is_claim (turn_of p.node) (λ l. refl) links (switch_claims p.node) in
      let claim_end = first_claim p.node in
      let turns : p.turns ≡ length links + length links = omega (arith, some.is.turns, home, home_next, home_last) in
      let claims : p.claims ≡ length links + length links + length links = omega (arith, some.is.claims, claim, claim_next, claim_last, claim_end) in
      let size = ap length events ∙ size_of (credit_at p.node) links (map (cross_at p.node) links ++ (map (turn_of p.node) links ++ switch_claims p.node)) in
      let size_next = size_of (cross_at p.node) links (map (turn_of p.node) links ++ switch_claims p.node) in
      let size_last = size_of (turn_of p.node) links (switch_claims p.node) in
      let few : length links ≤ 32 = few_links in
      let more : p.claims < length p.events = omega (arith, claims, size, size_next, size_last, some_claim p.node) in
      record { events = events; turns = turns; claims = claims; few = few; more = more }
    where
      few_links : length links ≤ 32
      few_links = Rattle.std.proofs.Common.subst (λ (ns : List ℕ). length (filter (has_bit p.wired) ns) ≤ 32) (links_passed 32 refl) (filter_length (has_bit p.wired) 0 32)

  here : nat_lt p.node switches ≡ false → nat_lt t terminals ≡ true
  here past = let inside = some.inside in grind (arith, nat_tests, past, inside)

  one_list : (b : Bool) (ports : List Port) → ports ≡ (if b then Port.Terminal t ∷ [] else []) → flat_map (port_events Credit) ports ++ flat_map (port_events Cross) ports ++ flat_map (port_events Turn) ports ++ Event.Drain t ∷ [] ≡ terminal_list t b
  one_list true ports is = ap (λ (ps : List Port). flat_map (port_events Credit) ps ++ flat_map (port_events Cross) ps ++ flat_map (port_events Turn) ps ++ Event.Drain t ∷ []) is
  one_list false ports is = ap (λ (ps : List Port). flat_map (port_events Credit) ps ++ flat_map (port_events Cross) ps ++ flat_map (port_events Turn) ps ++ Event.Drain t ∷ []) is

  terminal_events : nat_lt p.node switches ≡ false → p.events ≡ terminal_list t (is_wired some.plan (Port.Terminal t))
  terminal_events past =
      let ports : node_ports some.plan p.node ≡ one_port =
      ap (λ (b : Bool). if b then wired_links some.plan p.node else (if nat_lt t terminals then one_port else [])) past ∙ ap (λ (b : Bool). if b then one_port else []) (here past) in
      let own : own_events some.plan p.node ≡ Event.Drain t ∷ [] =
      ap (λ (b : Bool). if b then switch_claims p.node else (if nat_lt t terminals then Event.Drain t ∷ [] else [])) past ∙ ap (λ (b : Bool). if b then Event.Drain t ∷ [] else []) (here past) in
      events_are
      ∙ ap (λ (es : List Event). flat_map (port_events Credit) (node_ports some.plan p.node) ++ flat_map (port_events Cross) (node_ports some.plan p.node) ++ flat_map (port_events Turn) (node_ports some.plan p.node) ++ es) own
      ∙ one_list (is_wired some.plan (Port.Terminal t)) (node_ports some.plan p.node) ports

  pub of_terminal : nat_lt p.node switches ≡ false → IsTerminalPart p
  of_terminal past = by_wire (is_wired some.plan (Port.Terminal t)) (terminal_events past)
    where
      by_wire : (b : Bool) → p.events ≡ terminal_list t b → IsTerminalPart p
      by_wire true is = record { number = t; wired = true; events = is; turns = some.is.turns ∙ ap (position_or_len is_at_home) is; claims = some.is.claims ∙ ap (position_or_len is_claim) is; all = some.is.claims ∙ ap (position_or_len is_claim) is ∙ sym (ap length is) }
      by_wire false is = record { number = t; wired = false; events = is; turns = some.is.turns ∙ ap (position_or_len is_at_home) is; claims = some.is.claims ∙ ap (position_or_len is_claim) is; all = some.is.claims ∙ ap (position_or_len is_claim) is ∙ sym (ap length is) }

  -- by how many claims there are
  pub switch_part : p.claims < length p.events → IsSwitchPart p
  switch_part more = by_kind (nat_lt p.node switches) refl
    where
      by_kind : (b : Bool) → nat_lt p.node switches ≡ b → IsSwitchPart p
      by_kind true is = of_switch is
      by_kind false past = let all = (of_terminal past).all in absurd (omega (arith, all, more))

  pub terminal_part : p.claims ≡ length p.events → IsTerminalPart p
  terminal_part all = by_kind (nat_lt p.node switches) refl
    where
      by_kind : (b : Bool) → nat_lt p.node switches ≡ b → IsTerminalPart p
      by_kind true is = let more = (of_switch is).more in absurd (omega (arith, all, more))
      by_kind false past = of_terminal past

  -- there are few events before the claims
  pub few_turns : p.turns ≤ 64
  few_turns = by_kind (nat_lt p.node switches) refl
    where
      by_kind : (b : Bool) → nat_lt p.node switches ≡ b → p.turns ≤ 64
      by_kind true is = let few = (of_switch is).few in let turns = (of_switch is).turns in omega (arith, few, turns)
      by_kind false past = by_wire (of_terminal past).wired (of_terminal past).turns
        where
          by_wire : (b : Bool) → p.turns ≡ (if b then 2 else 0) → p.turns ≤ 64
          by_wire true is = omega (arith, is)
          by_wire false is = omega (arith, is)

  pub few_before : p.claims ≤ 96
  few_before = by_kind (nat_lt p.node switches) refl
    where
      by_kind : (b : Bool) → nat_lt p.node switches ≡ b → p.claims ≤ 96
      by_kind true is = let few = (of_switch is).few in let claims = (of_switch is).claims in omega (arith, few, claims)
      by_kind false past = by_wire (of_terminal past).wired (of_terminal past).claims
        where
          by_wire : (b : Bool) → p.claims ≡ (if b then 3 else 1) → p.claims ≤ 96
          by_wire true is = omega (arith, is)
          by_wire false is = omega (arith, is)
