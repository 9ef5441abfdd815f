-- The starts of terminals, one after another, and what is told of them.
use Rattle.c104_check.proofs.{HomeLemmas.wired_entry, PortalLemmas.{IsIn, add_in, add_longer, add_split, in_here, in_right, met_is_portal}}
use Rattle.c104_check.proofs.{PortalLemmas.portal_is_met, RefusalLemmas.entry_same, RouteLemmas.portal_input, ShownLemmas.random_short}
use Rattle.c104_check.{proofs.{ShownLemmas.shown_short, TrailLemmas.{All-found, All-map, All-snoc}}, specs.Breaks.IsWired}
use Rattle.c104_check.specs.{Checks.{IsFirstRefused, IsRefusedAt}, Portals.portals_met, Refusals.{AllLand, AreInputs, IsFirstIn, IsSpared}}
use Rattle.c104_check.specs.{Refusals.{LandsAt, Refusal, Start}, Routes.{EntryLands, IsEntryOf, IsPortal, IsRandomAt, IsRandomized, Lands}}
use Rattle.c104_check.specs.Routes.{LandsBehind, PortalLands, Routes, SwitchPort, TerminalLands, header_count, link_settings, owner}
use Rattle.c104_check.specs.{Routes.to_port, Starts.{AllHome, AreStarts, CoverPortals, CoverTerminals, IsFirstRandom, IsFirstRandomAt}}
use Rattle.c104_check.specs.{Starts.{IsNext, add_all, start_behind}, Trails.{IsInput, IsNetwork, Reaches}, Walks.is_met}
use Rattle.{c104_plan.specs.declared.ports.Port.Port, c104_regs.specs.declared.settings.Settings.Settings, std.proofs.Common.List}
use Rattle.std.proofs.Common.{MatchOption, None, Option, Some, [], ap, arith, false, inl, inr, is_some, length, refl, slice_get, subst, suc}
use Rattle.std.proofs.{Common.{sym, take, true, zero, ℕ, ◌++◌, ◌+◌, ◌<◌, ◌∙◌, ◌∷◌, ◌≡◌, ◌≤◌, ◌⊎◌}, lemmas.Bool.cases_lt}
use Rattle.std.proofs.lemmas.{List.{length-append, take-append-le, take_all, take_more}, Option.{get_or_from_slice_get, slice_get_past}}
use Rattle.std.{proofs.lemmas.Option.slice_get_within, specs.List.AllByRecursion}

-- Lists that grow

pub get_front : {X : Type 0} (xs : List X) (y : X) (k : ℕ) (x : X) → slice_get xs k ≡ Some x → slice_get (xs ++ y ∷ []) k ≡ Some x
get_front [] y k x at = absurd (let past = slice_get_past [] k (omega arith) in let clash : None ≡ Some x = sym past ∙ at in cc)
get_front (z ∷ xs) y zero x at = at
get_front (z ∷ xs) y (suc k) x at = get_front xs y k x at

pub get_last : {X : Type 0} (xs : List X) (y : X) → slice_get (xs ++ y ∷ []) (length xs) ≡ Some y
get_last [] y = refl
get_last (z ∷ xs) y = get_last xs y

pub get_back : {X : Type 0} (xs : List X) (y : X) (k : ℕ) (x : X) → slice_get (xs ++ y ∷ []) k ≡ Some x → ((k < length xs) × (slice_get xs k ≡ Some x)) ⊎ ((k ≡ length xs) × (y ≡ x))
get_back [] y zero x at = inr (refl, (cc))
get_back [] y (suc k) x at = absurd (let past = slice_get_past [] k (omega arith) in let clash : None ≡ Some x = sym past ∙ at in cc)
get_back (z ∷ xs) y zero x at = inl (omega arith, at)
get_back (z ∷ xs) y (suc k) x at = search (arith, get_back xs y k x at)

land_front : (routes : Routes) (starts : List Start) (start : Start) → AllLand routes (starts ++ start ∷ []) → AllLand routes starts
land_front routes starts start all h below k x inside at = search (arith, length-append, get_front)

land_last : (routes : Routes) (starts : List Start) (start : Start) → AllLand routes (starts ++ start ∷ []) → (h : ℕ) → h < header_count routes → LandsAt routes h start
land_last routes starts start all h below =
    let grown = length-append starts (start ∷ []) in
    all h below (length starts) start (omega (arith, grown)) (get_last starts start)

-- what holds of each member and of those before it
pub each_more : {X : Type 0} (P : List X → X → Type 0) (xs : List X) (y : X) → ((k : ℕ) (x : X) → slice_get xs k ≡ Some x → P (take k xs) x) → P xs y → (k : ℕ) (x : X) → slice_get (xs ++ y ∷ []) k ≡ Some x → P (take k (xs ++ y ∷ [])) x
each_more P xs y each last k x at = search (arith, get_back, take-append-le, take_all)

pub starts_more : (routes : Routes) (starts : List Start) (start : Start) → AreStarts routes starts → IsNext routes starts start → AreStarts routes (starts ++ start ∷ [])
starts_more routes starts start are next = each_more (IsNext routes) starts start are next

-- At a terminal where no random headers are put before packets

pub no_behind : (routes : Routes) (h : ℕ) (start : Start) → start.behind ≡ false → IsSpared routes h start → ⊥
no_behind routes h start front spared = let clash : true ≡ false = sym spared.1 ∙ front in cc

pub lands_own : (routes : Routes) (h : ℕ) (start : Start) → start.behind ≡ false → LandsAt routes h start → Lands routes h start.at (owner routes h)
lands_own routes h start front lands = search (arith, no_behind)

pub random_is_randomized : (routes : Routes) (p : SwitchPort) (r : ℕ) → IsRandomAt routes p r → IsRandomized routes p
random_is_randomized routes p r (x, set, (random, is)) = (x, set, random)

module _ (routes : Routes) (net : IsNetwork routes) (starts : List Start) (t : ℕ) (p : SwitchPort) (wired : IsEntryOf routes t p) (here : IsInput (length routes.settings) p) (plain : IsRandomized routes p → ⊥) (are : AreStarts routes starts) (covers : CoverTerminals routes starts t) where
  abbrev own_start : Start
  own_start = record { terminal = t; at = p; behind = false }

  pub plain_starts : AreStarts routes (starts ++ own_start ∷ [])
  plain_starts = search (arith, starts_more, wired_entry)

  plain_entry : AllLand routes (starts ++ own_start ∷ []) → EntryLands routes p
  plain_entry all = record {
    own = λ not h below. lands_own routes h own_start refl (land_last routes starts own_start all h below);
    random = λ r random. absurd (plain (random_is_randomized routes p r random));
    portals = λ q portal. absurd (plain (random_is_randomized routes p portal.0 portal.2));
  }

  pub plain_covers : CoverTerminals routes (starts ++ own_start ∷ []) (t + 1)
  plain_covers all u below q there =
      elim (cases_lt u t) [
        | inl lower ↦ covers (land_front routes starts own_start all) u lower q there
        | inr past ↦ search (arith, entry_same, plain_entry)
      ]

pub portals_front : (routes : Routes) (starts : List Start) (start : Start) (portals : List SwitchPort) → CoverPortals routes starts portals → CoverPortals routes (starts ++ start ∷ []) portals
portals_front routes starts start portals covers all = covers (land_front routes starts start all)

-- At one where they are

lands_behind : (routes : Routes) (h t : ℕ) (q : SwitchPort) (o : Option ℕ) → owner routes h ≡ o → LandsAt routes h (start_behind t q) → LandsBehind routes h q o
lands_behind routes h t q o own lands = search arith

-- a portal is wired, since some wire leads to it
pub reached_wired : (routes : Routes) (r m : ℕ) (p q : SwitchPort) → IsNetwork routes → IsWired routes p → Reaches routes r m p q → IsWired routes q
reached_wired routes r zero p q net wired same = subst (IsWired routes) same wired
reached_wired routes r (suc m) p q net wired (z, reaches, (g, o, at, joined, there)) = (Port.Switch z.switch o, net.back (Port.Switch z.switch o) (to_port q) there)

pub portal_wired : (routes : Routes) (p q : SwitchPort) → IsNetwork routes → IsWired routes p → IsPortal routes p q → IsWired routes q
portal_wired routes p q net wired (r, m, random, reaches, discards) = reached_wired routes r m p q net wired reaches

add_front : (old portals xs : List SwitchPort) → portals ≡ add_all old xs → take (length old) portals ≡ old
add_front old portals xs is =
    let more = add_longer xs old in
    ap (take (length old)) (is ∙ more.1) ∙ take-append-le (length old) old more.0 (omega arith) ∙ take_all (length old) old (omega arith)

-- the first n portals have joined the starts
pub record AreBehind (routes : Routes) (t : ℕ) (starts : List Start) (portals : List SwitchPort) (n : ℕ) : Type 0 where
  pub are : AreStarts routes starts
  pub covers : CoverTerminals routes starts t
  pub cover_portals : CoverPortals routes starts (take n portals)

pub behind_next : (routes : Routes) (starts : List Start) (t : ℕ) (p q : SwitchPort) (old portals : List SwitchPort) (n : ℕ) → IsNetwork routes → IsEntryOf routes t p → AllHome routes p → portals ≡ add_all old (portals_met routes p) → length old ≤ n → slice_get portals n ≡ Some q → AreBehind routes t starts portals n → AreBehind routes t (starts ++ start_behind t q ∷ []) portals (n + 1)
behind_next routes starts t p q old portals n net wired homes is low at behind =
    let split = add_split (portals_met routes p) old n q low (ap (λ (ys : List SwitchPort). slice_get ys n) (sym is) ∙ at) in
    let portal = met_is_portal routes p q (subst (IsIn q) (sym split.is) (in_right q split.before (q ∷ split.after) (in_here q split.after))) in
    let inside = slice_get_within portals n q at in
    record {
      are = starts_more routes starts (start_behind t q) behind.are (record {
        entry = p;
        wired = wired;
        input = (portal_input routes p q net portal, portal_wired routes p q net wired_at portal);
        terminals = behind.covers;
        kind = inr (
          refl,
          record {
            homes = homes;
            is_portal = portal;
            met_before = split.before;
            met_after = split.after;
            in_order = split.is;
            land = λ all. All-map (λ x. IsIn x (take n (add_all old (portals_met routes p)))) (PortalLands routes) (λ x among. All-found (PortalLands routes) (take n portals) x (behind.cover_portals all) (ap (λ (ys : List SwitchPort). is_met x (take n ys)) is ∙ among)) split.before split.known;
          },
        );
      });
      covers = λ all. behind.covers (land_front routes starts (start_behind t q) all);
      cover_portals = λ all.
          let more : take (n + 1) portals ≡ take n portals ++ q ∷ [] = take_more portals n q inside ∙ ap (λ x. take n portals ++ x ∷ []) (get_or_from_slice_get portals n q q at) in
          subst (AllByRecursion (PortalLands routes)) (sym more) (All-snoc (PortalLands routes) (take n portals) q (behind.cover_portals (land_front routes starts (start_behind t q) all)) (λ h below. lands_behind routes h t q (owner routes h) refl (land_last routes starts (start_behind t q) all h below)));
    }
  where
    wired_at : IsWired routes p
    wired_at = wired_entry routes t p net wired

pub behind_first : (routes : Routes) (starts : List Start) (t : ℕ) (p : SwitchPort) (old portals : List SwitchPort) → portals ≡ add_all old (portals_met routes p) → AreStarts routes starts → CoverTerminals routes starts t → CoverPortals routes starts old → AreBehind routes t starts portals (length old)
behind_first routes starts t p old portals is are covers known = search (arith, add_front)

-- once all have joined
pub behind_all : (routes : Routes) (starts : List Start) (t : ℕ) (p : SwitchPort) (old portals : List SwitchPort) (n : ℕ) → IsNetwork routes → IsEntryOf routes t p → IsRandomized routes p → AllHome routes p → portals ≡ add_all old (portals_met routes p) → length portals ≤ n → AreBehind routes t starts portals n → CoverTerminals routes starts (t + 1) × CoverPortals routes starts portals
behind_all routes starts t p old portals n net wired randomized homes is past behind =
    let every : (AllLand routes starts → AllByRecursion (PortalLands routes) portals) = λ all. subst (AllByRecursion (PortalLands routes)) (take_all n portals past) (behind.cover_portals all) in (
      (λ all u below q there. elim (cases_lt u t) [
        | inl lower ↦ behind.covers all u lower q there
        | inr past ↦
            let same : u ≡ t = omega (arith, below, past) in
            subst (EntryLands routes) (entry_same routes t p q wired (subst (λ n. IsEntryOf routes n q) same there)) (record {
              own = λ not. absurd (not randomized);
              random = homes;
              portals = λ x portal. All-found (PortalLands routes) portals x (every all) (subst (λ (ys : List SwitchPort). IsIn x ys) (sym is) (All-found (λ y. IsIn y (add_all old (portals_met routes p))) (portals_met routes p) x (add_in (portals_met routes p) old) (portal_is_met routes p x net homes portal)));
            })
      ]),
      every,
    )

-- What is told

pub take_get : {X : Type 0} (xs : List X) (k j : ℕ) (x : X) → slice_get (take k xs) j ≡ Some x → (j < k) × (slice_get xs j ≡ Some x)
take_get xs zero j x at = absurd (let past = slice_get_past [] j (omega arith) in let clash : None ≡ Some x = sym past ∙ at in cc)
take_get [] (suc k) j x at = absurd (let past = slice_get_past [] j (omega arith) in let clash : None ≡ Some x = sym past ∙ at in cc)
take_get (y ∷ xs) (suc k) zero x at = (omega arith, at)
take_get (y ∷ xs) (suc k) (suc j) x at = let rest = take_get xs k j x at in let low = rest.0 in (omega (arith, low), rest.1)

pub lands_behind_at : (routes : Routes) (h : ℕ) (start : Start) (o : Option ℕ) → owner routes h ≡ o → LandsAt routes h start → LandsBehind routes h start.at o
lands_behind_at routes h start o own lands = search arith

lands_front : (routes : Routes) (starts : List Start) (k : ℕ) (start : Start) → slice_get starts k ≡ Some start → ((h : ℕ) → h < header_count routes → (j : ℕ) (x : Start) → j < k → slice_get starts j ≡ Some x → LandsAt routes h x) → AllLand routes (take k starts)
lands_front routes starts k start at before h below j x inside there = search (arith, take_get)

pub told_first : (routes : Routes) (starts : List Start) (refusal : Refusal) → IsNetwork routes → AreStarts routes starts → IsFirstIn routes starts refusal → IsFirstRefused routes refusal.why refusal.shown
told_first routes starts refusal net are first =
    let refused = first.refused in
    let start = refused.start in
    let next = are refusal.start start refused.at in
    let front : AllLand routes (take refusal.start starts) = lands_front routes starts refusal.start start refused.at first.before in
    record {
      entry = next.entry;
      wired = subst (λ n. IsEntryOf routes n next.entry) (sym refused.terminal) next.wired;
      below = first.below;
      short = shown_short routes refusal.shown.header start.at (owner routes refusal.shown.header) refusal.why refusal.shown.walk net next.input.0 refused.refused.shows;
      terminals_before = λ t low. next.terminals front t (subst (λ n. t < n) refused.terminal low);
      here = elim next.kind [
        | inl own ↦ inl (record {
          plain = own.2;
          before = λ g low. subst (λ (x : SwitchPort). Lands routes g x (owner routes g)) own.1 (lands_own routes g start own.0 (first.lower g low start refused.at));
          refused = subst (λ (x : SwitchPort). IsRefusedAt routes x refusal.why refusal.shown) own.1 refused.refused;
        })
        | inr behind ↦ inr (inr (record {
          homes = behind.1.homes;
          portal = start.at;
          is_portal = behind.1.is_portal;
          met_before = behind.1.met_before;
          met_after = behind.1.met_after;
          in_order = behind.1.in_order;
          portals_before = behind.1.land front;
          before = λ g low. lands_behind_at routes g start (owner routes g) refl (first.lower g low start refused.at);
          not_random = λ none random. refused.not_spared (none, behind.0, random);
          refused = refused.refused;
        }))
      ];
    }

pub told_random : (routes : Routes) (starts : List Start) (refusal : Refusal) → IsNetwork routes → AllLand routes starts → IsFirstRandom routes starts refusal → IsFirstRefused routes refusal.why refusal.shown
told_random routes starts refusal net all first = record {
  entry = first.entry;
  wired = first.wired;
  below = first.below;
  short = random_short routes refusal.shown.header first.entry refusal.why refusal.shown.walk net (net.inputs (Port.Terminal refusal.shown.entry) first.entry first.wired) first.refused.shows;
  terminals_before = first.covers all;
  here = inr (inl first.refused);
}

pub none_told : (routes : Routes) (starts : List Start) → IsNetwork routes → AllLand routes starts → CoverTerminals routes starts (length routes.ranges) → (t : ℕ) → TerminalLands routes t
none_told routes starts net all covers t p wired = covers all t (net.terminals t p wired) p wired

pub told_last : (routes : Routes) (starts : List Start) (found : Option Refusal) → IsNetwork routes → AllLand routes starts → MatchOption found (CoverTerminals routes starts (length routes.ranges)) (IsFirstRandom routes starts) → MatchOption found ((t : ℕ) → TerminalLands routes t) (λ refusal. IsFirstRefused routes refusal.why refusal.shown)
told_last routes starts found net all is = search (arith, none_told, told_random)

pub starts_inputs : (routes : Routes) (starts : List Start) → AreStarts routes starts → AreInputs routes starts
starts_inputs routes starts are k start at = (are k start at).input

pub first_random_of : (routes : Routes) (starts : List Start) (t : ℕ) (p : SwitchPort) (found : Option Refusal) → is_some found ≡ true → IsEntryOf routes t p → CoverTerminals routes starts t → MatchOption found (AllHome routes p) (IsFirstRandomAt routes t p) → (P : Type 0) → MatchOption found P (IsFirstRandom routes starts)
first_random_of routes starts t p found some wired covers is P = search arith

some_same : (x y : Settings) → Some x ≡ Some y → x ≡ y
some_same x y is = cc

pub plain_of : (routes : Routes) (p : SwitchPort) (x : Settings) → link_settings routes.settings p ≡ Some x → x.randomize ≡ false → IsRandomized routes p → ⊥
plain_of routes p x set plain random = search (arith, some_same)

pub covers_all : (routes : Routes) (starts : List Start) (n : ℕ) → length routes.ranges ≤ n → CoverTerminals routes starts n → CoverTerminals routes starts (length routes.ranges)
covers_all routes starts n past covers all t below = covers all t (omega (arith, below, past))

-- at an entry where no random headers are put before packets, it is enough that own ones come where they should
pub plain_lands : (routes : Routes) (p : SwitchPort) → (IsRandomized routes p → ⊥) → ((h : ℕ) → h < header_count routes → Lands routes h p (owner routes h)) → EntryLands routes p
plain_lands routes p plain lands = search (arith, random_is_randomized)
