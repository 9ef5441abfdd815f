-- The portals that a random header meets.
use Rattle.c104_check.proofs.{BreakLemmas.select_alike, GoalLemmas.{leaves_comes, on_comes}, RandomLemmas.{random_at_tells, random_at_told}}
use Rattle.c104_check.proofs.{RandomLemmas.random_header, RouteLemmas.{IsAmong, among_leaves, group_among, group_peers}, RunLemmas.between}
use Rattle.c104_check.proofs.{RunLemmas.run_is, TrailLemmas.{All-map, is_port-true}, Walked.{is_port-refl, place-same}}
use Rattle.c104_check.specs.{Breaks.{IsBreak, IsWired}, Portals.{is_random_at, met_at, met_behind, met_below, met_from, met_if}}
use Rattle.c104_check.specs.{Portals.portals_met, Reach.{IsSelected, with_input}, Routes.{Homes, IsPortal, IsRandomAt, Roams, Routes}}
use Rattle.c104_check.specs.{Routes.{SwitchPort, header_count, is_in_group, most_hops, place, select, to_port}, Shown.{Follows, MayLeave}}
use Rattle.c104_check.specs.{Starts.{AreWalked, LeadsToInput, add_all}, Trails.{IsInput, IsNetwork, Reaches, run_peers}, Walks.is_met}
use Rattle.c104_check.specs.{Walks.{is_port, peers_that, port_of}, declared.walks.Goal.TheVariants.Portal}
use Rattle.{c104_crossbar.specs.declared.group.Group.Group, c104_interval.specs.declared.intervals.Select.{Select, TheVariants.Discard}}
use Rattle.{c104_interval.specs.declared.intervals.Select.TheVariants.{Link, Sink}, c104_plan.specs.declared.ports.Port.Port}
use Rattle.{c104_token.specs.declared.faults.NoMemory.NoMemory, std.proofs.Common.{Bool, Err, List, None, Ok, OnOk, Option, Result, Some}}
use Rattle.std.proofs.Common.{[], ap, append_assoc, arith, false, if◌then◌else◌, inl, inr, length, refl, slice_get, slice_index_or}
use Rattle.std.proofs.Common.{slice_set, subst, suc, sym, take, true, zero, ℕ, ◌++◌, ◌+◌, ◌-◌, ◌<◌, ◌∙◌, ◌∷◌, ◌≡◌, ◌≤◌, ◌⊎◌}
use Rattle.std.proofs.{Math.Seq.take-append-add, lemmas.Bool.{cases_Bool, cases_eq, le-leb, or_cases, or_left, or_right}}
use Rattle.std.proofs.lemmas.{List.{Folds.list_any-append, append-nil, get_or-set_other, length-append}, Option.same_Some}
use Rattle.std.{proofs.lemmas.Option.slice_get_within, specs.List.AllByRecursion}

abbrev pub IsIn : SwitchPort → List SwitchPort → Type 0
IsIn q xs = is_met q xs ≡ true

pub in_left : (q : SwitchPort) (xs ys : List SwitchPort) → IsIn q xs → IsIn q (xs ++ ys)
in_left q xs ys is = list_any-append (is_port q) xs ys ∙ or_left (is_met q xs) (is_met q ys) is

pub in_right : (q : SwitchPort) (xs ys : List SwitchPort) → IsIn q ys → IsIn q (xs ++ ys)
in_right q xs ys is = list_any-append (is_port q) xs ys ∙ or_right (is_met q xs) (is_met q ys) is

pub in_here : (q : SwitchPort) (xs : List SwitchPort) → IsIn q (q ∷ xs)
in_here q xs = or_left (is_port q q) (is_met q xs) (is_port-refl q)

-- Inputs that join others

with_kept_by : (b : Bool) (inputs : List SwitchPort) (p x : SwitchPort) → IsIn x inputs → IsIn x (if b then inputs else inputs ++ p ∷ [])
with_kept_by b inputs p x is = search (arith, in_left)

pub with_kept : (inputs : List SwitchPort) (p x : SwitchPort) → IsIn x inputs → IsIn x (with_input inputs p)
with_kept inputs p x is = with_kept_by (is_met p inputs) inputs p x is

with_in_by : (b : Bool) (inputs : List SwitchPort) (p : SwitchPort) → is_met p inputs ≡ b → IsIn p (if b then inputs else inputs ++ p ∷ [])
with_in_by b inputs p is = search (arith, in_right, in_here)

pub with_in : (inputs : List SwitchPort) (p : SwitchPort) → IsIn p (with_input inputs p)
with_in inputs p = with_in_by (is_met p inputs) inputs p refl

pub with_known : (inputs : List SwitchPort) (p : SwitchPort) → IsIn p inputs → with_input inputs p ≡ inputs
with_known inputs p is = rw is refl

pub with_new : (inputs : List SwitchPort) (p : SwitchPort) → is_met p inputs ≡ false → with_input inputs p ≡ inputs ++ p ∷ []
with_new inputs p is = rw is refl

pub add_kept : (xs inputs : List SwitchPort) (x : SwitchPort) → IsIn x inputs → IsIn x (add_all inputs xs)
add_kept [] inputs x is = is
add_kept (y ∷ xs) inputs x is = add_kept xs (with_input inputs y) x (with_kept inputs y x is)

pub add_in : (xs inputs : List SwitchPort) → AllByRecursion (λ x. IsIn x (add_all inputs xs)) xs
add_in [] inputs = tt
add_in (y ∷ xs) inputs = (add_kept xs (with_input inputs y) y (with_in inputs y), add_in xs (with_input inputs y))

pub add_append : (xs ys inputs : List SwitchPort) → add_all inputs (xs ++ ys) ≡ add_all (add_all inputs xs) ys
add_append [] ys inputs = refl
add_append (x ∷ xs) ys inputs = add_append xs ys (with_input inputs x)

pub add_known : (xs inputs : List SwitchPort) → AllByRecursion (λ x. IsIn x inputs) xs → add_all inputs xs ≡ inputs
add_known [] inputs all = refl
add_known (x ∷ xs) inputs (here, all) = ap (λ (ys : List SwitchPort). add_all ys xs) (with_known inputs x here) ∙ add_known xs inputs all

pub add_longer : (xs inputs : List SwitchPort) → (more : List SwitchPort) × (add_all inputs xs ≡ inputs ++ more)
add_longer [] inputs = ([], sym (append-nil inputs))
add_longer (x ∷ xs) inputs =
    elim (cases_Bool (is_met x inputs)) [
      | inl known ↦ let rest = add_longer xs inputs in (rest.0, ap (λ (ys : List SwitchPort). add_all ys xs) (with_known inputs x known) ∙ rest.1)
      | inr new ↦ let rest = add_longer xs (inputs ++ x ∷ []) in (x ∷ rest.0, ap (λ (ys : List SwitchPort). add_all ys xs) (with_new inputs x new) ∙ rest.1 ∙ append_assoc inputs (x ∷ []) rest.0)
    ]

prefix_in : (x : SwitchPort) (inputs whole : List SwitchPort) (i : ℕ) → length inputs ≤ i → (more : List SwitchPort) × (whole ≡ inputs ++ more) → IsIn x inputs → IsIn x (take i whole)
prefix_in x inputs whole i low (more, is) here =
    let at : i ≡ length inputs + (i - length inputs) = omega (arith, low) in
    let cut : take i whole ≡ inputs ++ take (i - length inputs) more = ap (take i) is ∙ ap (λ n. take n (inputs ++ more)) at ∙ take-append-add inputs more (i - length inputs) in
    subst (IsIn x) (sym cut) (in_left x inputs (take (i - length inputs) more) here)

-- q joined at place i: what stands before it joined before
pub record IsSplit (xs whole : List SwitchPort) (i : ℕ) (q : SwitchPort) : Type 0 where
  pub before : List SwitchPort
  pub after : List SwitchPort
  pub is : xs ≡ before ++ (q ∷ after)
  pub known : AllByRecursion (λ x. IsIn x (take i whole)) before

at_seam : (inputs more : List SwitchPort) (x : SwitchPort) → slice_get (inputs ++ x ∷ more) (length inputs) ≡ Some x
at_seam [] more x = refl
at_seam (y ∷ inputs) more x = at_seam inputs more x

split_more : (x q : SwitchPort) (xs whole : List SwitchPort) (i : ℕ) → IsIn x (take i whole) → IsSplit xs whole i q → IsSplit (x ∷ xs) whole i q
split_more x q xs whole i here rest = record { before = x ∷ rest.before; after = rest.after; is = ap (λ ys. x ∷ ys) rest.is; known = (here, rest.known) }

pub add_split : (xs inputs : List SwitchPort) (i : ℕ) (q : SwitchPort) → length inputs ≤ i → slice_get (add_all inputs xs) i ≡ Some q → IsSplit xs (add_all inputs xs) i q
add_split [] inputs i q low at = let inside = slice_get_within inputs i q at in absurd (omega (arith, low, inside))
add_split (x ∷ xs) inputs i q low at =
    elim (cases_Bool (is_met x inputs)) [
      | inl known ↦
          let same : add_all inputs (x ∷ xs) ≡ add_all inputs xs = ap (λ (ys : List SwitchPort). add_all ys xs) (with_known inputs x known) in
          subst (λ whole. IsSplit (x ∷ xs) whole i q) (sym same)
          (split_more x q xs (add_all inputs xs) i (prefix_in x inputs (add_all inputs xs) i low (add_longer xs inputs) known)
          (add_split xs inputs i q low (ap (λ (ys : List SwitchPort). slice_get ys i) (sym same) ∙ at)))
      | inr new ↦
          let same : add_all inputs (x ∷ xs) ≡ add_all (inputs ++ x ∷ []) xs = ap (λ (ys : List SwitchPort). add_all ys xs) (with_new inputs x new) in
          let there = ap (λ (ys : List SwitchPort). slice_get ys i) (sym same) ∙ at in
          let grown : length (inputs ++ x ∷ []) ≡ length inputs + 1 = length-append inputs (x ∷ []) in
          subst (λ whole. IsSplit (x ∷ xs) whole i q) (sym same)
          (elim (cases_eq i (length inputs)) [
            | inl first ↦
                let rest = add_longer xs (inputs ++ x ∷ []) in
                let here : slice_get (add_all (inputs ++ x ∷ []) xs) i ≡ Some x = ap (slice_get (add_all (inputs ++ x ∷ []) xs)) first ∙ ap (λ (ys : List SwitchPort). slice_get ys (length inputs)) (rest.1 ∙ append_assoc inputs (x ∷ []) rest.0) ∙ at_seam inputs rest.0 x in
                record { before = []; after = xs; is = ap (λ y. y ∷ xs) (same_Some x q (sym here ∙ there)); known = tt }
            | inr later ↦
                let far : length (inputs ++ x ∷ []) ≤ i = omega (arith, low, later, grown) in
                split_more x q xs (add_all (inputs ++ x ∷ []) xs) i (prefix_in x (inputs ++ x ∷ []) (add_all (inputs ++ x ∷ []) xs) i far (add_longer xs (inputs ++ x ∷ [])) (in_right x inputs (x ∷ []) (in_here x [])))
                (add_split xs (inputs ++ x ∷ []) i q far there)
          ])
    ]

-- What is met does not hang on how many switches may be crossed

behind_same : (f g : SwitchPort → List SwitchPort) (es : List (Option Port)) → ((s i : ℕ) → IsAmong (Some (Port.Switch s i)) es → f (port_of s i) ≡ g (port_of s i)) → met_behind f es ≡ met_behind g es
behind_same f g [] each = refl
behind_same f g (None ∷ es) each = behind_same f g es (λ s i is. each s i (inr is))
behind_same f g (Some (Port.Terminal u) ∷ es) each = behind_same f g es (λ s i is. each s i (inr is))
behind_same f g (Some (Port.Switch s i) ∷ es) each = rw (each s i (inl refl)) (ap (λ ys. g (port_of s i) ++ ys) (behind_same f g es (λ t j is. each t j (inr is))))

at_same : (routes : Routes) (f g : SwitchPort → List SwitchPort) (p : SwitchPort) (o : Option Select) → ((link s i : ℕ) → o ≡ Some (Link link) → IsAmong (Some (Port.Switch s i)) (group_peers routes p.switch link) → f (port_of s i) ≡ g (port_of s i)) → met_at routes f p o ≡ met_at routes g p o
at_same routes f g p o each = search (arith, behind_same)

homes_on : (routes : Routes) (r k s i link : ℕ) (p : SwitchPort) → select routes p.switch p.link r ≡ Some (Link link) → IsAmong (Some (Port.Switch s i)) (group_peers routes p.switch link) → Homes routes r (suc k) p.switch p.link → Homes routes r k s i
homes_on routes r k s i link p at among homes =
    on_comes (Homes routes r k) Portal s i (leaves_comes routes r Portal k p (Some (Port.Switch s i)) (among_leaves routes r link p (Some (Port.Switch s i)) at among) homes)

pub met_same : (routes : Routes) (r k j : ℕ) (p : SwitchPort) → Homes routes r k p.switch p.link → Homes routes r j p.switch p.link → met_from routes r k p ≡ met_from routes r j p
met_same routes r zero j p one two = absurd one
met_same routes r (suc k) zero p one two = absurd two
met_same routes r (suc k) (suc j) p one two =
    at_same routes (met_from routes r k) (met_from routes r j) p (select routes p.switch p.link r)
    (λ link s i at among. met_same routes r k j (port_of s i) (homes_on routes r k s i link p at among one) (homes_on routes r j s i link p at among two))

-- nor on the header, where that is no break
pub met_alike : (routes : Routes) (g : ℕ) → IsNetwork routes → (IsBreak routes (suc g) → ⊥) → (k : ℕ) (p : SwitchPort) → IsWired routes p → met_from routes (suc g) k p ≡ met_from routes g k p
met_alike routes g net quiet zero p wired = refl
met_alike routes g net quiet (suc k) p wired =
    rw (select_alike routes g p quiet wired)
    (at_same routes (met_from routes (suc g) k) (met_from routes g k) p (select routes p.switch p.link g)
    (λ link s i at among.
    let leaves = among_leaves routes g link p (Some (Port.Switch s i)) at among in
    met_alike routes g net quiet k (port_of s i) (Port.Switch p.switch leaves.1, net.back (Port.Switch p.switch leaves.1) (Port.Switch s i) leaves.4)))

-- What is met is a portal

reaches_first : (routes : Routes) (r m : ℕ) (p z q : SwitchPort) → Follows routes r p z → Reaches routes r m z q → Reaches routes r (suc m) p q
reaches_first routes r zero p z q follows same = (p, refl, subst (Follows routes r p) same follows)
reaches_first routes r (suc m) p z q follows (y, reaches, last) = (y, reaches_first routes r m p z y follows reaches, last)

abbrev pub IsReachedPortal : Routes → ℕ → SwitchPort → SwitchPort → Type 0
IsReachedPortal routes r p q = (m : ℕ) × Reaches routes r m p q × (select routes q.switch q.link r ≡ Some Discard)

behind_portal : (routes : Routes) (r : ℕ) (p q : SwitchPort) (f : SwitchPort → List SwitchPort) (es : List (Option Port)) → ((s i : ℕ) → IsAmong (Some (Port.Switch s i)) es → IsIn q (f (port_of s i)) → IsReachedPortal routes r p q) → IsIn q (met_behind f es) → IsReachedPortal routes r p q
behind_portal routes r p q f [] each is = absurd cc
behind_portal routes r p q f (None ∷ es) each is = behind_portal routes r p q f es (λ s i among. each s i (inr among)) is
behind_portal routes r p q f (Some (Port.Terminal u) ∷ es) each is = behind_portal routes r p q f es (λ s i among. each s i (inr among)) is
behind_portal routes r p q f (Some (Port.Switch s i) ∷ es) each is =
    elim (or_cases _ _ (sym (list_any-append (is_port q) (f (port_of s i)) (met_behind f es)) ∙ is)) [
      | inl here ↦ each s i (inl refl) here
      | inr later ↦ behind_portal routes r p q f es (λ t j among. each t j (inr among)) later
    ]

at_portal : (routes : Routes) (r : ℕ) (p q : SwitchPort) (f : SwitchPort → List SwitchPort) (o : Option Select) → select routes p.switch p.link r ≡ o → ((z : SwitchPort) → Follows routes r p z → IsIn q (f z) → IsReachedPortal routes r p q) → IsIn q (met_at routes f p o) → IsReachedPortal routes r p q
at_portal routes r p q f None at each is = absurd cc
at_portal routes r p q f (Some Sink) at each is = absurd cc
at_portal routes r p q f (Some Discard) at each is = search (arith, or_cases, is_port-true)
at_portal routes r p q f (Some (Link link)) at each is = search (arith, behind_portal, among_leaves)

pub met_portal : (routes : Routes) (r k : ℕ) (p q : SwitchPort) → IsIn q (met_from routes r k p) → IsReachedPortal routes r p q
met_portal routes r zero p q is = absurd cc
met_portal routes r (suc k) p q is =
    at_portal routes r p q (met_from routes r k) (select routes p.switch p.link r) refl
    (λ z follows here. let on = met_portal routes r k z q here in (suc on.0, reaches_first routes r on.0 p z q follows on.1, on.2)) is

-- and each portal is met

behind_met : (q : SwitchPort) (f : SwitchPort → List SwitchPort) (s i : ℕ) (es : List (Option Port)) → IsAmong (Some (Port.Switch s i)) es → IsIn q (f (port_of s i)) → IsIn q (met_behind f es)
behind_met q f s i [] among is = absurd among
behind_met q f s i (None ∷ es) (inl same) is = absurd cc
behind_met q f s i (None ∷ es) (inr among) is = behind_met q f s i es among is
behind_met q f s i (Some (Port.Terminal u) ∷ es) (inl same) is = absurd cc
behind_met q f s i (Some (Port.Terminal u) ∷ es) (inr among) is = behind_met q f s i es among is
behind_met q f s i (Some (Port.Switch t j) ∷ es) (inl same) is = search (arith, in_left)
behind_met q f s i (Some (Port.Switch t j) ∷ es) (inr among) is = in_right q (f (port_of t j)) (met_behind f es) (behind_met q f s i es among is)

-- what is met from an input that follows
on_met : (routes : Routes) (r k : ℕ) (p z q : SwitchPort) → IsNetwork routes → Follows routes r p z → IsIn q (met_from routes r k z) → IsIn q (met_from routes r (suc k) p)
on_met routes r k p z q net (g, o, at, joined, there) is =
    rw at (behind_met q (met_from routes r k) z.switch z.link (group_peers routes p.switch g) (subst (λ e. IsAmong e (group_peers routes p.switch g)) there (group_among routes p.switch p.link r g o net at joined)) is)

-- what homes is over at least one switch
homes_more : (routes : Routes) (r k : ℕ) (p : SwitchPort) → Homes routes r k p.switch p.link → (j : ℕ) × (k ≡ suc j)
homes_more routes r k p homes = search arith

pub met_reached : (routes : Routes) (r k m : ℕ) (p z q : SwitchPort) → IsNetwork routes → Homes routes r k p.switch p.link → Reaches routes r m p z → (j : ℕ) × Homes routes r j z.switch z.link × (IsIn q (met_from routes r j z) → IsIn q (met_from routes r k p))
met_reached routes r k zero p z q net homes same = (k, subst (λ (x : SwitchPort). Homes routes r k x.switch x.link) same homes, λ is. subst (λ (x : SwitchPort). IsIn q (met_from routes r k x)) (sym same) is)
met_reached routes r k (suc m) p z q net homes (y, reaches, follows) =
    let before = met_reached routes r k m p y q net homes reaches in
    let more = homes_more routes r before.0 y before.1 in
    let there : Homes routes r (suc more.0) y.switch y.link = subst (λ n. Homes routes r n y.switch y.link) more.1 before.1 in
    (more.0, on_comes (Homes routes r more.0) Portal z.switch z.link (leaves_comes routes r Portal more.0 y (Some (Port.Switch z.switch z.link)) follows there), λ is. before.2 (subst (λ n. IsIn q (met_from routes r n y)) (sym more.1) (on_met routes r more.0 y z q net follows is)))

pub portal_met : (routes : Routes) (r k m : ℕ) (p q : SwitchPort) → IsNetwork routes → Homes routes r k p.switch p.link → Reaches routes r m p q → select routes q.switch q.link r ≡ Some Discard → IsIn q (met_from routes r k p)
portal_met routes r k m p q net homes reaches discards =
    let there = met_reached routes r k m p q q net homes reaches in
    let more = homes_more routes r there.0 q there.1 in
    there.2 (subst (λ n. IsIn q (met_from routes r n q)) (sym more.1) (rw discards (in_here q [])))

-- By all random headers

pub below_met : (routes : Routes) (p q : SwitchPort) (r h : ℕ) → r < h → is_random_at routes p r ≡ true → IsIn q (met_from routes r (most_hops routes) p) → IsIn q (met_below routes p h)
below_met routes p q r zero low random is = absurd (omega (arith, low))
below_met routes p q r (suc h) low random is =
    elim (cases_eq r h) [
      | inl same ↦ in_right q (met_below routes p h) _ (subst (λ n. IsIn q (met_if (is_random_at routes p n) (met_from routes n (most_hops routes) p))) same (rw random is))
      | inr differ ↦ in_left q (met_below routes p h) _ (below_met routes p q r h (omega (arith, low, differ)) random is)
    ]

if_met : (q : SwitchPort) (b : Bool) (xs : List SwitchPort) → IsIn q (met_if b xs) → (b ≡ true) × IsIn q xs
if_met q b xs is = search arith

met_random : (routes : Routes) (p q : SwitchPort) (h : ℕ) → IsIn q (met_below routes p h) → (r : ℕ) × (r < h) × (is_random_at routes p r ≡ true) × IsIn q (met_from routes r (most_hops routes) p)
met_random routes p q zero is = absurd cc
met_random routes p q (suc h) is =
    elim (or_cases _ _ (sym (list_any-append (is_port q) (met_below routes p h) _) ∙ is)) [
      | inl before ↦ let found = met_random routes p q h before in let low = found.1 in (found.0, omega (arith, low), found.2, found.3)
      | inr here ↦ let found = if_met q (is_random_at routes p h) _ here in (h, omega arith, found.0, found.1)
    ]

pub met_is_portal : (routes : Routes) (p q : SwitchPort) → IsIn q (portals_met routes p) → IsPortal routes p q
met_is_portal routes p q is = search (arith, met_random, met_portal, random_at_tells)

pub portal_is_met : (routes : Routes) (p q : SwitchPort) → IsNetwork routes → ((r : ℕ) → IsRandomAt routes p r → Homes routes r (most_hops routes) p.switch p.link) → IsPortal routes p q → IsIn q (portals_met routes p)
portal_is_met routes p q net homes (r, m, random, reaches, discards) =
    below_met routes p q r (header_count routes) (random_header routes p r random) (random_at_told routes p r random) (portal_met routes r (most_hops routes) m p q net (homes r random) reaches discards)

-- In code

-- what is walked from stays so where more has joined
pub walked_kept : (routes : Routes) (r : ℕ) (walked : List Bool) (old new : List SwitchPort) → ((q : SwitchPort) → IsIn q old → IsIn q new) → AreWalked routes r walked old → AreWalked routes r walked new
walked_kept routes r walked old new kept are p here mark k homes = All-map (λ q. IsIn q old) (λ q. IsIn q new) kept (met_from routes r k p) (are p here mark k homes)

pub joined_walked : (routes : Routes) (r : ℕ) (walked : List Bool) (old new : List SwitchPort) (p : SwitchPort) (result : Result (Unit {0}) NoMemory) → OnOk result (new ≡ with_input old p) → AreWalked routes r walked old → OnOk result (AreWalked routes r walked new)
joined_walked routes r walked old new p (Ok x) is are = walked_kept routes r walked old new (λ q here. subst (IsIn q) (sym is) (with_kept old p q here)) are
joined_walked routes r walked old new p (Err x) is are = tt

walked_at : (n : ℕ) (walked : List Bool) (p q : SwitchPort) → IsInput n p → IsInput n q → (q ≡ p) ⊎ (slice_index_or (slice_set walked (place p) true) (place q) false ≡ slice_index_or walked (place q) false)
walked_at n walked p q a b = search (arith, cases_eq, place-same, get_or-set_other)

-- and an input behind which all that is met joined
pub walked_more : (routes : Routes) (r hops k : ℕ) (walked : List Bool) (old new : List SwitchPort) (p : SwitchPort) → k ≡ place p → IsInput (length routes.settings) p → Homes routes r hops p.switch p.link → new ≡ add_all old (met_from routes r hops p) → AreWalked routes r walked new → AreWalked routes r (slice_set walked k true) new
walked_more routes r hops k walked old new p at here homes is are q there mark j homes_too =
    let set : slice_index_or (slice_set walked (place p) true) (place q) false ≡ true = subst (λ n. slice_index_or (slice_set walked n true) (place q) false ≡ true) at mark in
    elim (walked_at (length routes.settings) walked p q here there) [
      | inl same ↦
          let own = subst (λ (x : SwitchPort). Homes routes r j x.switch x.link) same homes_too in
          let met : AllByRecursion (λ x. IsIn x new) (met_from routes r hops p) = subst (λ (ys : List SwitchPort). AllByRecursion (λ x. IsIn x ys) (met_from routes r hops p)) (sym is) (add_in (met_from routes r hops p) old) in
          subst (λ (x : SwitchPort). AllByRecursion (λ y. IsIn y new) (met_from routes r j x)) (sym same)
          (subst (AllByRecursion (λ y. IsIn y new)) (met_same routes r hops j p homes own) met)
      | inr other ↦ are q there (sym other ∙ set) j homes_too
    ]

-- the links of the group that is selected
pub group_met : (routes : Routes) (r hops : ℕ) (p : SwitchPort) (group : Group) → IsSelected routes r p group → Homes routes r hops p.switch p.link → met_from routes r hops p ≡ met_behind (met_from routes r (hops - 1)) (run_peers routes p.switch group.first (group.last + 1 - group.first))
group_met routes r zero p group is homes = absurd homes
group_met routes r (suc k) p group is homes =
    let same : is_in_group routes p.switch is.link ≡ between group.first group.last = λ i o. is.members o i in
    let low : suc k - 1 ≡ k = omega arith in
    ap (met_at routes (met_from routes r k) p) is.selects
    ∙ ap (λ test. met_behind (met_from routes r k) (peers_that routes p.switch test 0 32)) same
    ∙ ap (met_behind (met_from routes r k)) (run_is routes p.switch group.first group.last is.below is.in_order)
    ∙ ap (λ n. met_behind (met_from routes r n) (run_peers routes p.switch group.first (group.last + 1 - group.first))) (sym low)

link_leaves : (routes : Routes) (r link : ℕ) (p : SwitchPort) (group : Group) → IsSelected routes r p group → group.first ≤ link → link ≤ group.last → MayLeave routes r p (routes.peer (Port.Switch p.switch link))
link_leaves routes r link p group is low high = (is.link, link, is.selects, is.members link ∙ rw (le-leb group.first link low, le-leb link group.last high) refl, refl)

roams_input : (next : ℕ → ℕ → Type 0) (e : Option Port) → Roams next e → LeadsToInput e
roams_input next e roams = search arith

pub link_input : (routes : Routes) (r hops link : ℕ) (p : SwitchPort) (group : Group) → IsSelected routes r p group → group.first ≤ link → link < group.last + 1 → Homes routes r hops p.switch p.link → LeadsToInput (routes.peer (Port.Switch p.switch link))
link_input routes r hops link p group is low high homes = search (arith, roams_input, leaves_comes, link_leaves)

pub link_homes : (routes : Routes) (r hops link : ℕ) (p next : SwitchPort) (group : Group) → IsSelected routes r p group → group.first ≤ link → link < group.last + 1 → routes.peer (Port.Switch p.switch link) ≡ Some (to_port next) → Homes routes r hops p.switch p.link → (hops - 1 < hops) × Homes routes r (hops - 1) next.switch next.link
link_homes routes r zero link p next group is low high there homes = absurd homes
link_homes routes r (suc k) link p next group is low high there homes = search (arith, leaves_comes, link_leaves)

-- one link more
pub link_next : (routes : Routes) (f : SwitchPort → List SwitchPort) (s link end : ℕ) (old new whole : List SwitchPort) (next : SwitchPort) → link < end → routes.peer (Port.Switch s link) ≡ Some (to_port next) → new ≡ add_all old (f next) → add_all old (met_behind f (run_peers routes s link (end - link))) ≡ whole → add_all new (met_behind f (run_peers routes s (link + 1) (end - (link + 1)))) ≡ whole
link_next routes f s link end old new whole next below there is rest =
    let count : end - link ≡ suc (end - (link + 1)) = omega (arith, below) in
    search (arith, add_append)

pub links_end : (routes : Routes) (f : SwitchPort → List SwitchPort) (s link end : ℕ) (now whole : List SwitchPort) → end ≤ link → add_all now (met_behind f (run_peers routes s link (end - link))) ≡ whole → now ≡ whole
links_end routes f s link end now whole past rest = search arith
