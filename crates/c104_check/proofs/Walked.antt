-- The steps of a walk in code.
use Rattle.c104_check.proofs.{RouteLemmas.{IsAmong, ways_leave}, RunLemmas.run_among, TrailLemmas.{is_port-true, trail_room}}
use Rattle.c104_check.{proofs.WalkLemmas.{Leads-from, clear}, specs.{Routes.{Routes, SwitchPort, place, select, to_port}, Shown.Comes}}
use Rattle.c104_check.specs.{Shown.Follows, Trails.{AreWays, IsInput, IsNetwork, IsTrail, run_peers}, Walking.{AreGood, IsHalt, TellMet}}
use Rattle.c104_check.specs.{Walking.{fault_from, fault_on, mark_at, tells_met, way_of}, Walks.{Found, Goal, WalkFault, at_peer, at_peers}}
use Rattle.c104_check.specs.Walks.{at_ways, first_fault, first_of, is_met, is_port, port_of, ways}
use Rattle.c104_check.specs.declared.{faults.WalkFault.TheVariants.{Loop, WrongEnd}, walks.{Halt.Halt, Mark.{Mark, TheVariants.Good}}}
use Rattle.c104_check.specs.declared.walks.{Mark.TheVariants.{Met, New}, Way.TheVariants.{Astray, Home, On}}
use Rattle.{c104_plan.specs.declared.ports.Port.Port, std.proofs.Common.{Bool, List, None, Option, Some, [], ap, arith, false}}
use Rattle.std.proofs.Common.{if◌then◌else◌, inl, inr, length, refl, slice_index_or, slice_set, subst, suc, sym, true, ℕ, ◌*◌, ◌++◌, ◌+◌}
use Rattle.std.proofs.{Common.{◌-◌, ◌<◌, ◌||◌, ◌∙◌, ◌∷◌, ◌≡◌, ◌≤◌, ◌⊎◌}, lemmas.{Bool.{cases_Bool, cases_eq, eq-eqb}, Grind.get_or-set_at}}
use Rattle.std.proofs.lemmas.List.{Folds.list_any_at, get_or-set_other, length-append, length-set}

-- what is found from an input that lengthens a walk
abbrev pub further : Routes → ℕ → Goal → List SwitchPort → List SwitchPort → SwitchPort → Found
further routes h t walk = first_fault routes h t (32 * length routes.settings - length walk)

pub fault_unfolds : (routes : Routes) (h : ℕ) (t : Goal) (walk : List SwitchPort) (p : SwitchPort) → IsTrail routes h walk p → fault_from routes h t walk p ≡ at_ways (further routes h t walk) t walk (ways routes h t p)
fault_unfolds routes h t walk p trail =
    let short = trail_room routes h walk p trail in
    let more : 32 * length routes.settings + 1 - length walk ≡ suc (32 * length routes.settings - length walk) = omega (arith, short) in
    ap (λ k. first_fault routes h t k walk p) more

pub further_is : (routes : Routes) (h : ℕ) (t : Goal) (walk : List SwitchPort) (q : SwitchPort) → further routes h t walk (walk ++ (q ∷ [])) q ≡ fault_from routes h t (walk ++ (q ∷ [])) q
further_is routes h t walk q = search (arith, length-append)

-- what is found where a link leads to an input is what is found on the walk that goes on to it
pub on_is : (routes : Routes) (h : ℕ) (t : Goal) (walk : List SwitchPort) (q : SwitchPort) → at_peer (further routes h t walk) t walk (Some (Port.Switch q.switch q.link)) ≡ fault_on routes h t walk q
on_is routes h t walk q = ap (λ x. if is_met q walk then Some (Loop, walk ++ (q ∷ [])) else x) (further_is routes h t walk q)

pub on_new : (routes : Routes) (h : ℕ) (t : Goal) (walk : List SwitchPort) (q : SwitchPort) → is_met q walk ≡ false → fault_on routes h t walk q ≡ fault_from routes h t (walk ++ (q ∷ [])) q
on_new routes h t walk q new = rw new refl

-- from an input that leads to t there is no fault
pub good_clear : (routes : Routes) (h : ℕ) (t : Goal) (walk : List SwitchPort) (p : SwitchPort) → IsNetwork routes → IsInput (length routes.settings) p → IsTrail routes h walk p → (j : ℕ) × Comes routes h t j p.switch p.link → fault_from routes h t walk p ≡ None
good_clear routes h t walk p net here trail leads = search (arith, trail_room, clear)

pub clear_good : (routes : Routes) (h : ℕ) (t : Goal) (walk : List SwitchPort) (p : SwitchPort) → IsNetwork routes → fault_from routes h t walk p ≡ None → (k : ℕ) × Comes routes h t k p.switch p.link
clear_good routes h t walk p net is = (32 * length routes.settings + 1 - length walk, Leads-from routes h t net (32 * length routes.settings + 1 - length walk) walk p is)

-- what is still to be found at the links from one on, before an end
abbrev pub pending : Routes → ℕ → Goal → ℕ → List SwitchPort → ℕ → ℕ → Found
pending routes h t s walk end link = at_peers (further routes h t walk) t walk (run_peers routes s link (end - link))

module _ (routes : Routes) (h : ℕ) (t : Goal) (s : ℕ) (walk : List SwitchPort) (end link : ℕ) (below : link < end) where
  pending_next : pending routes h t s walk end link ≡ first_of (at_peer (further routes h t walk) t walk (routes.peer (Port.Switch s link))) (pending routes h t s walk end (link + 1))
  pending_next = search arith

  -- a link that shows a fault, and one that shows none
  pub stops : (p : SwitchPort) (e : Option Port) (f : WalkFault × List SwitchPort) → routes.peer (Port.Switch s link) ≡ e → pending routes h t s walk end link ≡ fault_from routes h t walk p → at_peer (further routes h t walk) t walk e ≡ Some f → fault_from routes h t walk p ≡ Some f
  stops p e f here rest is = search (arith, pending_next)

  pub goes_on : (p : SwitchPort) (e : Option Port) → routes.peer (Port.Switch s link) ≡ e → pending routes h t s walk end link ≡ fault_from routes h t walk p → at_peer (further routes h t walk) t walk e ≡ None → pending routes h t s walk end (link + 1) ≡ fault_from routes h t walk p
  goes_on p e here rest is = search (arith, pending_next)

pub pending_end : (routes : Routes) (h : ℕ) (t : Goal) (s : ℕ) (walk : List SwitchPort) (end link : ℕ) (p : SwitchPort) → end ≤ link → pending routes h t s walk end link ≡ fault_from routes h t walk p → fault_from routes h t walk p ≡ None
pending_end routes h t s walk end link p past rest = search arith

-- Where a link leads

abbrev found_at : WalkFault → List SwitchPort → Found
found_at why walk = Some (why, walk)

terminal_stops : (walk : List SwitchPort) (why : WalkFault) (b : Bool) → (if b then Home else Astray WrongEnd) ≡ Astray why → (if b then None else found_at WrongEnd walk) ≡ found_at why walk
terminal_stops walk why b is = search arith

pub way_stops : (further : List SwitchPort → SwitchPort → Found) (t : Goal) (walk : List SwitchPort) (e : Option Port) (why : WalkFault) → way_of t e ≡ Astray why → at_peer further t walk e ≡ Some (why, walk)
way_stops further t walk e why is = search (arith, terminal_stops)

terminal_home : (walk : List SwitchPort) (b : Bool) → (if b then Home else Astray WrongEnd) ≡ Home → (if b then None else found_at WrongEnd walk) ≡ None
terminal_home walk b is = search arith

pub way_home : (further : List SwitchPort → SwitchPort → Found) (t : Goal) (walk : List SwitchPort) (e : Option Port) → way_of t e ≡ Home → at_peer further t walk e ≡ None
way_home further t walk e is = search (arith, terminal_home)

terminal_on : (q : SwitchPort) (b : Bool) → (if b then Home else Astray WrongEnd) ≡ On q → ⊥
terminal_on q b is = search arith

port_same : (s i : ℕ) (q : SwitchPort) → On (port_of s i) ≡ On q → port_of s i ≡ q
port_same s i q is = cc

pub way_on : (t : Goal) (e : Option Port) (q : SwitchPort) → way_of t e ≡ On q → e ≡ Some (to_port q)
way_on t e q is = search (arith, terminal_on, port_same)

-- a walk that went on, and stopped later
pub later_halts : (routes : Routes) (h : ℕ) (t : Goal) (walk new : List SwitchPort) (q : SwitchPort) (halt : Halt) → IsHalt halt (fault_on routes h t walk q) new → (found : Found) → ((f : WalkFault × List SwitchPort) → at_peer (further routes h t walk) t walk (Some (Port.Switch q.switch q.link)) ≡ Some f → found ≡ Some f) → IsHalt halt found new
later_halts routes h t walk new q halt is found stop = search (arith, on_is)

-- Marks

pub place-same : (n : ℕ) (p q : SwitchPort) → IsInput n p → IsInput n q → place p ≡ place q → p ≡ q
place-same n p q one other same = search arith

-- each mark is the new one at its own place, and else as it was
pub mark_set : (n : ℕ) (marks : List Mark) (p q : SwitchPort) (m : Mark) → IsInput n p → IsInput n q → place p < length marks → ((q ≡ p) × (mark_at (slice_set marks (place p) m) q ≡ m)) ⊎ ((q ≡ p → ⊥) × (mark_at (slice_set marks (place p) m) q ≡ mark_at marks q))
mark_set n marks p q m here there inside = search (arith, cases_eq, place-same, get_or-set_at, get_or-set_other)

pub is_port-refl : (p : SwitchPort) → is_port p p ≡ true
is_port-refl p = rw (eq-eqb p.switch p.switch refl, eq-eqb p.link p.link refl) refl

met_last : (walk : List SwitchPort) (p : SwitchPort) → is_met p (walk ++ (p ∷ [])) ≡ true
met_last [] p = rw (is_port-refl p) refl
met_last (x ∷ walk) p = or_true (is_port p x) (met_last walk p)
  where
    or_true : (a : Bool) {b : Bool} → b ≡ true → (a || b) ≡ true
    or_true a is = search arith

pub other_port : (p q : SwitchPort) → (q ≡ p → ⊥) → is_port q p ≡ false
other_port p q other = elim (cases_Bool (is_port q p)) [ inl same ↦ absurd (other (is_port-true q p same)) | inr differ ↦ differ ]

met_others : (walk : List SwitchPort) (p q : SwitchPort) → (q ≡ p → ⊥) → is_met q (walk ++ (p ∷ [])) ≡ is_met q walk
met_others [] p q other = rw (other_port p q other) refl
met_others (x ∷ walk) p q other = ap (λ b. is_port q x || b) (met_others walk p q other)

module _ (routes : Routes) (marks : List Mark) (walk : List SwitchPort) (p : SwitchPort) (here : IsInput (length routes.settings) p) (inside : place p < length marks) where
  -- an input that joins the walk
  pub met_good : (h : ℕ) (t : Goal) → AreGood routes h t marks → AreGood routes h t (slice_set marks (place p) Met)
  met_good h t good q there is =
      elim (mark_set (length routes.settings) marks p q Met here there inside) [
        | inl (same, now) ↦ absurd (let clash : Met ≡ Good = sym now ∙ is in cc)
        | inr (differ, now) ↦ good q there (sym now ∙ is)
      ]

  pub met_tells : TellMet routes marks walk → TellMet routes (slice_set marks (place p) Met) (walk ++ (p ∷ []))
  met_tells tells q there =
      elim (mark_set (length routes.settings) marks p q Met here there inside) [
        | inl (same, now) ↦ ap tells_met now ∙ sym (ap (λ x. is_met x (walk ++ (p ∷ []))) same ∙ met_last walk p)
        | inr (differ, now) ↦ ap tells_met now ∙ tells q there ∙ sym (met_others walk p q differ)
      ]

  -- and one that leaves it, and is good
  pub good_good : (h : ℕ) (t : Goal) → (k : ℕ) × Comes routes h t k p.switch p.link → AreGood routes h t marks → AreGood routes h t (slice_set marks (place p) Good)
  good_good h t leads good q there is =
      elim (mark_set (length routes.settings) marks p q Good here there inside) [
        | inl (same, now) ↦ subst (λ (x : SwitchPort). (k : ℕ) × Comes routes h t k x.switch x.link) (sym same) leads
        | inr (differ, now) ↦ good q there (sym now ∙ is)
      ]

  pub good_tells : is_met p walk ≡ false → TellMet routes marks (walk ++ (p ∷ [])) → TellMet routes (slice_set marks (place p) Good) walk
  good_tells new tells q there =
      elim (mark_set (length routes.settings) marks p q Good here there inside) [
        | inl (same, now) ↦ ap tells_met now ∙ sym (ap (λ x. is_met x walk) same ∙ new)
        | inr (differ, now) ↦ ap tells_met now ∙ tells q there ∙ met_others walk p q differ
      ]

-- An input that is new

pub fresh_of : (routes : Routes) (marks : List Mark) (walk : List SwitchPort) (p : SwitchPort) (k : ℕ) → TellMet routes marks walk → IsInput (length routes.settings) p → k ≡ place p → tells_met (slice_index_or marks k New) ≡ false → is_met p walk ≡ false
fresh_of routes marks walk p k tells here at is = sym (tells p here) ∙ ap (λ n. tells_met (slice_index_or marks n New)) (sym at) ∙ is

pub good_on : (routes : Routes) (h : ℕ) (t : Goal) (marks : List Mark) (walk : List SwitchPort) (p : SwitchPort) → IsNetwork routes → IsInput (length routes.settings) p → (is_met p walk ≡ false → IsTrail routes h (walk ++ (p ∷ [])) p) → AreGood routes h t marks → TellMet routes marks walk → mark_at marks p ≡ Good → fault_on routes h t walk p ≡ None
good_on routes h t marks walk p net here trail good tells is = search (arith, on_new, good_clear)

-- what is found on the walk that went on, once it is known of the walk as it is then
pub stops_on : (routes : Routes) (h : ℕ) (t : Goal) (walk w l : List SwitchPort) (p : SwitchPort) (found : Found) → is_met p walk ≡ false → w ≡ walk ++ (p ∷ []) → l ≡ w → fault_from routes h t l p ≡ found → fault_on routes h t walk p ≡ found
stops_on routes h t walk w l p found new is same at = on_new routes h t walk p new ∙ ap (λ x. fault_from routes h t x p) (sym (same ∙ is)) ∙ at

pub trail_of : (routes : Routes) (h : ℕ) (walk w : List SwitchPort) (p : SwitchPort) → (is_met p walk ≡ false → IsTrail routes h (walk ++ (p ∷ [])) p) → is_met p walk ≡ false → w ≡ walk ++ (p ∷ []) → IsTrail routes h w p
trail_of routes h walk w p trail new is = subst (λ x. IsTrail routes h x p) (sym is) (trail new)

-- a link of the group leads to an input
pub follows_by : (routes : Routes) (h : ℕ) (t : Goal) (link first end : ℕ) (p q : SwitchPort) → AreWays routes h t p first end → first ≤ link → link < end → routes.peer (Port.Switch p.switch link) ≡ Some (Port.Switch q.switch q.link) → Follows routes h p q
follows_by routes h t link first end p q ways low high leads = ways_leave routes h t p (run_peers routes p.switch first (end - first)) (Some (Port.Switch q.switch q.link)) (select routes p.switch p.link h) refl ways.are (subst (λ e. IsAmong e (run_peers routes p.switch first (end - first))) leads (run_among routes p.switch link (end - first) first low (omega (arith, low, high))))

pub marks_length : (marks : List Mark) (k : ℕ) (m : Mark) → length (slice_set marks k m) ≡ length marks
marks_length marks k m = length-set marks k m

-- an input of a walk, by its place
pub met_at : (walk xs : List SwitchPort) (i : ℕ) (d : SwitchPort) → xs ≡ walk → i < length xs → is_met (slice_index_or xs i d) walk ≡ true
met_at walk xs i d same inside = ap (is_met (slice_index_or xs i d)) (sym same) ∙ list_any_at (is_port (slice_index_or xs i d)) xs i d inside (is_port-refl (slice_index_or xs i d))
