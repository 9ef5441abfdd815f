-- What the nodes keep of what was done: of each event its entries, at the places to which it belongs; so what a node keeps of
-- a whole log it keeps of its part.
use Rattle.{c104_event.specs.declared.events.Event.Event, c104_node.specs.{PortActs.{Acts, far_act, near_act}, Traces.Deed as Kept}}
use Rattle.c104_node.specs.{Traces.{entry_of, part}, declared.{acts.{ActOf.ActOf, Entry.Entry}, crossings.Crossing.Crossing}}
use Rattle.{c104_node.specs.declared.stamps.Stamp.Stamp, c104_plan.specs.{Plans.{IsPlan, Plan}, Wiring.peer, declared.ports.Port.Port}}
use Rattle.c104_run.{proofs.BalanceWires.nodes_apart, specs.{EventActs.{event_acts, port_place}, EventDeeds.{acts_deeds, event_deeds}}}
use Rattle.{c104_run.specs.Runs.{at_node, run_deeds}, c104_switch.specs.{Actions.{Reply, is_ready}, declared.actions.ReplyOf.ReplyOf}}
use Rattle.c104_tickets.specs.{Tickets.{Each, belongs, kept_if, part_of, stands_at}, declared.views.{Done.Done, Name.Name}}
use Rattle.{c104_token.specs.declared.tokens.Token.Token, c104_turns.specs.{Calls.is_own, Logs.{IsDoneHere, done_pair, done_stamp}}}
use Rattle.{c104_turns.specs.Logs.{entries_at, entries_of, far_place, kept_own, near_place, own_of}, std.proofs.Common.{Bool, List, Option}}
use Rattle.std.proofs.Common.{Some, [], ap, append-nil, append_assoc, arith, false, if◌then◌else◌, map, nat_eq, refl, suc, sym, true, ℕ}
use Rattle.std.proofs.{Common.{◌++◌, ◌∙◌, ◌∷◌, ◌≡◌, ◌≢◌}, lemmas.Bool.Decides.nat_tests}

-- an entry at a place, and at others
pub at_same : (j k : ℕ) (x : Entry) (ds : List Kept) → j ≡ k → at_node k ((j, x) ∷ ds) ≡ x ∷ at_node k ds
at_same j k x ds same = let is : nat_eq j k ≡ true = grind (arith, nat_tests, same) in rw is refl

pub at_other : (j k : ℕ) (x : Entry) (ds : List Kept) → j ≢ k → at_node k ((j, x) ∷ ds) ≡ at_node k ds
at_other j k x ds differs = let is : nat_eq j k ≡ false = grind (arith, nat_tests, differs) in rw is refl

pub at_append : (k : ℕ) (ds es : List Kept) → at_node k (ds ++ es) ≡ at_node k ds ++ at_node k es
at_append k [] es = refl
at_append k (d ∷ ds) es = by_test (nat_eq d.0 k) (at_append k ds es)
  where
    by_test : (b : Bool) → at_node k (ds ++ es) ≡ at_node k ds ++ at_node k es
        → (if b then d.1 ∷ at_node k (ds ++ es) else at_node k (ds ++ es))
        ≡ (if b then d.1 ∷ at_node k ds else at_node k ds) ++ at_node k es
    by_test true rest = ap (λ xs. d.1 ∷ xs) rest
    by_test false rest = rest

-- events that are numbered from a number on have the stamps of what was done
abbrev pub AreStamped : (ℕ → Stamp) → ℕ → List Done → Type 0
AreStamped stamps n [] = Unit {0}
AreStamped stamps n (d ∷ ds) = (stamps n ≡ done_stamp d) × AreStamped stamps (suc n) ds

module _ (plan : Plan) where
  -- the entries of an event whose acts are known
  pub deeds_of : (stamp : Stamp) (e : Event) (r : Reply) (acts : Acts Token) → event_acts plan e ≡ Some acts
      → event_deeds plan stamp e r ≡ acts_deeds plan stamp acts r
  deeds_of stamp e r acts asked = ap (part [] (λ them. acts_deeds plan stamp them r)) asked

  pub alone_deeds : (stamp : Stamp) (e : Event) (r : Reply) (k : ℕ) (a : ActOf Token)
      → ◌≡◌ {A = Option (Acts Token)} (event_acts plan e) (Some (Acts.Alone k a)) → is_ready r ≡ true
      → event_deeds plan stamp e r ≡ (k, entry_of stamp a r) ∷ []
  alone_deeds stamp e r k a asked ready =
      deeds_of stamp e r (Acts.Alone k a) asked ∙ ap (λ b. if b then (k, entry_of stamp a r) ∷ [] else []) ready

  -- the two entries of what crosses a wire
  abbrev pub both_deeds : Stamp → Reply → Port → Port → Crossing → List Kept
  both_deeds stamp r p q crossing =
      (port_place plan p, entry_of stamp (near_act crossing p) r) ∷ (port_place plan q, entry_of stamp (far_act q r) ReplyOf.Done) ∷ []

  pub joint_deeds : (stamp : Stamp) (e : Event) (r : Reply) (p q : Port) (crossing : Crossing)
      → ◌≡◌ {A = Option (Acts Token)} (event_acts plan e) (Some (Acts.Joint p q crossing)) → is_ready r ≡ true
      → event_deeds plan stamp e r ≡ both_deeds stamp r p q crossing
  joint_deeds stamp e r p q crossing asked ready =
      deeds_of stamp e r (Acts.Joint p q crossing) asked ∙ ap (λ b. if b then both_deeds stamp r p q crossing else []) ready

  -- what is kept of a deed whose acts are known
  pub alone_entries : (d : Done) (k : ℕ) (a : ActOf Token)
      → ◌≡◌ {A = Option (Acts Token)} (event_acts plan d.deed.event) (Some (Acts.Alone k a)) → is_ready d.deed.reply ≡ true
      → entries_at plan k d ≡ entry_of (done_stamp d) a d.deed.reply ∷ []
  alone_entries d k a asked ready =
      ap (at_node k) (alone_deeds (done_stamp d) d.deed.event d.deed.reply k a asked ready)
      ∙ at_same k k (entry_of (done_stamp d) a d.deed.reply) [] refl

  module _ (is_plan : IsPlan plan) (d : Done) (p q : Port) (crossing : Crossing) (wired : peer plan p ≡ Some q)
      (asked : ◌≡◌ {A = Option (Acts Token)} (event_acts plan d.deed.event) (Some (Acts.Joint p q crossing)))
      (ready : is_ready d.deed.reply ≡ true) where
    abbrev near : Entry
    near = entry_of (done_stamp d) (near_act crossing p) d.deed.reply

    abbrev far : Entry
    far = entry_of (done_stamp d) (far_act q d.deed.reply) ReplyOf.Done

    both : (k : ℕ) → entries_at plan k d ≡ at_node k ((port_place plan p, near) ∷ (port_place plan q, far) ∷ [])
    both k = ap (at_node k) (joint_deeds (done_stamp d) d.deed.event d.deed.reply p q crossing asked ready)

    pub near_entries : entries_at plan (port_place plan p) d ≡ near ∷ []
    near_entries =
        both (port_place plan p) ∙ at_same (port_place plan p) (port_place plan p) near ((port_place plan q, far) ∷ []) refl
        ∙ ap (λ xs. near ∷ xs)
        (at_other (port_place plan q) (port_place plan p) far [] (λ same. nodes_apart plan is_plan p q wired (sym same)))

    pub far_entries : entries_at plan (port_place plan q) d ≡ far ∷ []
    far_entries =
        both (port_place plan q)
        ∙ at_other (port_place plan p) (port_place plan q) near ((port_place plan q, far) ∷ []) (nodes_apart plan is_plan p q wired)
        ∙ at_same (port_place plan q) (port_place plan q) far [] refl

  -- where neither of two places is this one, nothing is kept here
  neither : (b c : Bool) → (if b then true else c) ≡ false → (b ≡ false) × (c ≡ false)
  neither b c none = search arith

  not_there : (k l : ℕ) → stands_at k (Some l) ≡ false → l ≢ k
  not_there k l none = grind (arith, nat_tests, none)

  pub no_entries : (k : ℕ) (d : Done) → IsDoneHere plan d → belongs (Name.Place k) d.deed ≡ false → entries_at plan k d ≡ []
  no_entries k d done none =
      by_acts done.acts done.asked (ap (stands_at k) (sym done.near) ∙ away.0) (ap (stands_at k) (sym done.far) ∙ away.1)
    where
      away : (stands_at k d.deed.near ≡ false) × (stands_at k d.deed.far ≡ false)
      away = neither (stands_at k d.deed.near) (stands_at k d.deed.far) none

      by_acts : (acts : Acts Token) → event_acts plan d.deed.event ≡ Some acts → stands_at k (Some (near_place plan acts)) ≡ false
          → stands_at k (far_place plan acts) ≡ false → entries_at plan k d ≡ []
      by_acts (Acts.Alone l a) asked not_near not_far =
          ap (at_node k) (alone_deeds (done_stamp d) d.deed.event d.deed.reply l a asked done.ready)
          ∙ at_other l k (entry_of (done_stamp d) a d.deed.reply) [] (not_there k l not_near)
      by_acts (Acts.Joint p q crossing) asked not_near not_far =
          let x : Entry = entry_of (done_stamp d) (near_act crossing p) d.deed.reply in
          let y : Entry = entry_of (done_stamp d) (far_act q d.deed.reply) ReplyOf.Done in
          ap (at_node k) (joint_deeds (done_stamp d) d.deed.event d.deed.reply p q crossing asked done.ready)
          ∙ at_other (port_place plan p) k x ((port_place plan q, y) ∷ []) (not_there k (port_place plan p) not_near)
          ∙ at_other (port_place plan q) k y [] (not_there k (port_place plan q) not_far)

  pub entries_append : (k : ℕ) (ds es : List Done) → entries_of plan k (ds ++ es) ≡ entries_of plan k ds ++ entries_of plan k es
  entries_append k [] es = refl
  entries_append k (d ∷ ds) es =
      ap (λ xs. entries_at plan k d ++ xs) (entries_append k ds es)
      ∙ sym (append_assoc (entries_at plan k d) (entries_of plan k ds) (entries_of plan k es))

  -- what a node keeps grows by what is kept of a deed that belongs to it
  pub entries_grow : (k : ℕ) (ds : List Done) (d : Done) → belongs (Name.Place k) d.deed ≡ true
      → entries_of plan k (ds ++ part_of (Name.Place k) (d ∷ [])) ≡ entries_of plan k ds ++ entries_at plan k d
  entries_grow k ds d has =
      ap (λ b. entries_of plan k (ds ++ kept_if b d [])) has ∙ entries_append k ds (d ∷ [])
      ∙ ap (λ xs. entries_of plan k ds ++ xs) (append-nil (entries_at plan k d))

  -- what was done on the fabric's own nodes was done as it says, and whatever belongs to a place was done on these nodes
  pub record IsOwnAt (k : ℕ) (d : Done) : Type 0 where
    pub done : is_own d ≡ true → IsDoneHere plan d
    pub own : belongs (Name.Place k) d.deed ≡ true → is_own d ≡ true

  -- what a node keeps of all events is what it keeps of its part
  pub log_entries : (k n : ℕ) (stamps : ℕ → Stamp) (log : List Done) → Each (IsOwnAt k) log → AreStamped stamps n (own_of log)
      → at_node k (run_deeds plan stamps n (map done_pair (own_of log))) ≡ entries_of plan k (part_of (Name.Place k) log)
  log_entries k n stamps [] own stamped = refl
  log_entries k n stamps (d ∷ ds) own stamped =
      by_own (is_own d) refl (belongs (Name.Place k) d.deed) refl stamped (λ m more. log_entries k m stamps ds own.1 more)
    where
      Own : List Done
      Own = own_of ds

      Part : List Done
      Part = part_of (Name.Place k) ds

      Rest : List Entry
      Rest = at_node k (run_deeds plan stamps (suc n) (map done_pair Own))

      by_own : (b : Bool) → is_own d ≡ b → (c : Bool) → belongs (Name.Place k) d.deed ≡ c → AreStamped stamps n (kept_own b d Own)
          → ((m : ℕ) → AreStamped stamps m Own → at_node k (run_deeds plan stamps m (map done_pair Own)) ≡ entries_of plan k Part)
          → at_node k (run_deeds plan stamps n (map done_pair (kept_own b d Own))) ≡ entries_of plan k (kept_if c d Part)
      by_own true is true has stamped rest =
          at_append k (event_deeds plan (stamps n) d.deed.event d.deed.reply) (run_deeds plan stamps (suc n) (map done_pair Own))
          ∙ ap (λ s. at_node k (event_deeds plan s d.deed.event d.deed.reply) ++ Rest) stamped.0
          ∙ ap (λ xs. entries_at plan k d ++ xs) (rest (suc n) stamped.1)
      by_own true is false none stamped rest =
          at_append k (event_deeds plan (stamps n) d.deed.event d.deed.reply) (run_deeds plan stamps (suc n) (map done_pair Own))
          ∙ ap (λ s. at_node k (event_deeds plan s d.deed.event d.deed.reply) ++ Rest) stamped.0
          ∙ ap (λ xs. xs ++ Rest) (no_entries k d (own.0.done is) none)
          ∙ rest (suc n) stamped.1
      by_own false is true has stamped rest = absurd (let no : false ≡ true = sym is ∙ own.0.own has in cc)
      by_own false is false none stamped rest = rest n stamped
