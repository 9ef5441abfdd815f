-- The wired ports of a plan: they have wires, and the sets of links have those of the switches.
use Rattle.{c104_crossbar.specs.Groups.has_bit, c104_event.specs.declared.faults.EventFault.EventFault, c104_plan.proofs.Wires.wiring}
use Rattle.{c104_plan.specs.{Plans.{IsPlan, Plan}, Wiring.peer, declared.ports.Port.Port}, c104_run.proofs.IdleEvents.wired_inside}
use Rattle.c104_run.{proofs.NoFaults.{past_link, past_node}, specs.{LinkedSets.AreLinked, Network.wired_fault, Rounds.is_wired}}
use Rattle.std.proofs.Common.{Bool, List, None, Option, Some, [], arith, false, is_some, refl, sym, true, ℕ, ◌++◌, ◌+◌, ◌<◌, ◌∙◌, ◌∷◌, ◌≡◌}
use Rattle.std.{proofs.lemmas.{Bool.cases_eq, List.{get_or-append_right, get_or_append_left, length-append}}, specs.Option.option_map}

module _ (plan : Plan) (is_plan : IsPlan plan) where
  pub has_wire : (p : Port) → is_wired plan p ≡ true → wired_fault plan p ≡ None
  has_wire p wired = by_peer (peer plan p) refl wired
    where
      by_peer : (other : Option Port) → peer plan p ≡ other → is_some other ≡ true → wired_fault plan p ≡ None
      by_peer None is wired = absurd (cc wired)
      by_peer (Some q) is wired = wired_inside plan p q ((wiring plan is_plan).inside p q is) is

  -- a port at which nothing can happen has none
  pub no_wire : (p : Port) (f : EventFault) → wired_fault plan p ≡ Some f → is_wired plan p ≡ false
  no_wire p f fault = by_test (is_wired plan p) refl
    where
      by_test : (b : Bool) → is_wired plan p ≡ b → is_wired plan p ≡ false
      by_test true is = absurd (let no : None ≡ Some f = sym (has_wire p is) ∙ fault in cc no)
      by_test false is = is

-- and what can happen at a port is at one that has a wire
pub wire_there : (plan : Plan) (p : Port) → wired_fault plan p ≡ None → is_wired plan p ≡ true
wire_there plan p possible = search (arith, past_link, past_node)

pub some_mapped : {X Y : Type 0} (f : X → Y) (o : Option X) → is_some (option_map f o) ≡ is_some o
some_mapped f o = search arith

-- one link more is in a set as it is wired
pub linked_more : (plan : Plan) (s i : ℕ) (old new : ℕ) → ((l : ℕ) → l < 32 → l < i → has_bit old l ≡ is_wired plan (Port.Switch s l)) → (i < 32 → has_bit new i ≡ is_wired plan (Port.Switch s i)) → ((l : ℕ) → l < 32 → (l ≡ i → ⊥) → has_bit new l ≡ has_bit old l) → (l : ℕ) → l < 32 → l < i + 1 → has_bit new l ≡ is_wired plan (Port.Switch s l)
linked_more plan s i old new so_far here others = search (arith, cases_eq)

-- the set of one switch more
pub linked_next : (plan : Plan) (n set : ℕ) (sets more : List ℕ) → AreLinked plan n sets → ((l : ℕ) → l < 32 → has_bit set l ≡ is_wired plan (Port.Switch n l)) → more ≡ sets ++ set ∷ [] → AreLinked plan (n + 1) more
linked_next plan n set sets more before own is = search (arith, length-append, cases_eq, get_or_append_left, get_or-append_right)
