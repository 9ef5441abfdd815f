-- Whether tickets rise, as a loop tells it.
use Rattle.c104_audit.{proofs.Merging.{each_in, in_each}, specs.{Leads.AreRising, Tests.{is_later, rises_after}}}
use Rattle.{c104_node.specs.declared.acts.Entry.Entry, std.proofs.Common.{Bool, IsTrue, List, None, Option, Some, [], arith, nat_lt, refl}}
use Rattle.std.{proofs.{Common.{true, ℕ, ◌<◌, ◌↔◌, ◌∷◌, ◌≡◌}, lemmas.Bool.{Decides.nat_tests, and_parts}}, specs.List.AllByRecursion}

later_all : (t : ℕ) (es : List Entry) → rises_after (Some t) es ≡ true → AllByRecursion (λ (e : Entry). t < e.ticket) es
later_all t [] is = tt
later_all t (e ∷ es) is =
    let two = and_parts (nat_lt t e.ticket) (rises_after (Some e.ticket) es) is in
    search (arith, nat_tests, in_each, each_in, later_all e.ticket es two.1)

rising_from : (last : Option ℕ) (es : List Entry) → rises_after last es ≡ true → AreRising (λ (e : Entry). e.ticket) es
rising_from last [] is = tt
rising_from last (e ∷ es) is = let two = and_parts (is_later last e.ticket) (rises_after (Some e.ticket) es) is in (later_all e.ticket es two.1, rising_from (Some e.ticket) es two.1)

from_rising : (t : ℕ) (es : List Entry) → AllByRecursion (λ (e : Entry). t < e.ticket) es → AreRising (λ (e : Entry). e.ticket) es → rises_after (Some t) es ≡ true
from_rising t [] above rising = refl
from_rising t (e ∷ es) above rising = search (arith, nat_tests, from_rising e.ticket es rising.0 rising.1)

rises_all : (es : List Entry) → AreRising (λ (e : Entry). e.ticket) es → rises_after None es ≡ true
rises_all [] rising = refl
rises_all (e ∷ es) rising = from_rising e.ticket es rising.0 rising.1

-- the loop answers whether the tickets rise
pub rises_is : (es : List Entry) (b : Bool) → b ≡ rises_after None es → IsTrue b ↔ AreRising (λ (e : Entry). e.ticket) es
rises_is es b is = search (arith, rising_from, rises_all)
