-- Whether the tickets of calls rise from the first on, as a loop tells it.
use Rattle.c104_audit.{proofs.Merging.{each_in, in_each}, specs.Tests.{IsListed, is_later, listed_after}}
use Rattle.{c104_event.specs.declared.calls.Call.Call, std.proofs.Common.{Bool, IsTrue, List, None, Option, Some, [], arith, false, nat_le}}
use Rattle.std.proofs.{Common.{nat_lt, refl, sym, true, ℕ, ◌&&◌, ◌<◌, ◌↔◌, ◌∙◌, ◌∷◌, ◌≡◌}, lemmas.Bool.{Decides.nat_tests, and_parts}}
use Rattle.std.specs.List.{AllByRecursion}

later_calls : (first t : ℕ) (cs : List Call) → listed_after first (Some t) cs ≡ true → AllByRecursion (λ (c : Call). t < c.ticket) cs
later_calls first t [] is = tt
later_calls first t (c ∷ cs) is =
    let two = and_parts (nat_lt t c.ticket && nat_le first c.ticket) (listed_after first (Some c.ticket) cs) is in
    search (arith, and_parts, nat_tests, in_each, each_in, later_calls first c.ticket cs two.1)

listed_from : (first : ℕ) (last : Option ℕ) (cs : List Call) → listed_after first last cs ≡ true → IsListed first cs
listed_from first last [] is = record { rising = tt; late = tt }
listed_from first last (c ∷ cs) is =
    let two = and_parts (is_later last c.ticket && nat_le first c.ticket) (listed_after first (Some c.ticket) cs) is in
    search (arith, and_parts, later_calls, nat_tests, listed_from first (Some c.ticket) cs two.1)

from_listed : (first : ℕ) (last : Option ℕ) (cs : List Call) → AllByRecursion (λ (c : Call). is_later last c.ticket ≡ true) cs → IsListed first cs → listed_after first last cs ≡ true
from_listed first last [] above is = refl
from_listed first last (c ∷ cs) above is =
    let low = is.late.0 in
    let test : nat_le first c.ticket ≡ true = grind (arith, nat_tests) in
    let each : AllByRecursion (λ (d : Call). nat_lt c.ticket d.ticket ≡ true) cs = in_each (λ (d : Call). nat_lt c.ticket d.ticket ≡ true) cs (λ d has. let more = each_in (λ (d : Call). c.ticket < d.ticket) d cs is.rising.0 has in grind (arith, nat_tests)) in
    rw (above.0, test) (from_listed first (Some c.ticket) cs each (record { rising = is.rising.1; late = is.late.1 }))

none_before : (cs : List Call) → AllByRecursion (λ (c : Call). is_later None c.ticket ≡ true) cs
none_before [] = tt
none_before (c ∷ cs) = (refl, none_before cs)

-- the loop answers whether they do
pub listed_is : (first : ℕ) (cs : List Call) (b : Bool) → b ≡ listed_after first None cs → IsTrue b ↔ IsListed first cs
listed_is first cs true is = (λ yes. listed_from first None cs (sym is), λ listed. refl)
listed_is first cs false is = (λ no. absurd (let never : false ≡ true = no in cc), λ listed. is ∙ from_listed first None cs (none_before cs) listed)
