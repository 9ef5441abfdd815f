-- Whether what passes at two ends agrees, as a loop goes through it.
use Rattle.{c104_audit.specs.{Audits.AgreeOneByOne, Tests.{HasHalf, HasNoHalf}}, c104_node.specs.declared.acts.Entry.Entry}
use Rattle.std.proofs.Common.{IsTrue, List, arith, false, subst, true, ◌↔◌, ◌∷◌, ◌≡◌}

-- lists agree where they agree behind two halves
pub agree_next : (All : Type 0) (ps qs rest others : List Entry) (x : Entry) → ps ≡ x ∷ rest → HasHalf x qs others → (AgreeOneByOne ps qs ↔ All) → (AgreeOneByOne rest others ↔ All)
agree_next All ps qs rest others x first half same = search arith

pub agree_over : (All : Type 0) (ps qs rest : List Entry) → ps ≡ rest → (AgreeOneByOne ps qs ↔ All) → (AgreeOneByOne rest qs ↔ All)
agree_over All ps qs rest first same = subst (λ zs. AgreeOneByOne zs qs ↔ All) first same

never : {A : Type 0} → IsTrue false → A
never is = absurd (let not_so : false ≡ true = is in cc)

-- and they don't where the next has no half
pub no_half : (All : Type 0) (ps qs rest : List Entry) (x : Entry) → ps ≡ x ∷ rest → HasNoHalf x qs → (AgreeOneByOne ps qs ↔ All) → IsTrue false ↔ All
no_half All ps qs rest x first none same = search (arith, never)
