-- Ports, and functions of ports that are changed at one.
use Rattle.{c104_net.proofs.PacketInvariant.is_at, c104_plan.proofs.PortLemmas.{cases_port, is_port-ne, is_port-refl, is_port-true}}
use Rattle.{c104_plan.specs.{Ports.is_port, declared.ports.Port.Port}, std.proofs.Common.{None, Option, Some, ap, false, if◌then◌else◌}}
use Rattle.std.proofs.{Common.{refl, subst, sym, true, ⊎_elim, ◌∙◌, ◌≡◌}, lemmas.Bool.true≢false}

-- f, changed at one port
abbrev pub at : {X : Type 0} → (Port → X) → Port → X → Port → X
at f P v Q = if is_port Q P then v else f Q

pub at_same : {X : Type 0} (f : Port → X) (P : Port) (v : X) → at f P v P ≡ v
at_same f P v = rw (is_port-refl P) refl

pub at_other : {X : Type 0} (f : Port → X) (P Q : Port) (v : X) → is_port Q P ≡ false → at f P v Q ≡ f Q
at_other f P Q v h = rw h refl

-- a claim on each port, at one and at the others
pub each_port : {F : Port → Type 0} (Q : Port) → (is_port Q Q ≡ true → F Q) → ((P : Port) → is_port P Q ≡ false → F P) → (P : Port) → F P
each_port {F} Q here there P = ⊎_elim (λ (e : P ≡ Q). subst F (sym e) (here (is_port-refl Q))) (λ h. there P h) (cases_port P Q)

-- a place is at one port alone
pub is_at_one : (o : Option Port) (P Q : Port) → is_at o Q ≡ true → is_port P Q ≡ false → is_at o P ≡ false
is_at_one None P Q h k = refl
is_at_one (Some R) P Q h k = let e : R ≡ Q = is_port-true R Q h in ⊎_elim (λ (f : R ≡ P). absurd (true≢false (sym (is_port-refl P) ∙ ap (is_port P) (sym f ∙ e) ∙ k))) (λ d. d) (cases_port R P)

pub is_port-comm : (P Q : Port) → is_port P Q ≡ false → is_port Q P ≡ false
is_port-comm P Q h = is_port-ne Q P (λ (e : Q ≡ P). true≢false (sym (is_port-refl P) ∙ ap (is_port P) (sym e) ∙ h))

-- a claim on each port, at two and at the others
pub each_port_of_two : {F : Port → Type 0} (Q R : Port) → (is_port Q Q ≡ true → F Q) → (is_port R R ≡ true → F R) → ((P : Port) → is_port P Q ≡ false → is_port P R ≡ false → F P) → (P : Port) → F P
each_port_of_two {F} Q R one two there P = ⊎_elim (λ (e : P ≡ Q). subst F (sym e) (one (is_port-refl Q))) (λ h. ⊎_elim (λ (e : P ≡ R). subst F (sym e) (two (is_port-refl R))) (λ k. there P h k) (cases_port P R)) (cases_port P Q)
