-- A reason that is told holds: it says what is so of the switch.
use Rattle.{c104_link.specs.Buffers.{Incoming, Outgoing}, c104_regs.specs.declared.settings.Settings.Settings}
use Rattle.c104_switch.specs.{Phases.is_stream, ReasonMeanings.{IsClaimReason, IsReason, IsTurnReason}, Reasons.{accept_why, credited_why}}
use Rattle.c104_switch.specs.Reasons.{emit_why, grant_why, has_room, header_why, owned_why, phase_why, switch_why, take_why, turn_why}
use Rattle.c104_switch.specs.{Reasons.{unless, wanted_why, why_at}, Switch.{Input, Phase, Stream, Switch, Want}, Views.owner_from}
use Rattle.c104_switch.specs.declared.{actions.ActionOf.ActionOf, unready.Unready.TheVariants.{CreditFull, NoCredit, NoLink, NoRoom}}
use Rattle.c104_switch.specs.declared.unready.Unready.TheVariants.{NoToken, NotGranted, NotStarted, OutputFull, Owned, WantsOutput}
use Rattle.{c104_switch.specs.declared.unready.Unready.Unready, std.proofs.Common.{Bool, IfSome, IsSomeAnd, List, None, Option, Some, []}}
use Rattle.std.proofs.Common.{arith, false, if◌then◌else◌, inl, inr, length, nat_le, nat_lt, refl, slice_get, subst, suc, true, ℕ, ◌+◌, ◌<◌}
use Rattle.std.proofs.{Common.{◌||◌, ◌∷◌, ◌≡◌, ◌≤◌}, lemmas.{Bool.Decides.nat_tests, Option.slice_get_cases}}

module _ (P : Unready → Type 0) where
  -- the condition doesn't hold, or a later one doesn't
  pub unless_says : (holds : Bool) (reason : Unready) (later : Option Unready) → (holds ≡ false → P reason) → (holds ≡ true → IfSome later P) → IfSome (unless holds reason later) P
  unless_says holds reason later fails goes = search arith

  pub at_says : {X : Type 0} (xs : List X) (l : ℕ) (why : X → Option Unready) → (length xs ≤ l → P NoLink) → ((x : X) → slice_get xs l ≡ Some x → IfSome (why x) P) → IfSome (why_at xs l why) P
  at_says {X} xs l why past here = search (arith, slice_get_cases)

  module _ {A : Type 0} where
    pub accept_says : (b : Incoming A) → (b.granted ≡ 0 → P NotGranted) → IfSome (accept_why b) P
    accept_says b fails = unless_says (nat_lt 0 b.granted) NotGranted None (λ is. fails (grind (arith, nat_tests))) (λ is. tt)

    pub grant_says : (b : Incoming A) → (b.cap < length b.items + b.granted + 8 → P NoRoom) → IfSome (grant_why b) P
    grant_says b fails = unless_says (nat_le (length b.items + b.granted + 8) b.cap) NoRoom None (λ is. fails (grind (arith, nat_tests))) (λ is. tt)

    empty : (xs : List A) → nat_lt 0 (length xs) ≡ false → xs ≡ []
    empty [] is = refl
    empty (x ∷ xs) is = let fails : nat_lt 0 (length (x ∷ xs)) ≡ true = grind (arith, nat_tests) in absurd (cc)

    pub take_says : (b : Incoming A) → (b.items ≡ [] → P NoToken) → IfSome (take_why b) P
    take_says b fails = unless_says (nat_lt 0 (length b.items)) NoToken None (λ is. fails (empty b.items is)) (λ is. tt)

    pub emit_says : (q : Outgoing A) → (q.items ≡ [] → P NoToken) → (0 < length q.items → q.credit ≡ 0 → P NoCredit) → IfSome (emit_why q) P
    emit_says q no_token no_credit = search (arith, unless_says, empty, nat_tests)

    pub credited_says : (q : Outgoing A) → (64 < q.credit + 8 → P CreditFull) → IfSome (credited_why q) P
    credited_says q fails = unless_says (nat_le (q.credit + 8) 64) CreditFull None (λ is. fails (grind (arith, nat_tests))) (λ is. tt)

    full : (qs : List (Outgoing A)) (o : ℕ) → has_room qs o ≡ false → (q : Outgoing A) → slice_get qs o ≡ Some q → 8 ≤ length q.items
    full qs o is q at = let test : has_room qs o ≡ nat_lt (length q.items) 8 = rw at refl in let fails : nat_lt (length q.items) 8 ≡ false = cc in grind (arith, nat_tests)

    phase_says : (qs : List (Outgoing A)) (phase : Phase (List A)) → ((b : List A) (g : ℕ) → phase ≡ Want b g → P (WantsOutput g))
        → ((o : ℕ) → phase ≡ Stream o → ((q : Outgoing A) → slice_get qs o ≡ Some q → 8 ≤ length q.items) → P (OutputFull o)) → IfSome (phase_why qs phase) P
    phase_says qs phase wants streams = search (arith, unless_says)

-- so it is at the place where the element is
and_here : {X : Type 0} (xs : List X) (l : ℕ) (x : X) (P : X → Type 0) → slice_get xs l ≡ Some x → P x → IsSomeAnd (slice_get xs l) P
and_here xs l x P is holds = rw is holds

module _ {A : Type 0} where
  -- the owner that is found streams to the output; it was looked for from n on
  streams_to : (p : Input A) (o : ℕ) (phase : Phase (List A)) → p.phase ≡ phase → is_stream o p.phase ≡ true → p.phase ≡ Stream o
  streams_to p o phase is test = search (arith, nat_tests)

  -- the place of the owner, behind those that were passed
  record OwnerAt (n : ℕ) (ps : List (Input A)) (o k : ℕ) : Type 0 where
    place : ℕ
    is : k ≡ n + place
    owns : IsSomeAnd (slice_get ps place) (λ (p : Input A). p.phase ≡ Stream o)

  owner_next : (n : ℕ) (p : Input A) (ps : List (Input A)) (o k : ℕ) (streams : Bool) → is_stream o p.phase ≡ streams → (owner_from (suc n) ps o ≡ Some k → OwnerAt (suc n) ps o k) → (if streams then Some n else owner_from (suc n) ps o) ≡ Some k → OwnerAt n (p ∷ ps) o k
  owner_next n p ps o k true streams rest found = record { place = 0; is = let same : n ≡ k = cc in omega (arith, same); owns = streams_to p o p.phase refl streams }
  owner_next n p ps o k false streams rest found = let later : OwnerAt (suc n) ps o k = rest found in record { place = suc later.place; is = let at : k ≡ suc n + later.place = later.is in omega (arith, at); owns = later.owns }

  owner_at : (n : ℕ) (ps : List (Input A)) (o k : ℕ) → owner_from n ps o ≡ Some k → OwnerAt n ps o k
  owner_at n [] o k is = absurd (cc is)
  owner_at n (p ∷ ps) o k is = owner_next n p ps o k (is_stream o p.phase) refl (owner_at (suc n) ps o k) is

  owner_says : (ps : List (Input A)) (o k : ℕ) → owner_from 0 ps o ≡ Some k → IsSomeAnd (slice_get ps k) (λ (p : Input A). p.phase ≡ Stream o)
  owner_says ps o k is = let found : OwnerAt 0 ps o k = owner_at 0 ps o k is in let at : k ≡ 0 + found.place = found.is in let same : found.place ≡ k = omega (arith, at) in subst (λ place. IsSomeAnd (slice_get ps place) (λ (p : Input A). p.phase ≡ Stream o)) same found.owns

module _ {A : Type 0} (s : Switch A) where
  abbrev Holds : ActionOf A → Type 0
  Holds a = IfSome (switch_why s a) (IsReason s a)

  enter_holds : (l : ℕ) (x : A) → Holds (ActionOf.Enter l x)
  enter_holds l x = search (arith, at_says, accept_says, and_here)

  leave_holds : (l : ℕ) → Holds (ActionOf.Leave l)
  leave_holds l = search (arith, at_says, emit_says, and_here)

  credit_out_holds : (l : ℕ) → Holds (ActionOf.CreditOut l)
  credit_out_holds l = search (arith, at_says, unless_says, grant_says, and_here)

  credit_in_holds : (l : ℕ) → Holds (ActionOf.CreditIn l)
  credit_in_holds l = search (arith, at_says, credited_says, and_here)

  input_holds : (l word : ℕ) → Holds (ActionOf.Input l word)
  input_holds l word = at_says (IsReason s (ActionOf.Input l word)) s.settings l (λ t. why_at s.inputs l (λ p. unless s.started NotStarted (turn_why s.outputs p)))
      (λ past. inl past)
      (λ t set. at_says (IsReason s (ActionOf.Input l word)) s.inputs l (λ p. unless s.started NotStarted (turn_why s.outputs p))
      (λ past. inr past)
      (λ p is. unless_says (IsReason s (ActionOf.Input l word)) s.started NotStarted (turn_why s.outputs p) (λ fails. fails)
      (λ goes. unless_says (IsReason s (ActionOf.Input l word)) (nat_lt 0 (length p.buffer.items)) NoToken (phase_why s.outputs p.phase)
      (λ none. and_here s.inputs l p (λ (p : Input A). p.buffer.items ≡ []) is (empty (IsReason s (ActionOf.Input l word)) p.buffer.items none))
      (λ some. phase_says (IsReason s (ActionOf.Input l word)) s.outputs p.phase
      (λ b g wants. and_here s.inputs l p (λ p. IsTurnReason s.outputs p (WantsOutput g)) is (b, wants))
      (λ o streams no_room. and_here s.inputs l p (λ p. IsTurnReason s.outputs p (OutputFull o)) is (streams, no_room))))))

  module _ (i o : ℕ) (p : Input A) (t : Settings) (q : Outgoing A) (is : slice_get s.inputs i ≡ Some p) (set : slice_get s.settings o ≡ Some t) (at : slice_get s.outputs o ≡ Some q) where
    abbrev Says : Unready → Type 0
    Says = IsReason s (ActionOf.Claim i o)

    claims : (reason : Unready) → IsClaimReason s o p reason → IsSomeAnd (slice_get s.inputs i) (λ p. IsClaimReason s o p reason)
    claims reason holds = and_here s.inputs i p (λ p. IsClaimReason s o p reason) is holds

    kept : (room : Bool) → (t.delete_header || room) ≡ false → t.delete_header ≡ false
    kept room is = search arith

    short : (room : Bool) → (t.delete_header || room) ≡ false → room ≡ false
    short room is = search arith

    header_says : (b : List A) (g : ℕ) → p.phase ≡ Want b g → IfSome (header_why t b q) Says
    header_says b g wants = search (arith, unless_says, and_here, short, nat_tests)

    owned_says : (b : List A) (g : ℕ) → p.phase ≡ Want b g → (owner : Option ℕ) → owner_from 0 s.inputs o ≡ owner → IfSome (owned_why owner (header_why t b q)) Says
    owned_says b g wants None owner = header_says b g wants
    owned_says b g wants (Some k) owner = claims (Owned k) (owner_says s.inputs o k owner)

    wanted_says : (phase : Phase (List A)) → p.phase ≡ phase → IfSome (wanted_why s.settings o (owner_from 0 s.inputs o) t q phase) Says
    wanted_says phase wants = search (arith, unless_says, owned_says)

  claim_holds : (i o : ℕ) → Holds (ActionOf.Claim i o)
  claim_holds i o = search (arith, at_says, unless_says, wanted_says)

  pub reason_holds : (a : ActionOf A) → IfSome (switch_why s a) (IsReason s a)
  reason_holds (ActionOf.Enter l x) = enter_holds l x
  reason_holds (ActionOf.Leave l) = leave_holds l
  reason_holds (ActionOf.CreditOut l) = credit_out_holds l
  reason_holds (ActionOf.CreditIn l) = credit_in_holds l
  reason_holds (ActionOf.Input l word) = input_holds l word
  reason_holds (ActionOf.Claim i o) = claim_holds i o
  reason_holds (ActionOf.Control bytes) = tt
