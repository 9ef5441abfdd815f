-- A turn and a claim keep what an input has granted and what credit each output has.
use Rattle.c104_link.{proofs.MadeSteps.{at_place_made, given, required}, specs.Buffers.{Incoming, Outgoing, outgoing_put, outgoing_put_all}}
use Rattle.{c104_link.specs.Steps.{require, step_at, ◌>>=◌, ◌>>◌}, c104_run.proofs.BalancePlaces.{lower, raise, seen_kept}}
use Rattle.c104_switch.specs.{Claims.{input_claim, put_header}, Headers.phase_after_header, Switch.{Input, input_accept, input_grant}}
use Rattle.c104_switch.specs.{Turns.{header_turn, input_after_token, input_turn, turn_by_phase}, declared.phase.Phase.Phase}
use Rattle.{c104_switch.specs.declared.phase.Phase.TheVariants.Fresh, c104_token.specs.{Kinds.Kind, Tokens.is_end}, std.proofs.Common.Bool}
use Rattle.std.proofs.Common.{List, Option, Some, [], ap, arith, drop, false, if◌then◌else◌, length, nat_le, nat_lt, refl, slice_get, subst}
use Rattle.std.proofs.Common.{true, ℕ, ◌++◌, ◌+◌, ◌-◌, ◌∷◌, ◌≡◌}
use Rattle.c104_link.specs.Buffers as buffer

-- a number that stays the same in what a step gives under a condition
same_under : {S : Type 0} (f : S → ℕ) (n : ℕ) (b : Bool) (next s : S) → require b >> Some next ≡ Some s → f next ≡ n → f s ≡ n
same_under f n b next s is same = required b (Some next) s is (λ has made. let one : next ≡ s = cc in subst (λ s. f s ≡ n) one same)

module _ {A : Type 0} where
  -- a token that joins an output, or several, leave its credit
  put_keeps : (x : A) (q r : Outgoing A) → outgoing_put x q ≡ Some r → r.credit ≡ q.credit
  put_keeps x q r is = same_under (λ (q : Outgoing A). q.credit) q.credit (nat_lt (length q.items) 8) (record { items = q.items ++ x ∷ []; credit = q.credit }) r is refl

  put_all_keeps : (xs : List A) (q r : Outgoing A) → outgoing_put_all xs q ≡ Some r → r.credit ≡ q.credit
  put_all_keeps xs q r is = same_under (λ (q : Outgoing A). q.credit) q.credit (nat_le (length q.items + length xs) 8) (record { items = q.items ++ xs; credit = q.credit }) r is refl

  -- a header that joins an output, or is deleted
  put_header_keeps : (s : _) (b : List A) (q r : Outgoing A) → put_header s b q ≡ Some r → r.credit ≡ q.credit
  put_header_keeps s b q r is = search (arith, put_all_keeps)

  -- a token that goes out uses one credit
  pub leave_lowers : (q : Outgoing A) (r : A × Outgoing A) → buffer.outgoing_emit q ≡ Some r → r.1.credit ≡ lower q.credit
  leave_lowers q r is = given (slice_get q.items 0) _ r is (λ x here more. same_under (λ (r : A × Outgoing A). r.1.credit) (lower q.credit) (nat_lt 0 q.credit) (x, record { items = drop 1 q.items; credit = q.credit - 1 }) r more refl)

  -- eight more credits
  pub credited_raises : (q r : Outgoing A) → buffer.outgoing_credited q ≡ Some r → r.credit ≡ raise q.credit
  credited_raises q r is = same_under (λ (q : Outgoing A). q.credit) (raise q.credit) (nat_le (q.credit + 8) 64) (record { items = q.items; credit = q.credit + 8 }) r is refl

  -- a token that comes in uses one that was granted
  pub enter_lowers : (x : A) (b c : Incoming A) → buffer.incoming_accept x b ≡ Some c → c.granted ≡ lower b.granted
  enter_lowers x b c is = same_under (λ (b : Incoming A). b.granted) (lower b.granted) (nat_lt 0 b.granted) (record { cap = b.cap; items = b.items ++ x ∷ []; granted = b.granted - 1 }) c is refl

  -- eight more are granted
  pub grant_raises : (b c : Incoming A) → buffer.incoming_grant b ≡ Some c → c.granted ≡ raise b.granted
  grant_raises b c is = same_under (λ (b : Incoming A). b.granted) (raise b.granted) (nat_le (length b.items + b.granted + 8) b.cap) (record { cap = b.cap; items = b.items; granted = b.granted + 8 }) c is refl

  -- the same of an input
  pub accepted_lowers : (x : A) (p r : Input A) → input_accept x p ≡ Some r → r.buffer.granted ≡ lower p.buffer.granted
  accepted_lowers x p r is = search (arith, given, lower, enter_lowers)

  pub granted_raises : (p r : Input A) → input_grant p ≡ Some r → r.buffer.granted ≡ raise p.buffer.granted
  granted_raises p r is = search (arith, given, raise, grant_raises)

  -- the credit of an output
  abbrev pub credit_seen : Outgoing A → Option ℕ
  credit_seen q = Some q.credit

  -- what an input has granted
  abbrev pub granted_seen : Input A → Option ℕ
  granted_seen p = Some p.buffer.granted

  -- what an input and the outputs keep: what is granted, and each credit
  pub record KeepsSides (p : Input A) (qs : List (Outgoing A)) (q : Input A) (rs : List (Outgoing A)) : Type 0 where
    pub granted : q.buffer.granted ≡ p.buffer.granted
    pub credit : (k : ℕ) → (slice_get rs k >>= credit_seen) ≡ (slice_get qs k >>= credit_seen)

  -- outputs of which one changes and keeps its credit
  outputs_keep : (qs : List (Outgoing A)) (i : ℕ) (f : Outgoing A → Option (Outgoing A)) (rs : List (Outgoing A)) → step_at qs i f ≡ Some rs → ((q r : Outgoing A) → f q ≡ Some r → r.credit ≡ q.credit) → (k : ℕ) → (slice_get rs k >>= credit_seen) ≡ (slice_get qs k >>= credit_seen)
  outputs_keep qs i f rs is keeps k = at_place_made qs i f rs is (λ q r here made set. subst (λ rs. (slice_get rs k >>= credit_seen) ≡ (slice_get qs k >>= credit_seen)) set (seen_kept qs i q r here credit_seen (ap Some (keeps q r made)) k))

  -- what a step that was made leaves keeps what its two parts keep
  keeps_made : (p : Input A) (qs : List (Outgoing A)) (q : Input A) (rs : List (Outgoing A)) (r : Input A × List (Outgoing A)) → ◌≡◌ {A = Option (Input A × List (Outgoing A))} (Some (q, rs)) (Some r) → q.buffer.granted ≡ p.buffer.granted → ((k : ℕ) → (slice_get rs k >>= credit_seen) ≡ (slice_get qs k >>= credit_seen)) → KeepsSides p qs r.0 r.1
  keeps_made p qs q rs r is input outputs =
      let same : (q, rs) ≡ r = cc in
      subst (λ (r : Input A × List (Outgoing A)). KeepsSides p qs r.0 r.1) same (record { granted = input; credit = outputs })

  -- a claim
  pub claimed_keeps : (settings : _) (p : Input A) (qs : List (Outgoing A)) (o : ℕ) (phase : Phase (List A)) (r : Input A × List (Outgoing A)) → input_claim settings p qs o phase ≡ Some r → KeepsSides p qs r.0 r.1
  claimed_keeps settings p qs o phase r is = search (arith, required, given, keeps_made, outputs_keep, put_header_keeps)

  -- an input that is one of two that granted the same
  granted_either : (n : ℕ) (b : Bool) (p q : Input A) → p.buffer.granted ≡ n → q.buffer.granted ≡ n → (if b then p else q).buffer.granted ≡ n
  granted_either n b p q one other = search arith

module _ {A : Type 0} (kind : Kind A) where
  -- an input that reads a token of a header
  on_header_keeps : (s : _) (p : Input A) (b : List A) (x : A) → (header_turn kind s p b x).buffer.granted ≡ p.buffer.granted
  on_header_keeps s p b x = granted_either p.buffer.granted (is_end (kind.plain x)) (input_after_token p Fresh false true) (let r = phase_after_header kind s (b ++ x ∷ []) in input_after_token p r.0 r.1 false) refl refl

  -- a turn, by the phase
  by_phase_keeps : (s : _) (word : ℕ) (p : Input A) (qs : List (Outgoing A)) (phase : Phase (List A)) (x : A) (r : Input A × List (Outgoing A)) → turn_by_phase kind s word p qs phase x ≡ Some r → KeepsSides p qs r.0 r.1
  by_phase_keeps s word p qs phase x r is = search (arith, keeps_made, on_header_keeps, given, outputs_keep, put_keeps)

  -- a turn
  pub turn_keeps : (s : _) (word : ℕ) (p : Input A) (qs : List (Outgoing A)) (r : Input A × List (Outgoing A)) → input_turn kind s word p qs ≡ Some r → KeepsSides p qs r.0 r.1
  turn_keeps s word p qs r is = given (slice_get p.buffer.items 0) _ r is (λ x here made. by_phase_keeps s word p qs p.phase x r made)
