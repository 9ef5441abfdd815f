-- An answer is read from its bytes, and from no others.
use Rattle.c104_control.{proofs.ReadCommands.AreBytes, specs.Reading.{answer_alone, answer_with, identity_of, read_reply, refused_of}}
use Rattle.c104_control.specs.Table.{Answer, Command, IsAnswer, IsAnswerTo, IsReply, command_format, device_id, reply_bytes}
use Rattle.c104_control.specs.declared.commands.Command.TheVariants.{CPeek, CPoke, Identify, Reset, Start}
use Rattle.c104_control.specs.declared.replies.Answer.TheVariants.{Identity, Poked, Refused, Started, Value, WasReset}
use Rattle.std.proofs.Common.{Bool, IsTrue, List, None, Option, Some, [], ap, arith, false, if◌then◌else◌, inl, inr, nat_eq, nat_le, refl}
use Rattle.std.proofs.{Common.{subst, suc, sym, true, zero, ℕ, ◌&&◌, ◌<◌, ◌==◌, ◌^◌, ◌↔◌, ◌∷◌, ◌≡◌, ◌≤◌}, lemmas.Bool.Decides.nat_tests}
use Rattle.std.{proofs.lemmas.Nat.{from_le_bytes-to_le_bytes_4, le_bytes_4}, specs.{Int.{from_le_bytes, to_le_bytes, w32}, List.list_any}}

-- the numbers of refusals are those of the table, and of bytes that are no command
refusal_is : (n : ℕ) → 1 ≤ n → n ≤ 7 → IsAnswer (Refused n)
refusal_is zero least most = absurd (none least)
  where
    none : 1 ≤ 0 → ⊥
    none least = omega arith
refusal_is (suc zero) least most = inr (inl refl)
refusal_is (suc (suc zero)) least most = inr (inr refl)
refusal_is (suc (suc (suc zero))) least most = inl (CPeek 0, omega arith, inr (3, refl, refl))
refusal_is (suc (suc (suc (suc zero)))) least most = inl (CPoke 0 0, (omega arith, omega arith), inr (4, refl, refl))
refusal_is (suc (suc (suc (suc (suc zero))))) least most = inl (CPoke 0 0, (omega arith, omega arith), inr (5, refl, refl))
refusal_is (suc (suc (suc (suc (suc (suc zero)))))) least most = inl (CPoke 0 0, (omega arith, omega arith), inr (6, refl, refl))
refusal_is (suc (suc (suc (suc (suc (suc (suc zero))))))) least most = inl (Start, tt, inr (7, refl, refl))
refusal_is (suc (suc (suc (suc (suc (suc (suc (suc n)))))))) least most = absurd (above n most)
  where
    above : (n : ℕ) → suc (suc (suc (suc (suc (suc (suc (suc n))))))) ≤ 7 → ⊥
    above n most = omega arith

-- a reply is an answer to some command, or to bytes that are none
pub is_answer : (a : Answer) → IsReply a → IsAnswer a
is_answer Started is = inl (Start, tt, inl (0, omega arith, refl))
is_answer WasReset is = inl (Reset, tt, inl (0, omega arith, refl))
is_answer (Identity n) is = inl (Identify, tt, inl (0, omega arith, ap Identity is))
is_answer (Value v) is = inl (CPeek 0, omega arith, inl (v, is, refl))
is_answer Poked is = inl (CPoke 0 0, (omega arith, omega arith), inl (0, omega arith, refl))
is_answer (Refused n) is = refusal_is n is.0 is.1

-- the numbers of a command's refusals
numbered : (c : Command) (n : ℕ) → IsTrue (list_any (λ m. m == n) (command_format c).refusals) → (1 ≤ n) × (n ≤ 7)
numbered Start n among = grind (arith, nat_tests)
numbered Reset n among = cc
numbered Identify n among = cc
numbered (CPeek a) n among = grind (arith, nat_tests)
numbered (CPoke a v) n among = grind (arith, nat_tests)

done_reply : (c : Command) (v : ℕ) → v < 2 ^ 32 → IsReply ((command_format c).answer v)
done_reply Start v below = tt
done_reply Reset v below = tt
done_reply Identify v below = refl
done_reply (CPeek a) v below = below
done_reply (CPoke a w) v below = tt

-- a command's answer is a reply
pub answers_reply : (c : Command) (a : Answer) → IsAnswerTo c a → IsReply a
answers_reply c a (inl (v, below, is)) = subst IsReply (sym is) (done_reply c v below)
answers_reply c a (inr (n, among, is)) = subst IsReply (sym is) (numbered c n among)

pub is_reply : (a : Answer) → IsAnswer a → IsReply a
is_reply a (inl (c, is_command, is)) = answers_reply c a is
is_reply a (inr (inl is)) = subst IsReply (sym is) (omega arith, omega arith)
is_reply a (inr (inr is)) = subst IsReply (sym is) (omega arith, omega arith)

-- what was written is read back
identity_back : (n : ℕ) → n ≡ device_id → identity_of n ≡ Some (Identity n)
identity_back n is = subst (λ m. identity_of m ≡ Some (Identity m)) (sym is) refl

refused_back : (n : ℕ) → (1 ≤ n) × (n ≤ 7) → refused_of (n ∷ []) ≡ Some (Refused n)
refused_back n is = by (nat_le 1 n && nat_le n 7) (grind (arith, nat_tests))
  where
    by : (b : Bool) → b ≡ true → (if b then Some (Refused n) else None) ≡ Some (Refused n)
    by true is = refl
    by false is = cc

pub reply_back : (a : Answer) → IsReply a → read_reply (reply_bytes a) ≡ Some a
reply_back Started is = refl
reply_back WasReset is = refl
reply_back (Identity n) is = rw (from_le_bytes-to_le_bytes_4 n (below n is)) (identity_back n is)
  where
    below : (n : ℕ) → n ≡ device_id → n < 2 ^ 32
    below n is = omega arith
reply_back (Value v) is = ap (λ n. Some (Value n)) (from_le_bytes-to_le_bytes_4 v is)
reply_back Poked is = refl
reply_back (Refused n) is = refused_back n is

-- what says that an answer was read from these bytes
abbrev pub IsReadReply : List ℕ → Answer → Type 0
IsReadReply bytes a = IsReply a × (reply_bytes a ≡ bytes)

read_as : (d a : Answer) (bytes : List ℕ) → Some d ≡ Some a → IsReadReply bytes d → IsReadReply bytes a
read_as d a bytes is was = let same : d ≡ a = cc in subst (λ e. IsReadReply bytes e) same was

no_read : (bytes : List ℕ) (a : Answer) → None ≡ Some a → IsReadReply bytes a
no_read bytes a is = cc

alone_read : (code : ℕ) (arguments : List ℕ) (d a : Answer) → IsReadReply (code ∷ []) d → answer_alone d arguments ≡ Some a → IsReadReply (code ∷ arguments) a
alone_read code [] d a is at = read_as d a _ at is
alone_read code (b ∷ arguments) d a is at = no_read _ a at

with_read : (f : ℕ → Option Answer) (code : ℕ) → ((n : ℕ) (e : Answer) → n < 2 ^ 32 → f n ≡ Some e → IsReadReply (code ∷ to_le_bytes w32 n) e)
    → (arguments : List ℕ) (e : Answer) → AreBytes arguments → answer_with f arguments ≡ Some e → IsReadReply (code ∷ arguments) e
with_read f code gives [] e are at = no_read _ e at
with_read f code gives (a ∷ []) e are at = no_read _ e at
with_read f code gives (a ∷ b ∷ []) e are at = no_read _ e at
with_read f code gives (a ∷ b ∷ c ∷ []) e are at = no_read _ e at
with_read f code gives (a ∷ b ∷ c ∷ d ∷ []) e are at =
    let each : (a < 256) × (b < 256) × (c < 256) × (d < 256) = (are 0, are 1, are 2, are 3) in
    let within : from_le_bytes w32 (a ∷ b ∷ c ∷ d ∷ []) < 2 ^ 32 = omega (arith, each) in
    subst (λ xs. IsReadReply (code ∷ xs) e) (le_bytes_4 (a ∷ b ∷ c ∷ d ∷ []) _ refl are refl) (gives _ e within at)
with_read f code gives (a ∷ b ∷ c ∷ d ∷ x ∷ arguments) e are at = no_read _ e at

identity_read : (n : ℕ) (e : Answer) → n < 2 ^ 32 → identity_of n ≡ Some e → IsReadReply (131 ∷ to_le_bytes w32 n) e
identity_read n e below at = by (nat_eq n device_id) refl at
  where
    by : (b : Bool) → b ≡ nat_eq n device_id → (if b then Some (Identity n) else None) ≡ Some e → IsReadReply (131 ∷ to_le_bytes w32 n) e
    by true is at = read_as (Identity n) e _ at (grind (arith, nat_tests), refl)
    by false is at = no_read _ e at

value_read : (n : ℕ) (e : Answer) → n < 2 ^ 32 → Some (Value n) ≡ Some e → IsReadReply (132 ∷ to_le_bytes w32 n) e
value_read n e below at = read_as (Value n) e _ at (below, refl)

refused_read : (arguments : List ℕ) (e : Answer) → refused_of arguments ≡ Some e → IsReadReply (255 ∷ arguments) e
refused_read [] e at = no_read _ e at
refused_read (n ∷ []) e at = by (nat_le 1 n && nat_le n 7) refl at
  where
    by : (b : Bool) → b ≡ (nat_le 1 n && nat_le n 7) → (if b then Some (Refused n) else None) ≡ Some e → IsReadReply (255 ∷ n ∷ []) e
    by true is at = read_as (Refused n) e _ at ((grind (arith, nat_tests), grind (arith, nat_tests)), refl)
    by false is at = no_read _ e at
refused_read (n ∷ m ∷ arguments) e at = no_read _ e at

-- by what the first byte is
read_by : (code : ℕ) (arguments : List ℕ) (a : Answer) (started reset identity value poked refused : Bool) → AreBytes arguments
    → started ≡ nat_eq code 129 → reset ≡ nat_eq code 130 → identity ≡ nat_eq code 131 → value ≡ nat_eq code 132 → poked ≡ nat_eq code 133 → refused ≡ nat_eq code 255
    → (if started then answer_alone Started arguments else (if reset then answer_alone WasReset arguments else (if identity then answer_with identity_of arguments else (if value then answer_with (λ v. Some (Value v)) arguments else (if poked then answer_alone Poked arguments else (if refused then refused_of arguments else None)))))) ≡ Some a
    → IsReadReply (code ∷ arguments) a
read_by code arguments a true reset identity value poked refused are is_started is_reset is_identity is_value is_poked is_refused at =
    let is : 129 ≡ code = grind (arith, nat_tests) in
    subst (λ k. IsReadReply (k ∷ arguments) a) is (alone_read 129 arguments Started a (tt, refl) at)
read_by code arguments a false true identity value poked refused are is_started is_reset is_identity is_value is_poked is_refused at =
    let is : 130 ≡ code = grind (arith, nat_tests) in
    subst (λ k. IsReadReply (k ∷ arguments) a) is (alone_read 130 arguments WasReset a (tt, refl) at)
read_by code arguments a false false true value poked refused are is_started is_reset is_identity is_value is_poked is_refused at =
    let is : 131 ≡ code = grind (arith, nat_tests) in
    subst (λ k. IsReadReply (k ∷ arguments) a) is (with_read identity_of 131 identity_read arguments a are at)
read_by code arguments a false false false true poked refused are is_started is_reset is_identity is_value is_poked is_refused at =
    let is : 132 ≡ code = grind (arith, nat_tests) in
    subst (λ k. IsReadReply (k ∷ arguments) a) is (with_read (λ v. Some (Value v)) 132 value_read arguments a are at)
read_by code arguments a false false false false true refused are is_started is_reset is_identity is_value is_poked is_refused at =
    let is : 133 ≡ code = grind (arith, nat_tests) in
    subst (λ k. IsReadReply (k ∷ arguments) a) is (alone_read 133 arguments Poked a (tt, refl) at)
read_by code arguments a false false false false false true are is_started is_reset is_identity is_value is_poked is_refused at =
    let is : 255 ≡ code = grind (arith, nat_tests) in
    subst (λ k. IsReadReply (k ∷ arguments) a) is (refused_read arguments a at)
read_by code arguments a false false false false false false are is_started is_reset is_identity is_value is_poked is_refused at = cc

is_read : (bytes : List ℕ) (a : Answer) → AreBytes bytes → read_reply bytes ≡ Some a → IsReadReply bytes a
is_read [] a are at = cc
is_read (code ∷ arguments) a are at = read_by code arguments a _ _ _ _ _ _ (λ i. are (suc i)) refl refl refl refl refl refl at

-- exactly the table's answers are read
pub is_table : (bytes : List ℕ) (a : Answer) → AreBytes bytes → (read_reply bytes ≡ Some a) ↔ (IsAnswer a × (reply_bytes a ≡ bytes))
is_table bytes a are = (λ at. let was = is_read bytes a are at in (is_answer a was.0, was.1), λ was. subst (λ xs. read_reply xs ≡ Some a) was.1 (reply_back a (is_reply a was.0)))
