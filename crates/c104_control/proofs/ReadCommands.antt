-- A command is read from its bytes, and from no others.
use Rattle.c104_control.specs.{Faults.CommandFault, Reading.{alone, peek_of, poke_of, read_command}, Table.{Command, IsCommand}}
use Rattle.c104_control.specs.{Table.{IsUnknownCode, command_bytes, command_format}, declared.commands.Command.TheVariants.{CPeek, CPoke}}
use Rattle.c104_control.specs.declared.{commands.Command.TheVariants.{Identify, Reset, Start}, faults.CommandFault.TheVariants.UnknownCode}
use Rattle.{c104_control.specs.declared.faults.CommandFault.TheVariants.WrongLength, std.proofs.Common.{Bool, Err, List, Ok, Result, []}}
use Rattle.std.proofs.Common.{ap, arith, false, get_or, if◌then◌else◌, nat_eq, refl, subst, suc, sym, true, zero, ℕ, ◌++◌, ◌<◌, ◌^◌, ◌↔◌}
use Rattle.std.proofs.{Common.{◌∙◌, ◌∷◌, ◌≡◌, ◌≢◌}, lemmas.{Bool.Decides.nat_tests, Nat.from_le_bytes-to_le_bytes_2}}
use Rattle.std.{proofs.lemmas.Nat.{from_le_bytes-to_le_bytes_4, le_bytes_2, le_bytes_4}, specs.Int.{from_le_bytes, to_le_bytes, w16, w32}}

-- what was written is read back
pub read_back : (c : Command) → IsCommand c → read_command (command_bytes c) ≡ Ok c
read_back Start is = refl
read_back Reset is = refl
read_back Identify is = refl
read_back (CPeek a) is = ap (λ n. Ok (CPeek n)) (from_le_bytes-to_le_bytes_2 a is)
read_back (CPoke a v) (is_a, is_v) = rw (from_le_bytes-to_le_bytes_2 a is_a) (rw (from_le_bytes-to_le_bytes_4 v is_v) refl)

-- each byte is below 256
abbrev pub AreBytes : List ℕ → Type 0
AreBytes bytes = (i : ℕ) → get_or bytes i 0 < 256

-- what says that a command was read from these bytes
abbrev pub IsRead : List ℕ → Command → Type 0
IsRead bytes c = IsCommand c × (command_bytes c ≡ bytes)

-- a command, or why bytes are none
abbrev pub Read : Type 0
Read = Result Command CommandFault

same : (d c : Command) → ◌≡◌ {A = Read} (Ok d) (Ok c) → d ≡ c
same d c is = let it : d ≡ c = cc in it

read_as : (d c : Command) (bytes : List ℕ) → ◌≡◌ {A = Read} (Ok d) (Ok c) → IsRead bytes d → IsRead bytes c
read_as d c bytes is was = subst (λ e. IsRead bytes e) (same d c is) was

no_read : (bytes : List ℕ) (c : Command) → ◌≡◌ {A = Read} (Err WrongLength) (Ok c) → IsRead bytes c
no_read bytes c is = cc

alone_read : (code : ℕ) (arguments : List ℕ) (d c : Command) → IsRead (code ∷ []) d → alone d arguments ≡ Ok c → IsRead (code ∷ arguments) c
alone_read code [] d c is at = read_as d c _ at is
alone_read code (b ∷ arguments) d c is at = no_read _ c at

peek_read : (arguments : List ℕ) (c : Command) → AreBytes arguments → peek_of arguments ≡ Ok c → IsRead (4 ∷ arguments) c
peek_read [] c are at = no_read _ c at
peek_read (a ∷ []) c are at = no_read _ c at
peek_read (a ∷ b ∷ []) c are at =
    let below : (a < 256) × (b < 256) = (are 0, are 1) in
    let within : from_le_bytes w16 (a ∷ b ∷ []) < 2 ^ 16 = omega (arith, below) in
    read_as (CPeek (from_le_bytes w16 (a ∷ b ∷ []))) c _ at (within, ap (λ xs. 4 ∷ xs) (le_bytes_2 (a ∷ b ∷ []) _ refl are refl))
peek_read (a ∷ b ∷ d ∷ arguments) c are at = no_read _ c at

joined : (xs xs' ys ys' : List ℕ) → xs ≡ xs' → ys ≡ ys' → 5 ∷ xs ++ ys ≡ 5 ∷ xs' ++ ys'
joined xs xs' ys ys' first second = rw (first, second) refl

poke_read : (arguments : List ℕ) (c : Command) → AreBytes arguments → poke_of arguments ≡ Ok c → IsRead (5 ∷ arguments) c
poke_read [] c are at = no_read _ c at
poke_read (a ∷ []) c are at = no_read _ c at
poke_read (a ∷ b ∷ []) c are at = no_read _ c at
poke_read (a ∷ b ∷ v ∷ []) c are at = no_read _ c at
poke_read (a ∷ b ∷ v ∷ w ∷ []) c are at = no_read _ c at
poke_read (a ∷ b ∷ v ∷ w ∷ x ∷ []) c are at = no_read _ c at
poke_read (a ∷ b ∷ v ∷ w ∷ x ∷ y ∷ []) c are at =
    let below : (a < 256) × (b < 256) = (are 0, are 1) in
    let more : (v < 256) × (w < 256) × (x < 256) × (y < 256) = (are 2, are 3, are 4, are 5) in
    let within_addr : from_le_bytes w16 (a ∷ b ∷ []) < 2 ^ 16 = omega (arith, below) in
    let within_value : from_le_bytes w32 (v ∷ w ∷ x ∷ y ∷ []) < 2 ^ 32 = omega (arith, more) in
    let addr : to_le_bytes w16 (from_le_bytes w16 (a ∷ b ∷ [])) ≡ a ∷ b ∷ [] = le_bytes_2 (a ∷ b ∷ []) _ refl (of_two a b below) refl in
    let value : to_le_bytes w32 (from_le_bytes w32 (v ∷ w ∷ x ∷ y ∷ [])) ≡ v ∷ w ∷ x ∷ y ∷ [] = le_bytes_4 (v ∷ w ∷ x ∷ y ∷ []) _ refl (λ i. are (suc (suc i))) refl in
    read_as (CPoke (from_le_bytes w16 (a ∷ b ∷ [])) (from_le_bytes w32 (v ∷ w ∷ x ∷ y ∷ []))) c _ at ((within_addr, within_value), joined _ _ _ _ addr value)
  where
    of_two : (a b : ℕ) → (a < 256) × (b < 256) → AreBytes (a ∷ b ∷ [])
    of_two a b below zero = below.0
    of_two a b below (suc zero) = below.1
    of_two a b below (suc (suc i)) = omega arith
poke_read (a ∷ b ∷ v ∷ w ∷ x ∷ y ∷ z ∷ arguments) c are at = no_read _ c at

-- by what the first byte is
read_by : (code : ℕ) (arguments : List ℕ) (c : Command) (start reset identify peek poke : Bool) → AreBytes arguments
    → start ≡ nat_eq code 1 → reset ≡ nat_eq code 2 → identify ≡ nat_eq code 3 → peek ≡ nat_eq code 4 → poke ≡ nat_eq code 5
    → (if start then alone Start arguments else (if reset then alone Reset arguments else (if identify then alone Identify arguments else (if peek then peek_of arguments else (if poke then poke_of arguments else Err UnknownCode))))) ≡ Ok c
    → IsRead (code ∷ arguments) c
read_by code arguments c true reset identify peek poke are is_start is_reset is_identify is_peek is_poke at =
    let is : 1 ≡ code = grind (arith, nat_tests) in
    subst (λ k. IsRead (k ∷ arguments) c) is (alone_read 1 arguments Start c (tt, refl) at)
read_by code arguments c false true identify peek poke are is_start is_reset is_identify is_peek is_poke at =
    let is : 2 ≡ code = grind (arith, nat_tests) in
    subst (λ k. IsRead (k ∷ arguments) c) is (alone_read 2 arguments Reset c (tt, refl) at)
read_by code arguments c false false true peek poke are is_start is_reset is_identify is_peek is_poke at =
    let is : 3 ≡ code = grind (arith, nat_tests) in
    subst (λ k. IsRead (k ∷ arguments) c) is (alone_read 3 arguments Identify c (tt, refl) at)
read_by code arguments c false false false true poke are is_start is_reset is_identify is_peek is_poke at =
    let is : 4 ≡ code = grind (arith, nat_tests) in
    subst (λ k. IsRead (k ∷ arguments) c) is (peek_read arguments c are at)
read_by code arguments c false false false false true are is_start is_reset is_identify is_peek is_poke at =
    let is : 5 ≡ code = grind (arith, nat_tests) in
    subst (λ k. IsRead (k ∷ arguments) c) is (poke_read arguments c are at)
read_by code arguments c false false false false false are is_start is_reset is_identify is_peek is_poke at = cc

-- what was read is in the table
pub is_read : (bytes : List ℕ) (c : Command) → AreBytes bytes → read_command bytes ≡ Ok c → IsRead bytes c
is_read [] c are at = cc
is_read (code ∷ arguments) c are at = read_by code arguments c _ _ _ _ _ (λ i. are (suc i)) refl refl refl refl refl at

-- exactly the table's commands are read
pub is_table : (bytes : List ℕ) (c : Command) → AreBytes bytes → (read_command bytes ≡ Ok c) ↔ (IsCommand c × (command_bytes c ≡ bytes))
is_table bytes c are = (is_read bytes c are, λ was. rw (sym was.1) (read_back c was.0))

known : (code k : ℕ) (c : Command) (answer : Result Command CommandFault) → k ≡ code → (command_format c).code ≡ k → (answer ≡ Err UnknownCode → ⊥) → (answer ≡ Err UnknownCode) ↔ ((d : Command) → (command_format d).code ≢ code)
known code k c answer is of_c not_unknown = (λ at. absurd (not_unknown at), λ none. absurd (none c (of_c ∙ is)))

alone_known : (d : Command) (arguments : List ℕ) → alone d arguments ≡ Err UnknownCode → ⊥
alone_known d [] at = cc
alone_known d (b ∷ arguments) at = cc

unknown_by : (code : ℕ) (arguments : List ℕ) (start reset identify peek poke : Bool)
    → start ≡ nat_eq code 1 → reset ≡ nat_eq code 2 → identify ≡ nat_eq code 3 → peek ≡ nat_eq code 4 → poke ≡ nat_eq code 5
    → ((if start then alone Start arguments else (if reset then alone Reset arguments else (if identify then alone Identify arguments else (if peek then peek_of arguments else (if poke then poke_of arguments else Err UnknownCode))))) ≡ Err UnknownCode) ↔ ((d : Command) → (command_format d).code ≢ code)
unknown_by code arguments true reset identify peek poke is_start is_reset is_identify is_peek is_poke = known code 1 Start _ (grind (arith, nat_tests)) refl (alone_known Start arguments)
unknown_by code arguments false true identify peek poke is_start is_reset is_identify is_peek is_poke = known code 2 Reset _ (grind (arith, nat_tests)) refl (alone_known Reset arguments)
unknown_by code arguments false false true peek poke is_start is_reset is_identify is_peek is_poke = known code 3 Identify _ (grind (arith, nat_tests)) refl (alone_known Identify arguments)
unknown_by code arguments false false false true poke is_start is_reset is_identify is_peek is_poke = known code 4 (CPeek 0) _ (grind (arith, nat_tests)) refl (peek_known arguments)
  where
    peek_known : (arguments : List ℕ) → peek_of arguments ≡ Err UnknownCode → ⊥
    peek_known [] at = cc
    peek_known (a ∷ []) at = cc
    peek_known (a ∷ b ∷ []) at = cc
    peek_known (a ∷ b ∷ d ∷ arguments) at = cc
unknown_by code arguments false false false false true is_start is_reset is_identify is_peek is_poke = known code 5 (CPoke 0 0) _ (grind (arith, nat_tests)) refl (poke_known arguments)
  where
    poke_known : (arguments : List ℕ) → poke_of arguments ≡ Err UnknownCode → ⊥
    poke_known [] at = cc
    poke_known (a ∷ []) at = cc
    poke_known (a ∷ b ∷ []) at = cc
    poke_known (a ∷ b ∷ v ∷ []) at = cc
    poke_known (a ∷ b ∷ v ∷ w ∷ []) at = cc
    poke_known (a ∷ b ∷ v ∷ w ∷ x ∷ []) at = cc
    poke_known (a ∷ b ∷ v ∷ w ∷ x ∷ y ∷ []) at = cc
    poke_known (a ∷ b ∷ v ∷ w ∷ x ∷ y ∷ z ∷ arguments) at = cc
unknown_by code arguments false false false false false is_start is_reset is_identify is_peek is_poke = (λ at. none, λ none. refl)
  where
    none : (d : Command) → (command_format d).code ≢ code
    none Start = λ is. grind (arith, nat_tests)
    none Reset = λ is. grind (arith, nat_tests)
    none Identify = λ is. grind (arith, nat_tests)
    none (CPeek a) = λ is. grind (arith, nat_tests)
    none (CPoke a v) = λ is. grind (arith, nat_tests)

-- exactly bytes whose first begins no command are unknown
pub is_unknown : (bytes : List ℕ) → (read_command bytes ≡ Err UnknownCode) ↔ IsUnknownCode bytes
is_unknown [] = (λ at. cc, λ none. absurd none)
is_unknown (code ∷ arguments) = unknown_by code arguments _ _ _ _ _ refl refl refl refl refl
