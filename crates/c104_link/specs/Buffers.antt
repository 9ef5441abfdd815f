-- The two ends of a wire, over any kind of token: an input buffer, which grants credit, and an
-- output buffer, which spends it. A flow-control token grants eight more tokens, and only where the
-- receiver's buffer has room (the data sheet's rule). An input buffer has room for 8, 16, .. 64
-- tokens and an output buffer for 8, and the credit is at most 64 (this emulator).
use Rattle.c104_link.specs.{Steps.{require, ◌>>=◌, ◌>>◌}, declared.{TheConstants.TOKENS_OF_A_GRANT, outgoing.TheConstants.CREDIT_LIMIT}}
use Rattle.c104_link.specs.declared.outgoing.TheConstants.{OUTPUT_CAP}
use Rattle.std.specs.Prelude.{List, Option, Some, [], drop, length, nat_le, nat_lt, slice_get, ℕ, ◌%◌, ◌++◌, ◌+◌, ◌-◌, ◌∷◌, ◌≡◌, ◌≤◌}

-- an input buffer: how many tokens it has room for, those that it holds, from the first, and how
-- many more the other end of the wire may send
pub record Incoming (A : Type 0) : Type 0 where
  pub cap : ℕ
  pub items : List A
  pub granted : ℕ

-- an output buffer: the tokens that it holds, from the first, and how many of them it may send
pub record Outgoing (A : Type 0) : Type 0 where
  pub items : List A
  pub credit : ℕ

-- a capacity that an input buffer may have: 8, 16, .. 64
abbrev pub IsValidCap : ℕ → Type 0
IsValidCap n = (n % TOKENS_OF_A_GRANT ≡ 0) × (TOKENS_OF_A_GRANT ≤ n) × (n ≤ CREDIT_LIMIT)

-- the invariant of an input buffer: it keeps room for all that it has granted
pub record IsWithinCap {A : Type 0} (b : Incoming A) : Type 0 where
  pub room : length b.items + b.granted ≤ b.cap
  pub valid : IsValidCap b.cap

-- the invariant of an output buffer: at most eight tokens, and at most 64 credits
pub record IsWithinLimits {A : Type 0} (q : Outgoing A) : Type 0 where
  pub room : length q.items ≤ OUTPUT_CAP
  pub credit : q.credit ≤ CREDIT_LIMIT

-- a new input buffer: no tokens, and none granted
abbrev pub empty_incoming : {A : Type 0} → ℕ → Incoming A
empty_incoming n = record { cap = n; items = []; granted = 0 }

-- a new output buffer: no tokens, and no credit
abbrev pub empty_outgoing : {A : Type 0} → Outgoing A
empty_outgoing = record { items = []; credit = 0 }

-- an input buffer without a token, which has granted a given number of them
abbrev pub start_incoming : {A : Type 0} → ℕ → ℕ → Incoming A
start_incoming n granted = record { cap = n; items = []; granted = granted }

-- an output buffer without a token, which may send a given number of them
abbrev pub start_outgoing : {A : Type 0} → ℕ → Outgoing A
start_outgoing credit = record { items = []; credit = credit }

-- eight more tokens are granted, where there is room for all that would then be granted
abbrev pub incoming_grant : {A : Type 0} → Incoming A → Option (Incoming A)
incoming_grant b = do
  require (nat_le (length b.items + b.granted + TOKENS_OF_A_GRANT) b.cap)
  Some (record { cap = b.cap; items = b.items; granted = b.granted + TOKENS_OF_A_GRANT })

-- a token comes in, where one is granted
abbrev pub incoming_accept : {A : Type 0} → A → Incoming A → Option (Incoming A)
incoming_accept x b = do
  require (nat_lt 0 b.granted)
  Some (record { cap = b.cap; items = b.items ++ x ∷ []; granted = b.granted - 1 })

-- the buffer without its first token; one that holds none stays as it is
abbrev pub without_first : {A : Type 0} → Incoming A → Incoming A
without_first b = record { cap = b.cap; items = drop 1 b.items; granted = b.granted }

-- the first token goes, where there is one
abbrev pub incoming_take : {A : Type 0} → Incoming A → Option (A × Incoming A)
incoming_take b = do
  x ← slice_get b.items 0
  Some (x, without_first b)

-- the buffer without its tokens: what it granted stays
abbrev pub incoming_clear : {A : Type 0} → Incoming A → Incoming A
incoming_clear b = record { cap = b.cap; items = []; granted = b.granted }

-- a token joins, where the buffer holds fewer than eight
abbrev pub outgoing_put : {A : Type 0} → A → Outgoing A → Option (Outgoing A)
outgoing_put x q = do
  require (nat_lt (length q.items) OUTPUT_CAP)
  Some (record { items = q.items ++ x ∷ []; credit = q.credit })

-- several tokens join as a whole, where the buffer then holds at most eight
abbrev pub outgoing_put_all : {A : Type 0} → List A → Outgoing A → Option (Outgoing A)
outgoing_put_all xs q = do
  require (nat_le (length q.items + length xs) OUTPUT_CAP)
  Some (record { items = q.items ++ xs; credit = q.credit })

-- the first token goes out and spends one credit, where there are both
abbrev pub outgoing_emit : {A : Type 0} → Outgoing A → Option (A × Outgoing A)
outgoing_emit q = do
  x ← slice_get q.items 0
  require (nat_lt 0 q.credit)
  Some (x, record { items = drop 1 q.items; credit = q.credit - 1 })

-- a flow-control token comes over the wire: eight more credits, where they are then at most 64
abbrev pub outgoing_credited : {A : Type 0} → Outgoing A → Option (Outgoing A)
outgoing_credited q = do
  require (nat_le (q.credit + TOKENS_OF_A_GRANT) CREDIT_LIMIT)
  Some (record { items = q.items; credit = q.credit + TOKENS_OF_A_GRANT })

-- the buffer without its tokens: its credit stays
abbrev pub outgoing_clear : {A : Type 0} → Outgoing A → Outgoing A
outgoing_clear q = record { items = []; credit = q.credit }
