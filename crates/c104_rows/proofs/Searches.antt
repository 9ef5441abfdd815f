-- A search that is limited, step by step: what is left of it, from its first step to its last.
use Rattle.{c104_check.specs.declared.ports.SwitchPort.SwitchPort, c104_node.specs.Tagged.TaggedToken, c104_rows.specs.Holders.after_trail}
use Rattle.c104_rows.specs.{Holders.{end_or, first_end, packet_from, trail_of}, Senders.{after_fit, count_from, counted, fit_of}}
use Rattle.c104_rows.specs.{Senders.sending_before, Waits.{blocker, claim_blocker, claim_or, meets, meets_by, wait_of}}
use Rattle.{c104_run.specs.NetRecords.NetRecord, std.proofs.Common.{None, Option, ap, arith, false, suc, ℕ, ◌+◌, ◌-◌, ◌<◌, ◌≡◌, ◌≤◌}}

-- how many packets there are
pub count_step : (sizes : ℕ → Option ℕ) (n k : ℕ) → k < n → count_from sizes (n - k) k ≡ counted (sizes k) k (count_from sizes (n - (k + 1)) (k + 1))
unfolding count_from
count_step sizes n k below = let more : n - k ≡ suc (n - (k + 1)) = omega (arith, below) in ap (λ m. count_from sizes m k) more

pub count_end : (sizes : ℕ → Option ℕ) (n k : ℕ) → n ≤ k → count_from sizes (n - k) k ≡ k
unfolding count_from
count_end sizes n k past = let none : n - k ≡ 0 = omega (arith, past) in ap (λ m. count_from sizes m k) none

-- the packet in which the first of the tokens stands that wait
pub before_step : (sizes : ℕ → Option ℕ) (n k left : ℕ) → k < n → sending_before sizes (n - k) left ≡ after_fit (fit_of (sizes (n - (k + 1))) left) (n - (k + 1)) (sending_before sizes (n - (k + 1)))
before_step sizes n k left below = let more : n - k ≡ suc (n - (k + 1)) = omega (arith, below) in ap (λ m. sending_before sizes m left) more

pub before_end : (sizes : ℕ → Option ℕ) (n k left : ℕ) → n ≤ k → sending_before sizes (n - k) left ≡ None
before_end sizes n k left past = let none : n - k ≡ 0 = omega (arith, past) in ap (λ m. sending_before sizes m left) none

-- the packet of the first terminator
pub end_step : (tokens : ℕ → Option TaggedToken) (n k : ℕ) → k < n → first_end tokens (n - k) k ≡ end_or (tokens k) (first_end tokens (n - (k + 1)) (k + 1))
unfolding first_end
end_step tokens n k below = let more : n - k ≡ suc (n - (k + 1)) = omega (arith, below) in ap (λ m. first_end tokens m k) more

pub end_end : (tokens : ℕ → Option TaggedToken) (n k : ℕ) → n ≤ k → first_end tokens (n - k) k ≡ None
unfolding first_end
end_end tokens n k past = let none : n - k ≡ 0 = omega (arith, past) in ap (λ m. first_end tokens m k) none

-- the packet that an input is at
pub packet_step : (r : NetRecord) (n k : ℕ) (x : SwitchPort) → k < n → packet_from r (n - k) x ≡ after_trail (trail_of r x) (packet_from r (n - (k + 1)))
unfolding packet_from
packet_step r n k x below = let more : n - k ≡ suc (n - (k + 1)) = omega (arith, below) in ap (λ m. packet_from r m x) more

pub packet_end : (r : NetRecord) (n k : ℕ) (x : SwitchPort) → n ≤ k → packet_from r (n - k) x ≡ None
unfolding packet_from
packet_end r n k x past = let none : n - k ≡ 0 = omega (arith, past) in ap (λ m. packet_from r m x) none

-- the input that a header's input waits for
pub claim_step : (r : NetRecord) (x : SwitchPort) (n k : ℕ) → k < n → claim_blocker r x (n - k) k ≡ claim_or r x.switch k (wait_of r x k) (claim_blocker r x (n - (k + 1)) (k + 1))
unfolding claim_blocker
claim_step r x n k below = let more : n - k ≡ suc (n - (k + 1)) = omega (arith, below) in ap (λ m. claim_blocker r x m k) more

pub claim_end : (r : NetRecord) (x : SwitchPort) (n k : ℕ) → n ≤ k → claim_blocker r x (n - k) k ≡ None
unfolding claim_blocker
claim_end r x n k past = let none : n - k ≡ 0 = omega (arith, past) in ap (λ m. claim_blocker r x m k) none

-- whether an input is met
pub meets_step : (r : NetRecord) (x : SwitchPort) (n k : ℕ) (y : SwitchPort) → k < n → meets r x (n - k) y ≡ meets_by x (blocker r y) (meets r x (n - (k + 1)))
unfolding meets
meets_step r x n k y below = let more : n - k ≡ suc (n - (k + 1)) = omega (arith, below) in ap (λ m. meets r x m y) more

pub meets_end : (r : NetRecord) (x : SwitchPort) (n k : ℕ) (y : SwitchPort) → n ≤ k → meets r x (n - k) y ≡ false
unfolding meets
meets_end r x n k y past = let none : n - k ≡ 0 = omega (arith, past) in ap (λ m. meets r x m y) none
