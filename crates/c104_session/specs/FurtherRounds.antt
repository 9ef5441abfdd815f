-- A round that is done unless the network stands still, what such rounds come to, and what is kept of them.
use Rattle.{c104_event.specs.declared.faults.EventFault.EventFault, c104_net.specs.MeteredRecords.at_meter}
use Rattle.{c104_node.specs.declared.tagged.TaggedToken.TaggedToken, c104_rows.specs.Standing.is_still, c104_run.specs.Meters.Sees}
use Rattle.{c104_run.specs.{NetRecords.NetRecord, declared.words.Words.Words}, c104_session.specs.{Driven.Driving, Keepers.Keeping}}
use Rattle.c104_session.specs.{Keepers.rounds_kept, Leavings.LeavesRounds, Settling.{after_round, after_rounds, rounds_at_most}}
use Rattle.c104_session.specs.Settling.{rounds_to_rest}
use Rattle.std.specs.Prelude.{Bool, Err, Ok, Result, false, suc, true, ℕ, ◌<◌, ◌≡◌, ◌⊎◌}

-- a round was done, but not where the network stands still; or a fault stopped it, or there is no memory after some of its events
abbrev pub DoesFurther : NetRecord → Result Bool EventFault → NetRecord → Type 0
DoesFurther net (Ok true) after = (is_still net.network ≡ false) × (after_round net ≡ (Ok tt, after))
DoesFurther net (Ok false) after = (is_still net.network ≡ true) × (after ≡ net)
DoesFurther net (Err f) after =
    (is_still net.network ≡ false)
    × ((after_round net ≡ (Err f, after)) ⊎ ((f ≡ EventFault.NoMemory) × LeavesRounds Words.Zero net 1 after))

-- what rounds come to that were to go on until the network stands still: how many there were, or a fault, or no memory
abbrev pub Settles : NetRecord → Result ℕ EventFault → NetRecord → Type 0
Settles net (Ok n) after =
    (n ≡ rounds_to_rest net) × (after_rounds net n ≡ (Ok tt, after)) × (n < rounds_at_most net → is_still after.network ≡ true)
Settles net (Err f) after =
    (after_rounds net (rounds_to_rest net) ≡ (Err f, after))
    ⊎ ((f ≡ EventFault.NoMemory) × LeavesRounds Words.Zero net (rounds_to_rest net) after)

-- such a round of a driver is the first of n + 1: these leave it as the other n do, from the network behind it
abbrev pub DrivesFurther : {D : Type 0} → Driving D → D → NetRecord → Result Bool EventFault → D → NetRecord → Type 0
DrivesFurther drives old net (Ok true) new after =
    (drives.rounds old net Words.Zero 1 ≡ new)
    × ((n : ℕ) → drives.rounds old net Words.Zero (suc n) ≡ drives.rounds new after Words.Zero n)
DrivesFurther drives old net (Ok false) new after = (drives.rounds old net Words.Zero 0 ≡ old) × (new ≡ old)
DrivesFurther drives old net (Err f) new after =
    ((n : ℕ) → drives.rounds old net Words.Zero (suc n) ≡ new) ⊎ (f ≡ EventFault.NoMemory)

-- the same of a keeper
abbrev pub KeepsFurther : {M : Type 0} → Sees M TaggedToken → Keeping M → NetRecord → M → Result Bool EventFault → NetRecord → M → Type 0
KeepsFurther sees keeps net old (Ok true) after new =
    (rounds_kept sees keeps Words.Zero 1 (at_meter net old) ≡ new)
    × ((n : ℕ) → rounds_kept sees keeps Words.Zero (suc n) (at_meter net old) ≡ rounds_kept sees keeps Words.Zero n (at_meter after new))
KeepsFurther sees keeps net old (Ok false) after new = new ≡ old
KeepsFurther sees keeps net old (Err f) after new =
    ((n : ℕ) → rounds_kept sees keeps Words.Zero (suc n) (at_meter net old) ≡ new) ⊎ (f ≡ EventFault.NoMemory)
