-- The values that an image keeps are those of registers.
use Rattle.{c104_commands.specs.ImageTexts.IsOfRegister, c104_regs.specs.{Addresses.address_of, KeptValues.{IsKept, IsMapOf, kept_values}}}
use Rattle.{c104_regs.specs.{Registers.{bank_peek, placed_bank}, declared.settings.Settings.Settings}, std.proofs.Common.{All, Bool}}
use Rattle.std.proofs.Common.{IsSome, List, None, Ok, Option, Some, arith, get_or, length, option_map, refl, sym, ℕ, ◌<◌, ◌≡◌}
use Rattle.std.proofs.lemmas.List.Elements.{Contains-get_or}

-- where nothing stands nothing is read
kept_there : (settings : List Settings) (a v : ℕ) → IsKept settings a v → IsSome (address_of a)
kept_there settings a v kept = by_address (address_of a) refl
  where
    by_address : (o : Option _) → address_of a ≡ o → IsSome (address_of a)
    by_address None none = let reads : bank_peek (placed_bank settings) a ≡ Ok v = kept.reads in grind (arith, none, reads)
    by_address (Some x) some = rw some refl

all_there : (settings : List Settings) (values : List (ℕ × ℕ)) → IsMapOf settings values → All IsOfRegister values
all_there settings values map k d small =
    let x : ℕ × ℕ = get_or values k d in
    kept_there settings x.0 x.1 ((map.entries x.0 x.1).0 (Contains-get_or values k d small))

pub values_there : (o : Option (List Settings)) (values : List (ℕ × ℕ)) → Some values ≡ option_map kept_values o → ((settings : List Settings) → o ≡ Some settings → IsMapOf settings (kept_values settings)) → All IsOfRegister values
values_there None values is map = cc
values_there (Some settings) values is map =
    let same : values ≡ kept_values settings = cc in
    rw same (all_there settings (kept_values settings) (map settings refl))
