-- The name of the register at an address, as it is read back.
use Rattle.{c104_plan.specs.Plans.{Plan, switch_number}, c104_script.specs.Script.{place_word, register_line}}
use Rattle.std.specs.{Fmt.decimal, Prelude.{List, Ok, Option, Some, option_map, ℕ, ◌≡◌}}

-- behind any word for a switch, with this link or without one, this name with this row stands for the register at this address
abbrev pub IsReadAs : Option ℕ → List ℕ → Option ℕ → ℕ → Type 0
IsReadAs link name row addr =
    (plan : Plan) (node switch : List ℕ) (s : ℕ) →
    place_word node ≡ Ok (switch, link) → switch_number plan switch ≡ Some s →
    register_line plan node name (option_map decimal row) ≡ Ok (Ok (s, addr))
