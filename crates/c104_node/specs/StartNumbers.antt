-- Where a node starts, as a list of numbers.
use Rattle.{c104_node.specs.declared.starts.NodeStart.NodeStart, c104_regs.specs.Addresses.{address_of, register_properties}}
use Rattle.c104_regs.specs.{KeptValues.address_end, Settings.reset_settings, Values.{bit_value, register_read, reset_status}}
use Rattle.c104_regs.specs.declared.{addresses.Address.{Address, TheVariants.{AtLink, DeviceId, Started}}, settings.Settings.Settings}
use Rattle.c104_switch.specs.declared.link_start.LinkStart.{LinkStart}
use Rattle.std.specs.{List.{filter_map, flat_map, range_with_len}, Prelude.{List, None, Option, Some, [], if◌then◌else◌, slice_index_or, ℕ}}
use Rattle.std.specs.Prelude.{◌++◌, ◌∷◌}

-- what a switch with these settings reads at an address, where it can be written
abbrev pub written_value : List Settings → ℕ → Option ℕ
written_value settings a = at (address_of a)
  where
    at : Option Address → Option ℕ
    at None = None
    at (Some DeviceId) = None
    at (Some Started) = None
    at (Some (AtLink l r)) =
        if (register_properties r).is_writable
        then Some (register_read (slice_index_or settings l reset_settings) reset_status r)
        else None

-- the same of all addresses, in ascending order
unfoldable pub written_values : List Settings → List ℕ
written_values settings = filter_map (written_value settings) (range_with_len 0 address_end)

-- what was counted at a link, how many tokens may go out, and how many the other end may send
abbrev pub link_start_numbers : LinkStart → List ℕ
link_start_numbers l = l.sunk ∷ l.short ∷ l.credit ∷ l.granted ∷ []

-- of a switch whether it is started, its writable registers by address, and the numbers of each link; of a terminal how
-- many tokens may go out, and how many the other end may send
abbrev pub start_numbers : NodeStart → List ℕ
start_numbers (NodeStart.Switch s) = bit_value s.started 1 ∷ written_values s.settings ++ flat_map link_start_numbers s.links
start_numbers (NodeStart.Terminal t) = t.credit ∷ t.granted ∷ []
