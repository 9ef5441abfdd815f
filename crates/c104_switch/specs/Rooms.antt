-- How many more tokens an input could grant.
use Rattle.{c104_link.specs.Buffers.Incoming, c104_switch.specs.Switch.Switch}
use Rattle.std.specs.{Option.option_map, Prelude.{Option, length, slice_get, ℕ, ◌+◌, ◌-◌}}

-- how many more tokens a buffer could grant: as many as it has room for, beside those that it holds and has granted
abbrev pub room_left : {A : Type 0} → Incoming A → ℕ
room_left b = b.cap - (length b.items + b.granted)

-- the same of the input of link l, where there is one
abbrev pub link_room : {A : Type 0} → Switch A → ℕ → Option ℕ
link_room s l = option_map (λ p. room_left p.buffer) (slice_get s.inputs l)
