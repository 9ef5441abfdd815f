use Rattle.{c104_crossbar.specs.Groups.has_bit, c104_link.specs.Buffers.outgoing_emit, std.proofs.Common.{false, is_some, slice_get, ℕ}}
use Rattle.std.{proofs.Common.{◌<◌, ◌≡◌, ◌≤◌}, specs.Option.option_map_or}

-- the set has the outputs so far that can send, and no other link
abbrev pub invariant-loop-link : Rattle.c104_switch.proofs.outputs.sending_of.Given.invariant-loop-link
invariant-loop-link g l = record {
  so_far : (k : ℕ) → k < 32 → k < l.link → has_bit l.sending k ≡ option_map_or (λ q. is_some (outgoing_emit q)) (slice_get l.list k) false;
  others : (k : ℕ) → k < 32 → l.link ≤ k → has_bit l.sending k ≡ false;
}
