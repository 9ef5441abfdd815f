-- The table of wires: how long its lists are, and what stands at the place of a port.
use Rattle.{c104_node.specs.declared.ends.End.End, c104_plan.specs.{Plans.Plan, Wiring.peer, declared.ports.Port.Port}}
use Rattle.c104_run.{proofs.WiredPorts.some_mapped, specs.{Ends.end_of, FarEnds.{far_end, link_ends, terminal_ends}, Rounds.is_wired}}
use Rattle.std.proofs.Common.{List, Option, ap, arith, get_or, is_some, length, ℕ, ◌%◌, ◌*◌, ◌+◌, ◌/◌, ◌<◌, ◌∙◌, ◌≡◌}
use Rattle.std.{proofs.lemmas.List.{FromFn.{get_or-map-range_with_len, length-range_with_len}, length-map}, specs.List.range_with_len}

module _ (plan : Plan) (ends : List (Option End)) where
  -- the far end that stands at a place of the table of links
  abbrev at_place : ℕ → Option End
  at_place place = far_end plan (Port.Switch (place / 32) (place % 32))

  abbrev at_terminal : ℕ → Option End
  at_terminal t = far_end plan (Port.Terminal t)

  pub links_counted : ends ≡ link_ends plan → length ends ≡ length plan.switches * 32
  links_counted is = ap length is ∙ length-map (range_with_len 0 (length plan.switches * 32)) at_place ∙ length-range_with_len 0 (length plan.switches * 32)

  pub terminals_counted : ends ≡ terminal_ends plan → length ends ≡ length plan.terminals
  terminals_counted is = ap length is ∙ length-map (range_with_len 0 (length plan.terminals)) at_terminal ∙ length-range_with_len 0 (length plan.terminals)

  -- the far end at a link
  pub link_at : ends ≡ link_ends plan → (s l : ℕ) (d : Option End) → s < length plan.switches → l < 32 → get_or ends (s * 32 + l) d ≡ far_end plan (Port.Switch s l)
  link_at is s l d inside below = search (arith, get_or-map-range_with_len)

  -- the far end at a terminal
  pub terminal_at : ends ≡ terminal_ends plan → (t : ℕ) (d : Option End) → t < length plan.terminals → get_or ends t d ≡ far_end plan (Port.Terminal t)
  terminal_at is t d inside = ap (λ xs. get_or xs t d) is ∙ get_or-map-range_with_len at_terminal 0 (length plan.terminals) t t d inside (omega arith)

  -- whether a link is wired, by what stands at its place
  pub wired_at : ends ≡ link_ends plan → (s l : ℕ) (d : Option End) → s < length plan.switches → l < 32 → is_some (get_or ends (s * 32 + l) d) ≡ is_wired plan (Port.Switch s l)
  wired_at is s l d inside below = ap is_some (link_at is s l d inside below) ∙ some_mapped (end_of plan) (peer plan (Port.Switch s l))
