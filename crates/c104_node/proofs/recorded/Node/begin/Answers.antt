use Rattle.c104_node.{proofs.{BegunRecords.run_kind, BufferSizes.{run_keeps, sized_start, start_sized}}, specs.Records.HasCap}
use Rattle.{c104_node.specs.{Starts.start_node, declared.acts.Entry.Entry}, std.proofs.Common.{ap, arith, length, subst, sym, ◌∙◌, ◌≡◌}}
use Rattle.c104_node.proofs.recorded.Node.begin.Goals as goal

pub write_start-requires : goal.write_start-requires
write_start-requires c = sym (run_kind c.self.inside.wired (start_node c.self.inside.start) c.self.inside.core c.self.inside.trace.items c.self.invariant.run)

stood : (c : goal.After-clear) → c.begin.new.self ≡ start_node c.write_start.new.start
stood c = c.begin.ensures.stands ∙ ap start_node (sym c.write_start.ensures)

-- the run has no entry yet, and the buffers are as large as before
pub invariant_of-self : goal.invariant_of-self
invariant_of-self c = record {
  sized = subst (HasCap c.self.inside.cap) (sym c.write_start.ensures) (sized_start c.self.inside.cap c.self.inside.core
      ((run_keeps c.self.inside.cap c.self.inside.wired (start_node c.self.inside.start) c.self.inside.core c.self.inside.trace.items c.self.invariant.run).1 (start_sized c.self.inside.cap c.self.inside.start c.self.invariant.sized)));
  run = rw c.clear.ensures.items (stood c);
  within = omega (arith, ap (length {A = Entry}) c.clear.ensures.items);
}

pub returns-clause-stands : goal.returns-clause-stands
returns-clause-stands c = stood c
