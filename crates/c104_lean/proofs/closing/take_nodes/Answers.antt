use Rattle.{c104_lean.{proofs.TakenNodes.all_turned, specs.Closing.node_of}, std.proofs.Common.{[], arith, map, ◌≡◌}}
use Rattle.std.proofs.lemmas.List.{nil_from_length}

pub returns-clause-held : Rattle.c104_lean.proofs.closing.take_nodes.Goals.returns-clause-held
returns-clause-held g c =
    let left = c.loop-node.placed.items in
    let none : left ≡ [] = nil_from_length left (omega (arith, c.in_default.ensures.cases.0, c.loop-node.placed.ok.0)) in
    record {
      placed = c.take_placed-placed.result.items;
      taken = c.take_placed-placed.ensures.held;
      sorted = c.sort_placed.new.placed.items;
      same = c.sort_placed.ensures.same;
      rising = c.sort_placed.ensures.rising;
      are = all_turned left c.loop-node.nodes.items c.reverse.new.self.items (map node_of c.sort_placed.new.placed.items) none
          c.reverse.ensures.items c.loop-node.invariant.are;
    }
