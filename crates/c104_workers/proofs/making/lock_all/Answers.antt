use Rattle.{c104_node.specs.Records.{node_start, node_trace}, c104_tickets.specs.{Tickets.{behind, place_tracks}, declared.views.View.View}}
use Rattle.{c104_turns.proofs.TakenSeats.{behind_first, last_first}, std.proofs.Common.{[], ap, arith, drop, length, map, reverse}}
use Rattle.std.proofs.{Common.{slice_get, suc, sym, unwrap_or, ◌+◌, ◌∙◌, ◌∷◌, ◌≡◌}, lemmas.List.length-append}
use Rattle.c104_workers.proofs.making.lock_all.Goals as goal

pub new-requires-clause-start : goal.new-requires-clause-start
new-requires-clause-start g c =
    let taken = behind_first (length c.loop-node.locks.items) g.N.Naming.handed.starts (node_start c.in-Some.node) (map node_start (reverse c.pop.new.self.items))
    (sym c.loop-node.invariant.starts ∙ last_first node_start c.loop-node.nodes.items c.pop.new.self.items c.in-Some.node c.in-Some.ensures.items) in
    let place : c.len.result ≡ length c.loop-node.locks.items = omega (arith, c.len.ensures, c.loop-node.locks.ok.0) in
    ap (λ k. slice_get g.N.Naming.handed.starts k) place ∙ taken.0

pub new-requires-clause-trace : goal.new-requires-clause-trace
new-requires-clause-trace g c =
    let taken = behind_first (length c.loop-node.locks.items) g.N.Naming.handed.before (node_trace c.in-Some.node) (map node_trace (reverse c.pop.new.self.items))
    (sym c.loop-node.invariant.before ∙ last_first node_trace c.loop-node.nodes.items c.pop.new.self.items c.in-Some.node c.in-Some.ensures.items) in
    let place : c.len.result ≡ length c.loop-node.locks.items = omega (arith, c.len.ensures, c.loop-node.locks.ok.0) in
    sym (ap (λ o. unwrap_or o []) (ap (λ k. slice_get g.N.Naming.handed.before k) place ∙ taken.0))

pub loop-node-preserved : goal.loop-node-preserved
loop-node-preserved g c =
    let starts = behind_first (length c.loop-node.locks.items) g.N.Naming.handed.starts (node_start c.in-Some.node) (map node_start (reverse c.pop.new.self.items))
    (sym c.loop-node.invariant.starts ∙ last_first node_start c.loop-node.nodes.items c.pop.new.self.items c.in-Some.node c.in-Some.ensures.items) in
    let before = behind_first (length c.loop-node.locks.items) g.N.Naming.handed.before (node_trace c.in-Some.node) (map node_trace (reverse c.pop.new.self.items))
    (sym c.loop-node.invariant.before ∙ last_first node_trace c.loop-node.nodes.items c.pop.new.self.items c.in-Some.node c.in-Some.ensures.items) in
    let longer : length c.push_reserved.new.self.items ≡ length c.loop-node.locks.items + 1 = ap (λ xs. length xs) c.push_reserved.ensures.items ∙ length-append c.loop-node.locks.items _ in
    let fewer : length c.loop-node.nodes.items ≡ suc (length c.pop.new.self.items) = ap (λ xs. length xs) c.in-Some.ensures.items ∙ length-append c.pop.new.self.items _ ∙ omega arith in
    record {
      counted = omega (arith, longer, fewer, c.loop-node.invariant.counted);
      room = omega (arith, longer, fewer, c.push_reserved.ensures.capacity, c.loop-node.invariant.room);
      nodes_room = c.in-Some.ensures.capacity ∙ c.loop-node.invariant.nodes_room;
      pass = c.split-own.ensures.old.0 ∙ c.loop-node.invariant.pass;
      tracks = ap (λ (v : View). v.tracks) c.split-own.ensures.old.1 ∙ ap behind (c.loop-node.invariant.tracks ∙ ap (λ n. place_tracks (length c.loop-node.locks.items) n) fewer)
          ∙ ap (λ k. place_tracks k (length c.pop.new.self.items)) (omega (arith, longer));
      starts = sym starts.1 ∙ ap (λ k. drop k g.N.Naming.handed.starts) (sym longer);
      before = sym before.1 ∙ ap (λ k. drop k g.N.Naming.handed.before) (sym longer);
    }
