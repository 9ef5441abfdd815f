use Rattle.{c104_lean.proofs.MadeSeats.last_first, c104_tickets.specs.{Tickets.{behind, place_tracks}, declared.views.View.View}}
use Rattle.{c104_turns.proofs.TakenSeats.behind_first, std.proofs.Common.{ap, arith, drop, length, reverse, slice_get, suc, sym, ◌+◌, ◌∙◌}}
use Rattle.std.proofs.{Common.◌≡◌, lemmas.List.length-append}
use Rattle.c104_lean.proofs.making.lock_all.Goals as goal

pub new-requires-clause-stood : goal.new-requires-clause-stood
new-requires-clause-stood g c =
    let taken = behind_first (length c.loop-node.locks.items) g.N.Sharing.before.places c.in-Some.node (reverse c.pop.new.self.items)
    (sym c.loop-node.invariant.stood ∙ last_first c.loop-node.nodes.items c.pop.new.self.items c.in-Some.node c.in-Some.ensures.items) in
    let place : c.len.result ≡ length c.loop-node.locks.items = omega (arith, c.len.ensures, c.loop-node.locks.ok.0) in
    ap (λ k. slice_get g.N.Sharing.before.places k) place ∙ taken.0

pub loop-node-preserved : goal.loop-node-preserved
loop-node-preserved g c =
    let taken = behind_first (length c.loop-node.locks.items) g.N.Sharing.before.places c.in-Some.node (reverse c.pop.new.self.items)
    (sym c.loop-node.invariant.stood ∙ last_first c.loop-node.nodes.items c.pop.new.self.items c.in-Some.node c.in-Some.ensures.items) in
    let longer : length c.push_reserved.new.self.items ≡ length c.loop-node.locks.items + 1 = ap (λ xs. length xs) c.push_reserved.ensures.items ∙ length-append c.loop-node.locks.items _ in
    let fewer : length c.loop-node.nodes.items ≡ suc (length c.pop.new.self.items) = ap (λ xs. length xs) c.in-Some.ensures.items ∙ length-append c.pop.new.self.items _ ∙ omega arith in
    record {
      counted = omega (arith, longer, fewer, c.loop-node.invariant.counted);
      room = omega (arith, longer, fewer, c.push_reserved.ensures.capacity, c.loop-node.invariant.room);
      nodes_room = c.in-Some.ensures.capacity ∙ c.loop-node.invariant.nodes_room;
      pass = c.split-own.ensures.old.0 ∙ c.loop-node.invariant.pass;
      tracks = ap (λ (v : View). v.tracks) c.split-own.ensures.old.1 ∙ ap behind (c.loop-node.invariant.tracks ∙ ap (λ n. place_tracks (length c.loop-node.locks.items) n) fewer)
          ∙ ap (λ k. place_tracks k (length c.pop.new.self.items)) (omega (arith, longer));
      stood = sym taken.1 ∙ ap (λ k. drop k g.N.Sharing.before.places) (sym longer);
    }
