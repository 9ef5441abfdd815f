use Rattle.c104_check.{proofs.RankSteps.{above_next, above_none, above_one}, specs.{Ranks.{rank_at, rank_in}, Routes.place}}
use Rattle.std.proofs.Common.{ap, arith, ◌*◌, ◌+◌, ◌∙◌, ◌≡◌}
use Rattle.c104_check.proofs.cycles.highest.Goals.{in-Some+else-rank-most, in-Some+then-rank-most, in_default}

pub loop-link-preserved : Rattle.c104_check.proofs.cycles.highest.Goals.loop-link-preserved
loop-link-preserved c =
    let table = c.args.table.now in
    let ranks = c.args.ranks.now in
    let k = c.args.place * 32 + c.loop-link.link in
    let old = c.loop-link.most in
    let new = c.match-table-place.most in
    elim c.match-table-place.branch [
      | in-Some+then-rank-most w ↦
          let d = w.in-Some.dependency in
          let is : new ≡ rank_in ranks d.next = w.most-is ∙ ap (rank_at ranks) w.place.ensures in
          let more = w.if-rank-most.true in
          let rose = w.most-is in
          record {
            above = above_next table ranks c.args.place c.loop-link.link old new c.loop-link.invariant.above (omega (arith, more, rose)) (above_one table ranks k new d w.in-Some.is (omega (arith, is)));
            least = λ limit all. (let one = all (place d.next) in omega (arith, one, is));
          }
      | in-Some+else-rank-most w ↦
          let d = w.in-Some.dependency in
          let same = w.most-is in
          let low = w.if-rank-most.false in
          let is = ap (rank_at ranks) w.place.ensures in
          record {
            above = above_next table ranks c.args.place c.loop-link.link old new c.loop-link.invariant.above (omega (arith, same)) (above_one table ranks k new d w.in-Some.is (omega (arith, low, same, is)));
            least = λ limit all. (let one = c.loop-link.invariant.least limit all in omega (arith, one, same));
          }
      | in_default w ↦
          let same = w.most-is in
          record {
            above = above_next table ranks c.args.place c.loop-link.link old new c.loop-link.invariant.above (omega (arith, same)) (above_none table ranks k new w.in_default.is);
            least = λ limit all. (let one = c.loop-link.invariant.least limit all in omega (arith, one, same));
          }
    ]
