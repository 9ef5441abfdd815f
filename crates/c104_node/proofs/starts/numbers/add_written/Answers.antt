use Rattle.{c104_node.proofs.WrittenValues.{all_values, next_value}, std.proofs.Common.{List, None, Some, ap, append-nil, arith, sym, ℕ}}
use Rattle.std.proofs.Common.{◌++◌, ◌∙◌, ◌≡◌}
use Rattle.c104_node.proofs.starts.numbers.add_written.Goals.{in-Some+in_ok-push, in_default}
use Rattle.c104_node.proofs.starts.numbers.add_written.Goals as goal

pub loop-addr-preserved : goal.loop-addr-preserved
loop-addr-preserved c =
    let next = next_value c.args.settings.now c.args.list.now.items c.loop-addr.list.items c.loop-addr.addr in
    elim c.match-written_value.branch [
      | in-Some+in_ok-push w ↦ rw w.list-is (w.in_ok-push.ensures.items ∙ next (Some w.in-Some.value) c.loop-addr.invariant w.in-Some.ensures)
      | in_default w ↦ rw w.list-is (sym (append-nil c.loop-addr.list.items) ∙ next None c.loop-addr.invariant w.in_default.ensures)
    ]

pub returns : goal.returns
returns c =
    let end : c.loop-addr.addr ≡ 8448 = omega arith in
    c.loop-addr.invariant ∙ ap (λ (xs : List ℕ). c.args.list.now.items ++ xs) (all_values c.args.settings.now c.loop-addr.addr end)
