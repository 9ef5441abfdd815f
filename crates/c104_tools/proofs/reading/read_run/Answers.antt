use Rattle.c104_tools.proofs.{Asking.err_is, Readings.{reads_all, reads_next, reads_none, reads_stop}, Rests.{numbers_from, numbers_left}}
use Rattle.c104_tools.{proofs.Rests.{numbers_none, numbers_on}, specs.{Outcomes.{ComesTo, any_value, peeks_at}, Ports.Commanded}}
use Rattle.std.{proofs.Common.{Err, Ok, ap, arith, length, subst, ◌+◌, ◌<◌, ◌≡◌, ◌≤◌}, specs.List.range_with_len}
use Rattle.c104_tools.proofs.reading.read_run.Goals as goal

pub loop-i-init : goal.loop-i-init
loop-i-init g c =
    let n = length c.args.values.now in
    reads_all (Commanded g.P.ControlPort.commands g.P.ControlPort.switch_count g.P.ControlPort.shown g.P.ControlPort.unanswered g.P.ControlPort.due) _ (peeks_at c.args.switch (range_with_len c.args.first n)) _ (ap (peeks_at c.args.switch) (numbers_from c.args.first n))

pub loop-i-preserved : goal.loop-i-preserved
loop-i-preserved g c =
    let n = length c.args.values.now in
    let i = c.loop-i.i in
    let low : i < n = omega arith in
    let inside : i < length c.loop-i.values = omega arith in
    reads_next (Commanded g.P.ControlPort.commands g.P.ControlPort.switch_count g.P.ControlPort.shown g.P.ControlPort.unanswered g.P.ControlPort.due) _ _ _ _ _ (peeks_at c.args.switch (numbers_left (c.args.first + (i + 1)) (c.args.first + n))) c.args.switch (c.args.first + i)
    (ap (peeks_at c.args.switch) (numbers_on c.args.first n i low)) c.loop-i.values i c.loop-i.invariant c.in_ok-value.value inside c.in_ok-value.ensures.asked

pub returns-in_err-value-clause-asked : goal.returns-in_err-value-clause-asked
returns-in_err-value-clause-asked g c =
    let n = length c.args.values.now in
    let i = c.loop-i.i in
    let low : i < n = omega arith in
    let f = c.in_err-value.field-0.0 in
    let same : n ≡ length c.loop-i.values = omega arith in
    rw (err_is c.from_residual.result f c.from_residual.ensures)
    (subst (λ k. ComesTo (Commanded g.P.ControlPort.commands g.P.ControlPort.switch_count g.P.ControlPort.shown g.P.ControlPort.unanswered g.P.ControlPort.due) any_value c.args.port.now (peeks_at c.args.switch (range_with_len c.args.first k)) (Err f) c.ask.new.port) same
    (reads_stop (Commanded g.P.ControlPort.commands g.P.ControlPort.switch_count g.P.ControlPort.shown g.P.ControlPort.unanswered g.P.ControlPort.due) _ _ _ _ _ (peeks_at c.args.switch (numbers_left (c.args.first + (i + 1)) (c.args.first + n))) c.args.switch (c.args.first + i)
    (ap (peeks_at c.args.switch) (numbers_on c.args.first n i low)) c.loop-i.values i c.loop-i.invariant f c.in_err-value.ensures.asked))

pub returns-clause-asked : goal.returns-clause-asked
returns-clause-asked g c =
    let n = length c.args.values.now in
    let i = c.loop-i.i in
    let end : i ≡ length c.loop-i.values = omega arith in
    let past : c.args.first + n ≤ c.args.first + i = omega arith in
    let same : n ≡ length c.loop-i.values = omega arith in
    subst (λ k. ComesTo (Commanded g.P.ControlPort.commands g.P.ControlPort.switch_count g.P.ControlPort.shown g.P.ControlPort.unanswered g.P.ControlPort.due) any_value c.args.port.now (peeks_at c.args.switch (range_with_len c.args.first k)) (Ok c.loop-i.values) c.loop-i.port) same
    (reads_none (Commanded g.P.ControlPort.commands g.P.ControlPort.switch_count g.P.ControlPort.shown g.P.ControlPort.unanswered g.P.ControlPort.due) _ _ _ _ c.loop-i.values i (ap (peeks_at c.args.switch) (numbers_none (c.args.first + i) (c.args.first + n) past)) end c.loop-i.invariant)
