use Rattle.{c104_stream.proofs.KnownReads.took_front, std.proofs.Common.{List, ap, arith, drop, length, slice_range, sym, take, ℕ, ◌++◌}}
use Rattle.std.proofs.{Common.{◌-◌, ◌∙◌, ◌≡◌, ◌≤◌}, lemmas.List.{length-drop, length-take-le}}

pub returns : Rattle.c104_stream.proofs.reading.Ahead.take.Goals.returns
returns c =
    let ahead = c.self.inside in
    let lent : List ℕ = slice_range c.deref.result.now ahead.start ahead.end in
    let is_old : lent ≡ c.args.self.now = ap (λ xs. slice_range xs ahead.start ahead.end) c.deref.ensures.value ∙ c.self.view_is in
    let room : ahead.end - ahead.start ≤ length (drop ahead.start c.deref.result.now) = omega (arith, c.self.invariant, c.deref.ensures.len, length-drop ahead.start c.deref.result.now) in
    let size : length lent ≡ ahead.end - ahead.start = length-take-le (ahead.end - ahead.start) (drop ahead.start c.deref.result.now) room in
    let took = took_front ahead.piece.items lent ahead.start ahead.end c.args.most c.min.result (ap (λ xs. slice_range xs ahead.start ahead.end) (sym c.deref.ensures.value)) size c.min.ensures in
    (took.0 ∙ ap (drop c.args.most) is_old, c.in_ok-extend_from_slice.ensures.items ∙ ap (λ xs. c.args.text.now.items ++ xs) (took.1 ∙ ap (take c.args.most) is_old))
