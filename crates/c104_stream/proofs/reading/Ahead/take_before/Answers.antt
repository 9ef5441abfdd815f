use Rattle.{c104_stream.proofs.KnownReads.took_before, std.proofs.Common.{List, ap, arith, drop, length, min, slice_range, sym, take, ℕ}}
use Rattle.std.proofs.{Common.{◌++◌, ◌+◌, ◌-◌, ◌∙◌, ◌≡◌, ◌≤◌}, Math.Nat.{min-le_left, min-le_right}, lemmas.List.{length-drop, length-take}}
use Rattle.std.proofs.lemmas.List.{length-take-le}

pub returns : Rattle.c104_stream.proofs.reading.Ahead.take_before.Goals.returns
returns c =
    let ahead = c.self.inside in
    let most = c.args.most in
    let piece : List ℕ = c.before_first-piece.result.now in
    let lent : List ℕ = slice_range c.deref.result.now ahead.start ahead.end in
    let is_old : lent ≡ c.args.self.now = ap (λ xs. slice_range xs ahead.start ahead.end) c.deref.ensures.value ∙ c.self.view_is in
    let room : ahead.end - ahead.start ≤ length (drop ahead.start c.deref.result.now) = omega (arith, c.self.invariant, c.deref.ensures.len, length-drop ahead.start c.deref.result.now) in
    let size : length lent ≡ ahead.end - ahead.start = length-take-le (ahead.end - ahead.start) (drop ahead.start c.deref.result.now) room in
    let is_front : take c.min.result lent ≡ take (min most (length c.args.self.now)) c.args.self.now = ap (λ n. take n lent) c.min.ensures ∙ ap (λ xs. take (min most (length xs)) xs) is_old in
    let few : length piece ≤ most = omega (arith, c.before_first-piece.ensures.short, length-take c.min.result lent, c.min.ensures, min-le_left c.min.result (length lent), min-le_left most (length lent)) in
    let short : length piece ≤ length c.args.self.now = omega (arith, c.before_first-piece.ensures.short, length-take c.min.result lent, min-le_right c.min.result (length lent), ap length is_old) in
    let took = took_before c.deref.result.now c.args.self.now _ piece ahead.start ahead.end most c.args.byte is_old (ap length (sym is_old) ∙ size) is_front c.before_first-piece.ensures.value short in
    let rest : List ℕ → List ℕ = λ xs. slice_range xs (ahead.start + length piece) ahead.end in
    (ap length took.0, few, took.1 ∙ ap (λ xs. piece ++ rest xs) c.deref.ensures.value ∙ ap (λ ys. ys ++ rest ahead.piece.items) took.0, c.in_ok-extend_from_slice.ensures.items ∙ ap (λ xs. c.args.text.now.items ++ xs) took.0)
