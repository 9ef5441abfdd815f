use Rattle.std.proofs.Common.{List, ap, append_assoc, drop, length, sym, take, take-append-drop, ℕ, ◌++◌, ◌-◌, ◌∙◌, ◌≡◌}
use Rattle.std.proofs.{KnownBytes.Appends-trans, lemmas.List.take_rest}

-- the front of the rest goes over to what was written
moves_front : (bytes written rest : List ℕ) (n : ℕ) → bytes ≡ written ++ rest → bytes ≡ (written ++ take n rest) ++ take (length rest - n) (drop n rest)
moves_front bytes written rest n split =
    split ∙ ap (λ xs. written ++ xs) (sym (take-append-drop n rest)) ∙ sym (append_assoc written (take n rest) (drop n rest)) ∙ ap (λ xs. (written ++ take n rest) ++ xs) (sym (take_rest rest n))

pub loop-writer-preserved : Rattle.c104_stream.proofs.writing.write_front.Goals.loop-writer-preserved
loop-writer-preserved g c =
    let (written, split, grew) = c.loop-writer.invariant in
    let rest = c.loop-writer.rest.now in
    let n = c.in-Ok.count in
    (written ++ take n rest, moves_front _ written rest n split, Appends-trans _ _ _ _ _ grew c.in-Ok.ensures.bytes)
