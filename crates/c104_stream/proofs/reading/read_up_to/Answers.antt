use Rattle.{c104_stream.{proofs.KnownReads.took_more, specs.Reading.GivesByte}, std.proofs.Common.{[], arith, drop, subst, sym, take, ◌++◌}}
use Rattle.std.{proofs.{Common.{◌+◌, ◌-◌, ◌∷◌, ◌≡◌, ◌≤◌}, lemmas.List.{length-append, length-take}}, specs.Io.KnownBytes.Consumes}
use Rattle.std.specs.Io.KnownBytes.{prepend_known}

pub loop-ahead-preserved : Rattle.c104_stream.proofs.reading.read_up_to.Goals.loop-ahead-preserved
loop-ahead-preserved g c =
    let left = g.R.Read.remaining in
    let old = left c.args.reader.now in
    let new = left c.next_byte.new.reader in
    let most = c.saturating_sub.result in
    let gave = subst (GivesByte (prepend_known c.loop-ahead.ahead (left c.loop-ahead.reader)) (prepend_known c.next_byte.new.self new)) c.in-Some.is c.in_ok-byte.ensures in
    let took = took_more old (left c.loop-ahead.reader) new c.loop-ahead.ahead c.next_byte.new.self c.loop-ahead.bytes.items c.in-Some.byte most c.loop-ahead.invariant.1 gave in
    let text : c.take.new.text.items ≡ (c.loop-ahead.bytes.items ++ c.in-Some.byte ∷ []) ++ take most c.next_byte.new.self = search arith in
    let behind : c.take.new.self ≡ drop most c.next_byte.new.self = c.in_ok-take.ensures.0 in
    (search (arith, length-append, length-take), subst (λ xs. Consumes old (prepend_known c.take.new.self new) xs) (sym text) (subst (λ xs. Consumes old (prepend_known xs new) ((c.loop-ahead.bytes.items ++ c.in-Some.byte ∷ []) ++ take most c.next_byte.new.self)) (sym behind) took))
