use Rattle.c104_token.{proofs.Reading.{after_byte, at_early_end, at_full, at_other}, specs.Text.{packet_from_words, word_of}}
use Rattle.std.proofs.Common.{Bor, List, ap, drop, inl, map, nat_lt, sym, ℕ, ◌+◌, ◌∙◌}
use Rattle.c104_token.proofs.text.parse_words.Goals as goal

pub loop-place-preserved : goal.loop-place-preserved
loop-place-preserved c =
    ap (λ (bytes : List ℕ). packet_from_words (map word_of (drop (c.loop-place.place + 1) (map (λ (w : Bor (List ℕ)). w.now) c.args.words.now))) bytes) (c.in_ok-push-in-Byte.ensures.items)
    ∙ after_byte c.args.words.now c.loop-place.place _ c.loop-place-test.true c.loop-place.bytes.items c.loop-place.invariant c.in-Byte.byte c.in-Byte.ensures (ap (λ n. nat_lt n 4096) (sym (c.len.ensures ∙ c.loop-place.bytes.ok.0)) ∙ sym c.has_room.ensures ∙ c.if-not-has_room.false)

pub returns-then-not-has_room : goal.returns-then-not-has_room
returns-then-not-has_room c = inl (at_full c.args.words.now c.loop-place.place _ c.loop-place-test.true c.loop-place.bytes.items c.loop-place.invariant c.in-Byte.byte c.in-Byte.ensures (ap (λ n. nat_lt n 4096) (sym (c.len.ensures ∙ c.loop-place.bytes.ok.0)) ∙ sym c.has_room.ensures ∙ c.if-not-has_room.true))

pub returns-then-place-words : goal.returns-then-place-words
returns-then-place-words c = inl (at_early_end c.args.words.now c.loop-place.place _ c.loop-place-test.true c.loop-place.bytes.items c.loop-place.invariant c.in-End.mark c.in-End.ensures c.if-place-words.true)

pub returns-in-Other : goal.returns-in-Other
returns-in-Other c = inl (at_other c.args.words.now c.loop-place.place _ c.loop-place-test.true c.loop-place.bytes.items c.loop-place.invariant c.in-Other.ensures)
