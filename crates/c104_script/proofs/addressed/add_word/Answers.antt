use Rattle.{c104_script.proofs.TypedWords.{text_begun, text_continued}, std.proofs.Common.{arith, get_or, ◌≡◌}}
use Rattle.c104_script.proofs.addressed.add_word.Goals as goal

pub returns-in-Word-eq34 : goal.returns-in-Word-eq34
returns-in-Word-eq34 c =
    let first : get_or c.args.word.now 0 0 ≡ 34 = omega arith in
    text_begun c.args.reading c.args.word.now c.quoted.result.now c.args.bytes.now.items _ _ c.in-Word-eq34.is-0 c.in-Word-eq34.len_at_least first c.quoted.ensures c.add_bytes.ensures.small c.requires.few c.add_bytes.ensures.taken

pub returns-in-Text-default : goal.returns-in-Text-default
returns-in-Text-default c =
    text_continued c.args.reading c.args.word.now c.quoted-in-Text-default.result.now c.args.bytes.now.items _ _ c.in-Text-default.is-0 c.quoted-in-Text-default.ensures c.add_text.ensures.small c.requires.few c.add_text.ensures.taken
