use Rattle.c104_token.{proofs.Spelling.{gives_accepted, gives_complete}, specs.Text.{GivesPacketOrNoMemory, packet_words, parse_words}}
use Rattle.std.proofs.Common.{Bor, List, ap, map, subst, ℕ, ◌∙◌, ◌≡◌}
use Rattle.c104_token.proofs.text.parse_packet.Goals as goal

-- the words that were cut are the text's
the_words : (c : goal.After-drop-words) → GivesPacketOrNoMemory c.parse_words.result (parse_words (packet_words c.args.text.now))
the_words c =
    let cut : map (λ (w : Bor (List ℕ)). w.now) c.as_slice.result.now ≡ packet_words c.args.text.now = ap (map (λ (w : Bor (List ℕ)). w.now)) c.as_slice.ensures.value ∙ c.in_ok-words.ensures ∙ ap packet_words c.as_bytes.ensures.value in
    let Gives : List (List ℕ) → Type 0 = λ list. GivesPacketOrNoMemory c.parse_words.result (parse_words list) in
    subst Gives cut c.parse_words.ensures

pub returns-clause-accepted : goal.returns-clause-accepted
returns-clause-accepted c = gives_accepted c.args.text.now c.parse_words.result (the_words c)

pub returns-clause-complete : goal.returns-clause-complete
returns-clause-complete c = gives_complete c.args.text.now c.parse_words.result (the_words c)
