-- The texts of a summary's lines, by the parts that are written.
use Rattle.{c104_node.specs.declared.origins.Origin.Origin, c104_plan.specs.{Plans.Plan, PortTexts.terminal_name}}
use Rattle.{c104_script.specs.Texts.token_text, c104_session.specs.Shown.{byte_word, line_text, lines_text, origin_text, packet_line}}
use Rattle.{c104_session.specs.{Shown.tokens_text, declared.summary_text.SummaryLine.SummaryLine}, c104_token.specs.Packets.packet_tokens}
use Rattle.c104_token.specs.{Text.mark_word, Tokens.end_token, declared.{packets.Packet.Packet, tokens.{Mark.Mark, Token.TheVariants.Byte}}}
use Rattle.{c104_token.specs.declared.tokens.Token.Token, std.proofs.Common.{List, Option, Some, [], ap, arith, codes, decimal, flat_map}}
use Rattle.std.{proofs.{Common.{map, refl, sym, ℕ, ◌++◌, ◌∙◌, ◌∷◌, ◌≡◌}, lemmas.Grind.flat_map-append}, specs.Prelude.option_to_list}
use mathlib.Core.List.{append-nil}

-- a space stands before whatever follows a token
after_one : (x : Token) (bytes : List ℕ) (end : Token) → tokens_text (x ∷ (map Byte bytes ++ end ∷ [])) ≡ token_text x ++ 32 ∷ tokens_text (map Byte bytes ++ end ∷ [])
after_one x [] end = refl
after_one x (b ∷ bytes) end = refl

of_end : (m : Mark) → tokens_text (end_token m ∷ []) ≡ mark_word m
of_end m = search arith

of_bytes : (bytes : List ℕ) (m : Mark) → tokens_text (map Byte bytes ++ end_token m ∷ []) ≡ flat_map byte_word bytes ++ mark_word m
of_bytes [] m = of_end m
of_bytes (b ∷ bytes) m = after_one (Byte b) bytes (end_token m) ∙ ap (λ text. byte_word b ++ text) (of_bytes bytes m)

-- the words of the bytes and that of the mark, where these are they, are the text of the tokens
pub tokens_are : (packet : Packet) (bytes mark : List ℕ) → bytes ≡ packet.bytes → mark ≡ mark_word packet.mark → flat_map byte_word bytes ++ mark ≡ tokens_text (packet_tokens packet)
tokens_are packet bytes mark same is = search (arith, flat_map, of_bytes)

-- where a packet came from, by the parts of its text
pub origin_is : (plan : Plan) (origin : Option Origin) (it : Origin) (name number : List ℕ) → origin ≡ Some it → name ≡ terminal_name plan it.terminal → number ≡ decimal it.number → codes " from " ++ (name ++ (codes " " ++ number)) ≡ flat_map (origin_text plan) (option_to_list origin)
origin_is plan origin it name number is named numbered =
    ap (λ text. codes " from " ++ (text ++ (codes " " ++ number))) named
    ∙ ap (λ text. codes " from " ++ (terminal_name plan it.terminal ++ (codes " " ++ text))) numbered
    ∙ sym (append-nil (origin_text plan it))
    ∙ ap (λ o. flat_map (origin_text plan) (option_to_list o)) (sym is)

-- what stands in a line behind its name, behind the colon, and behind the packet
abbrev pub after_packet : Plan → SummaryLine → List ℕ
after_packet plan line = flat_map (origin_text plan) (option_to_list line.origin) ++ codes "\n"

abbrev pub after_colon : Plan → SummaryLine → List ℕ
after_colon plan line = tokens_text (packet_tokens line.packet) ++ after_packet plan line

abbrev pub after_name : Plan → SummaryLine → List ℕ
after_name plan line = codes ": " ++ after_colon plan line

pub line_is : (plan : Plan) (line : SummaryLine) (name : List ℕ) → name ≡ terminal_name plan line.terminal → name ++ after_name plan line ≡ line_text plan line
line_is plan line name is = ap (λ text. text ++ after_name plan line) is

-- a line joins those that are kept
pub line_joins : (plan : Plan) (old new : List SummaryLine) (line : SummaryLine) (packet : Packet) → new ≡ old ++ line ∷ [] → line.packet ≡ packet → lines_text plan new ≡ lines_text plan old ++ packet_line plan (terminal_name plan line.terminal) (packet_tokens packet) (option_to_list line.origin)
line_joins plan old new line packet joined same =
    ap (lines_text plan) joined
    ∙ flat_map-append (line_text plan) old (line ∷ [])
    ∙ ap (λ text. lines_text plan old ++ text) (append-nil (line_text plan line))
    ∙ ap (λ p. lines_text plan old ++ packet_line plan (terminal_name plan line.terminal) (packet_tokens p) (option_to_list line.origin)) same
