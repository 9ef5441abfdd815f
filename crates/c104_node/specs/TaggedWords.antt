-- A tagged token in one word: the token in bits 0 to 15, the terminal in bits 16 to 31, the packet's number above them.
--     word_of_tagged x     the word of a tagged token
--     tagged_of_word w     the tagged token of a word
use Rattle.c104_node.specs.{Tagged.TaggedToken, declared.tagged.TaggedToken.TheInside.Inside}
use Rattle.c104_token.specs.declared.tokens.Token.{Token}
use Rattle.std.{proofs.{Common.arith, lemmas.Bool.Decides.nat_tests}, specs.Prelude.{Bool, false, if◌then◌else◌, nat_lt, refl, true, ℕ}}
use Rattle.std.specs.Prelude.{◌%◌, ◌*◌, ◌+◌, ◌/◌, ◌==◌, ◌≡◌, ◌≤◌}

-- the number of a token: that of its byte, or one above those
abbrev pub code_of : Token → ℕ
code_of (Token.Byte b) = b
code_of Token.Eop = 256
code_of Token.Eom = 257

-- the token of such a number
abbrev pub token_of_code : ℕ → Token
token_of_code c = if nat_lt c 256 then Token.Byte c else if c == 256 then Token.Eop else Token.Eom

abbrev pub word_of_tagged : TaggedToken → Inside
word_of_tagged x = record { word = code_of x.token + 65536 * (x.terminal + 65536 * x.number) }

abbrev pub tagged_of_word : Inside → TaggedToken
tagged_of_word w = record {
  token = token_of_code (w.word % 65536);
  terminal = w.word / 65536 % 65536;
  number = w.word / 65536 / 65536;
}

-- a word is one of a tagged token
abbrev pub IsTaggedWord : Inside → Type 0
IsTaggedWord w = w.word % 65536 ≤ 257

code_back : (c : ℕ) → c ≤ 257 → code_of (token_of_code c) ≡ c
code_back c most = by_byte (nat_lt c 256) refl
  where
    by_eop : (b : Bool) → (c == 256) ≡ b → nat_lt c 256 ≡ false → code_of (if b then Token.Eop else Token.Eom) ≡ c
    by_eop true is above = grind (arith, nat_tests)
    by_eop false is above = grind (arith, nat_tests)

    by_byte : (b : Bool) → nat_lt c 256 ≡ b → code_of (if b then Token.Byte c else if c == 256 then Token.Eop else Token.Eom) ≡ c
    by_byte true is = refl
    by_byte false is = by_eop (c == 256) refl is

-- the word of the token that a word stands for is this word
pub word_back : (w : Inside) → IsTaggedWord w → word_of_tagged (tagged_of_word w) ≡ w
word_back w is =
    let code : code_of (token_of_code (w.word % 65536)) ≡ w.word % 65536 = code_back (w.word % 65536) is in
    let whole : code_of (token_of_code (w.word % 65536)) + 65536 * (w.word / 65536 % 65536 + 65536 * (w.word / 65536 / 65536)) ≡ w.word = rw code (omega arith) in
    rw whole refl
