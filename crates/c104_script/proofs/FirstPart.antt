-- How the first part of a text is read, byte by byte.
use Rattle.{c104_plan.specs.TextCut.most_bytes, c104_script.proofs.PartsLaw.{is_feed, line_on, lines_on, no_lines}}
use Rattle.c104_script.specs.{Parts.{AreOtherLines, TakesByte, TakesFirstPart, is_script_line, parts, parts_within}, TextLines.is_line}
use Rattle.std.proofs.Common.{Bool, List, None, Option, Some, [], ap, false, if◌then◌else◌, inl, refl, subst, suc, sym, true, ℕ, ◌++◌, ◌==◌}
use Rattle.std.proofs.{Common.{◌∙◌, ◌∷◌, ◌≡◌}, KnownBytes.{Consumes-nil, Consumes-trans}, lemmas.List.append-nil}
use Rattle.std.specs.Io.KnownBytes.{Consumes, IsAtEnd, Keeps}
use mathlib.Core.List.{append_assoc}

-- with a given number of bytes to go, what is left gives the parts of the whole text
abbrev pub GivesParts : ℕ → Option (List ℕ) → Option (List ℕ) → List ℕ → List ℕ → Type 0
GivesParts left None now front line = Unit {0}
GivesParts left (Some text) None front line = ⊥
GivesParts left (Some text) (Some rest) front line = parts text ≡ parts_within left front line rest

-- so it is before the first byte
pub gives_all : (known : Option (List ℕ)) → GivesParts most_bytes known known [] []
unfolding parts
gives_all None = tt
gives_all (Some text) = refl

-- so it is after a byte that did not end the line `script`
pub gives_on : (left less : ℕ) (old now next : Option (List ℕ)) (byte : ℕ) (front line fronts longer : List ℕ) (over : Bool) → over ≡ false → left ≡ suc less → GivesParts left old now front line → Consumes now next (byte ∷ [])
    → ((n : ℕ) (text : List ℕ) → parts_within (suc n) front line (byte ∷ text) ≡ (if over then record { description = fronts; script = text } else parts_within n fronts longer text)) → GivesParts less old next fronts longer
gives_on left less None now next byte front line fronts longer over is_on size gives took steps = tt
gives_on left less (Some text) None next byte front line fronts longer over is_on size gives took steps = absurd gives
gives_on left less (Some text) (Some rest) None byte front line fronts longer over is_on size gives took steps = absurd took
gives_on left less (Some text) (Some rest) (Some more) byte front line fronts longer over is_on size gives took steps =
    gives ∙ ap (λ n. parts_within n front line rest) size ∙ ap (parts_within (suc less) front line) took ∙ steps less more
    ∙ ap (λ t. if t then record { description = fronts; script = more } else parts_within less fronts longer more) is_on

-- the text has ended
pub gives_last : (left : ℕ) (old now new : Option (List ℕ)) (front line taken : List ℕ) → GivesParts left old now front line → Keeps now new → IsAtEnd new
    → ((left : ℕ) → parts_within left front line [] ≡ record { description = taken; script = [] }) → TakesFirstPart old new taken
gives_last left None now new front line taken gives kept end whole = tt
gives_last left (Some text) None new front line taken gives kept end whole = absurd gives
gives_last left (Some text) (Some rest) None front line taken gives kept end whole = absurd kept
gives_last left (Some text) (Some rest) (Some next) front line taken gives kept end whole =
    inl (gives ∙ ap (parts_within left front line) (sym kept ∙ end) ∙ whole left ∙ ap (λ xs. record { description = taken; script = xs }) (sym end))

-- what was read of a text: other lines, and a piece of a line
pub record HasRead (all now : Option (List ℕ)) (front line : List ℕ) : Type 0 where
  pub consumed : Consumes all now (front ++ line)
  pub before : AreOtherLines front
  pub is_line : is_line line ≡ true

pub none_read : (all : Option (List ℕ)) → HasRead all all [] []
none_read all = record { consumed = Consumes-nil all; before = no_lines; is_line = refl }

-- a byte more is read, by whether it is a line feed
read_by : (all now next : Option (List ℕ)) (byte : ℕ) (front line fronts longer : List ℕ) (feed : Bool) → (byte == 10) ≡ feed → HasRead all now front line → Consumes now next (byte ∷ [])
    → fronts ≡ (if feed then front ++ line ++ 10 ∷ [] else front) → longer ≡ (if feed then [] else line ++ byte ∷ []) → (byte ≡ 10 → is_script_line line ≡ false) → HasRead all next fronts longer
read_by all now next byte front line fronts longer true is read took are_fronts is_longer other =
    let is_ten : byte ≡ 10 = is_feed byte is in
    let joined : (front ++ line) ++ byte ∷ [] ≡ fronts ++ longer = ap (λ b. front ++ line ++ b ∷ []) is_ten ∙ sym (append-nil (front ++ line ++ 10 ∷ [])) ∙ ap (λ xs. xs ++ []) (sym are_fronts) ∙ ap (λ xs. fronts ++ xs) (sym is_longer) in
    record {
      consumed = subst (Consumes all next) joined (Consumes-trans all now next (front ++ line) (byte ∷ []) read.consumed took);
      before = subst AreOtherLines (sym are_fronts) (lines_on front line read.before read.is_line (other is_ten));
      is_line = ap is_line is_longer;
    }
read_by all now next byte front line fronts longer false is read took are_fronts is_longer other =
    let joined : (front ++ line) ++ byte ∷ [] ≡ fronts ++ longer = append_assoc front line (byte ∷ []) ∙ ap (λ xs. xs ++ (line ++ byte ∷ [])) (sym are_fronts) ∙ ap (λ xs. fronts ++ xs) (sym is_longer) in
    record {
      consumed = subst (Consumes all next) joined (Consumes-trans all now next (front ++ line) (byte ∷ []) read.consumed took);
      before = subst AreOtherLines (sym are_fronts) read.before;
      is_line = ap is_line is_longer ∙ line_on line byte read.is_line is;
    }

pub read_on : (all now next : Option (List ℕ)) (byte : ℕ) (front line fronts longer : List ℕ) → HasRead all now front line → Consumes now next (byte ∷ []) → TakesByte byte front line fronts longer → HasRead all next fronts longer
read_on all now next byte front line fronts longer read took takes = read_by all now next byte front line fronts longer (byte == 10) refl read took takes.fronts_are takes.line_is takes.other
