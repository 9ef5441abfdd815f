-- Of rows that are all as after a reset nothing is told.
use Rattle.{c104_interval.specs.declared.intervals.Row.Row, c104_script.specs.Findings.{is_reset_row, row_text, rows_text}}
use Rattle.std.proofs.Common.{Bool, List, [], ap, drop, if◌then◌else◌, length, refl, sym, take, true, ℕ, ◌++◌, ◌-◌, ◌∙◌, ◌∷◌, ◌≡◌}
use Rattle.std.{proofs.lemmas.List.{append-nil, take_rest}, specs.List.list_all}

none_told : (rows : List Row) → list_all is_reset_row rows ≡ true → rows_text rows ≡ []
none_told [] all = refl
none_told (row ∷ rows) all = ap (λ t. if t then [] else row_text row ++ rows_text rows) all

-- where all rows from a place on are so, what was told is all
pub all_told : (text due : List ℕ) (rows : List Row) (place : ℕ) (test : Bool) → text ++ rows_text (drop place rows) ≡ due → test ≡ list_all is_reset_row (take (length rows - place) (drop place rows)) → test ≡ true → text ≡ due
all_told text due rows place test so is all =
    let rest : list_all is_reset_row (drop place rows) ≡ true = ap (list_all is_reset_row) (sym (take_rest rows place)) ∙ sym is ∙ all in
    sym (append-nil text) ∙ ap (λ xs. text ++ xs) (sym (none_told (drop place rows) rest)) ∙ so
