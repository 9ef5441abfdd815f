-- Registers that are read one after the other, and what is made of their values.
use Rattle.{c104_control.specs.declared.commands.Command.TheVariants.CPeek, c104_interval.specs.Selection.reset_row}
use Rattle.{c104_interval.specs.declared.intervals.{Row.Row, Select.Select}, c104_regs.specs.{Addresses.address_number, Values.select_of}}
use Rattle.{c104_regs.specs.declared.addresses.{Address.TheVariants.AtLink, Register.Register}, c104_tools.proofs.Asking.{Read, asked_step}}
use Rattle.c104_tools.{proofs.Asking.{came_then, joined, joined_none}, specs.{Loads.order, Outcomes.{ComesTo, IsTold, any_value}}}
use Rattle.c104_tools.specs.{Outcomes.{link_peeks, peeks_at, rows_with, table_made, table_peeks, table_with, with_value}, Steps.Given}
use Rattle.{c104_tools.specs.{Steps.Step, Tables.is_select, declared.faults.LoadFault.LoadFault}, std.proofs.Common.{Err, IsTrue, List, Ok}}
use Rattle.std.proofs.Common.{[], ap, append-nil, append_assoc, arith, drop, false, get_or, length, not, refl, set, subst, suc, sym, take}
use Rattle.std.proofs.{Common.{true, ℕ, ◌++◌, ◌+◌, ◌<◌, ◌∙◌, ◌∷◌, ◌≡◌}, Math.Seq.{drop-append_seam, take-append_seam, take-length}}
use Rattle.std.{proofs.{Math.Seq.take-suc-set, lemmas.List.map-append}, specs.List.{list_any, range_with_len}}

one_more : (values : List ℕ) (i v : ℕ) (rest : Read) → i < length values → joined (Ok (take i values)) (with_value v rest) ≡ joined (Ok (take (i + 1) (set values i v))) rest
one_more values i v rest inside = search (arith, append_assoc, take-suc-set, set)

module _ {P : Type 0} (due : P → ℕ → List ℕ → Given → P → Type 0) where
  -- all peeks come to the values that were read, and then to what the peeks come to that are left
  abbrev pub Reads : P → List Step → List ℕ → P → List Step → Type 0
  Reads old all values now rest = (read : Read) (after : P) → ComesTo due any_value now rest read after → ComesTo due any_value old all (joined (Ok values) read) after

  abbrev Comes : P → List Step → P → Read → Type 0
  Comes old all after read = ComesTo due any_value old all read after

  pub reads_all : (p : P) (all rest : List Step) → all ≡ rest → Reads p all [] p rest
  reads_all p all rest is read after came = subst (Comes p all after) (sym (joined_none read)) (subst (λ steps. Comes p steps after read) (sym is) came)

  module _ (old now new : P) (all rest later : List Step) (switch a : ℕ) (is : rest ≡ order switch (CPeek a) ∷ later) (values : List ℕ) (i : ℕ) (left : Reads old all (take i values) now rest) where
    abbrev step : Step
    step = order switch (CPeek a)

    -- one more of them, or it failed
    pub reads_next : (v : ℕ) → i < length values → IsTold due now switch (CPeek a) (Ok v) new → Reads old all (take (i + 1) (set values i v)) new later
    reads_next v inside told read after came =
        subst (Comes old all after) (one_more values i v read inside)
        (left (with_value v read) after
        (subst (λ steps. Comes now steps after (with_value v read)) (sym is)
        (asked_step due any_value step later now new after (Ok v) (with_value v read) told (read, refl, came))))

    pub reads_stop : (f : LoadFault) → IsTold due now switch (CPeek a) (Err f) new → Comes old all new (Err f)
    reads_stop f told = left (Err f) new (subst (λ steps. Comes now steps new (Err f)) (sym is) (asked_step due any_value step later now new new (Err f) (Err f) told (refl, refl)))

  pub reads_none : (old now : P) (all rest : List Step) (values : List ℕ) (i : ℕ) → rest ≡ [] → i ≡ length values → Reads old all (take i values) now rest → Comes old all now (Ok values)
  reads_none old now all rest values i is end left =
      subst (λ xs. Comes old all now (Ok xs)) (append-nil (take i values) ∙ ap (λ n. take n values) end ∙ take-length values)
      (left (Ok []) now (subst (λ steps. Comes now steps now (Ok [])) (sym is) (refl, refl)))

module _ {P : Type 0} (due : P → ℕ → List ℕ → Given → P → Type 0) (switch link first : ℕ) where
  -- peeks from the first address on
  abbrev Part : ℕ → ℕ → List Step
  Part a n = peeks_at switch (range_with_len a n)

  pub link_came : (n : ℕ) (old new : P) (read : Read) → first ≡ address_number (AtLink link Register.Sunk) → n ≡ 7 → Comes due old (Part first n) new read → Comes due old (link_peeks switch link) new read
  link_came n old new read is seven came = subst (λ a. Comes due old (Part a 7) new read) is (subst (λ k. Comes due old (Part first k) new read) seven came)

  -- the two parts of a table
  module _ (n second m : ℕ) (many : n ≡ 37) (rows : m ≡ 36) (first_is : first ≡ address_number (AtLink link Register.Base)) (second_is : second ≡ address_number (AtLink link (Register.Select 0))) where
    parts : table_peeks switch link ≡ Part first n ++ Part second m
    parts = search (arith, map-append)

    pub table_first_fault : (old new : P) (f : LoadFault) → Comes due old (Part first n) new (Err f) → Comes due old (table_peeks switch link) new (Err f)
    table_first_fault old new f came =
        subst (λ steps. Comes due old steps new (Err f)) (sym parts) (came_then due any_value (Part second m) new new (Ok []) (Part first n) old (Err f) came refl)

    pub table_came : (old mid new : P) (limits : List ℕ) (read : Read) → Comes due old (Part first n) mid (Ok limits) → Comes due mid (Part second m) new read → Comes due old (table_peeks switch link) new (joined (Ok limits) read)
    table_came old mid new limits read one other =
        subst (λ steps. Comes due old steps new (joined (Ok limits) read)) (sym parts) (came_then due any_value (Part second m) mid new read (Part first n) old (Ok limits) one other)

-- the table that is made of both
pub cut_again : (switch : ℕ) (limits codes : List ℕ) → length limits ≡ 37 → table_with switch limits codes ≡ table_made switch (limits ++ codes)
cut_again switch limits codes many =
    sym (ap (λ n. table_with switch (take n (limits ++ codes)) (drop n (limits ++ codes))) (sym many)
    ∙ ap (λ xs. table_with switch xs (drop (length limits) (limits ++ codes))) (take-append_seam limits codes)
    ∙ ap (λ xs. table_with switch limits xs) (drop-append_seam limits codes))

-- the table, or that a number selects nothing
pub table_is : (switch : ℕ) (limits codes rest : List ℕ) (rows : List Row) → length limits ≡ 37 → rest ≡ take 36 (drop 1 limits) → rows ≡ rows_with rest codes → list_any (λ code. not (is_select code)) codes ≡ false → table_with switch limits codes ≡ Ok (record { base = get_or limits 0 0; rows = rows })
table_is switch [] codes rest rows many is made good = absurd (omega arith)
table_is switch (v ∷ limits) codes rest rows many is made good =
    let all : 36 ≡ length limits = omega arith in
    let same : rest ≡ limits = is ∙ ap (λ n. take n limits) all ∙ take-length limits in
    let rows_are : rows_with limits codes ≡ rows = sym (made ∙ ap (λ xs. rows_with xs codes) same) in
    rw good (ap (λ (xs : List Row). Ok (record { base = v; rows = xs })) rows_are)

pub table_bad : (switch : ℕ) (limits codes : List ℕ) → IsTrue (list_any (λ code. not (is_select code)) codes) → table_with switch limits codes ≡ Err (LoadFault.BadReply switch)
table_bad switch limits codes bad = rw bad refl

-- rows by their limits and selects
row_is : (row : Row) (limit : ℕ) (select : Select) → row.limit ≡ limit → row.select ≡ select → row ≡ record { limit = limit; select = select }
row_is row limit select one other = ap (λ l. record { limit = l; select = row.select }) one ∙ ap (λ s. record { limit = limit; select = s }) other

pub rows_made : (rows : List Row) (limits codes : List ℕ) → length rows ≡ length limits → length rows ≡ length codes → ((i : ℕ) → i < length rows → ((get_or rows i reset_row).limit ≡ get_or limits i 0) × ((get_or rows i reset_row).select ≡ select_of (get_or codes i 0))) → rows ≡ rows_with limits codes
rows_made [] [] [] same many each = refl
rows_made (row ∷ rows) (limit ∷ limits) (code ∷ codes) same many each =
    let here = each 0 (omega arith) in
    let first : row ≡ record { limit = limit; select = select_of code } = row_is row limit (select_of code) here.0 here.1 in
    ap (λ x. x ∷ rows) first ∙ ap (λ xs. record { limit = limit; select = select_of code } ∷ xs) (rows_made rows limits codes (omega arith) (omega arith) (λ i inside. each (suc i) (omega arith)))
rows_made rows limits codes same many each = absurd (omega arith)

pub none_bad : (codes : List ℕ) → ((i : ℕ) → i < length codes → is_select (get_or codes i 0) ≡ true) → list_any (λ code. not (is_select code)) codes ≡ false
none_bad [] each = refl
none_bad (code ∷ codes) each = rw (each 0 (omega arith)) (none_bad codes (λ i inside. each (suc i) (omega arith)))

-- a list of seven, element by element
pub seven_of : (values : List ℕ) → length values ≡ 7 → values ≡ get_or values 0 0 ∷ get_or values 1 0 ∷ get_or values 2 0 ∷ get_or values 3 0 ∷ get_or values 4 0 ∷ get_or values 5 0 ∷ get_or values 6 0 ∷ []
seven_of (a ∷ b ∷ c ∷ d ∷ e ∷ f ∷ g ∷ []) is = refl
seven_of values is = absurd (omega arith)

-- the first of some values, and the others
pub first_of : (values rest : List ℕ) → length values ≡ 37 → rest ≡ take 36 (drop 1 values) → get_or values 0 0 ∷ rest ≡ values
first_of [] rest is same = absurd (omega arith)
first_of (v ∷ values) rest is same =
    let many : 36 ≡ length values = omega arith in
    ap (λ xs. v ∷ xs) (same ∙ ap (λ n. take n values) many ∙ take-length values)
