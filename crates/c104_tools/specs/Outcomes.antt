-- What comes of steps that are asked through a port: of each in turn, up to the first fault.
pub use Rattle.c104_tools.specs.Steps.{Given}
use Rattle.c104_control.specs.{Table.command_bytes, declared.commands.Command.{Command, TheVariants.CPeek}}
use Rattle.{c104_interval.specs.declared.intervals.{Row.Row, Table.Table}, c104_regs.specs.Values.select_of, c104_tools.specs.Loads.order}
use Rattle.c104_tools.specs.{Reads.link_addresses, Steps.{Step, named_address, told}, Tables.{is_select, table_addresses}}
use Rattle.c104_tools.specs.declared.{faults.LoadFault.LoadFault, reading.LinkNumbers.LinkNumbers}
use Rattle.std.specs.{List.list_any, Prelude.{Err, List, Ok, Result, [], drop, get_or, if◌then◌else◌, map, not, take, ℕ, ◌==◌, ◌∷◌, ◌≡◌}}

-- what is made of what was read, unless that failed
abbrev pub and_then : {X Y : Type 0} → Result X LoadFault → (X → Result Y LoadFault) → Result Y LoadFault
and_then (Ok x) make = make x
and_then (Err f) make = Err f

-- a command was asked of a switch through a port, of which it is known what a command may be given, and this
-- was told of it
abbrev pub IsTold : {P : Type 0} → (P → ℕ → List ℕ → Given → P → Type 0) → P → ℕ → Command → Result ℕ LoadFault → P → Type 0
IsTold due old switch c result new =
    (given : Given) × due old switch (command_bytes c) given new × (result ≡ told switch c given)

-- how the value is judged that a step read
abbrev pub Judge : Type 0
Judge = Step → ℕ → Result ℕ LoadFault

-- any value will do
abbrev pub any_value : Judge
any_value t v = Ok v

-- only the value will do that the step is to read
abbrev pub due_value_only : Judge
due_value_only t v =
    if v == t.value then Ok v else Err (LoadFault.Differs t.switch (named_address t.command) v)

-- what a step comes to, by what the port gave
abbrev pub step_result : Judge → Step → Given → Result ℕ LoadFault
step_result judge t given = and_then (told t.switch t.command given) (judge t)

-- a value before those that are read after it
abbrev pub with_value : ℕ → Result (List ℕ) LoadFault → Result (List ℕ) LoadFault
with_value v rest = and_then rest (λ values. Ok (v ∷ values))

-- the values that were read and the state after, or the first fault and the state there
abbrev pub unless_failed : {S : Type 0} → Result ℕ LoadFault → S → (S → Result (List ℕ) LoadFault × S) → Result (List ℕ) LoadFault × S
unless_failed (Ok v) s more = let rest = more s in (with_value v rest.0, rest.1)
unless_failed (Err f) s more = (Err f, s)

-- where it is known what each command is given: steps in turn, up to the first fault
abbrev pub run_steps : {S : Type 0} → (S → ℕ → List ℕ → Given × S) → Judge → S → List Step → Result (List ℕ) LoadFault × S
run_steps ask judge s [] = (Ok [], s)
run_steps ask judge s (t ∷ steps) =
    let given = ask s t.switch (command_bytes t.command) in
    unless_failed (step_result judge t given.0) given.1 (λ next. run_steps ask judge next steps)

-- a step came to this, and the steps after it to the rest
abbrev pub GoesOn : {P : Type 0} → Result ℕ LoadFault → P → Result (List ℕ) LoadFault → P → (P → Result (List ℕ) LoadFault → Type 0) → Type 0
GoesOn (Ok v) next result after more =
    (rest : Result (List ℕ) LoadFault) × (result ≡ with_value v rest) × more next rest
GoesOn (Err f) next result after more = (result ≡ Err f) × (after ≡ next)

-- the same at a port of which it is only known what a command may be given: these steps, from one state on,
-- came to this and left the port in that state
abbrev pub ComesTo : {P : Type 0} → (P → ℕ → List ℕ → Given → P → Type 0) → Judge → P → List Step → Result (List ℕ) LoadFault → P → Type 0
ComesTo due judge p [] result after = (result ≡ Ok []) × (after ≡ p)
ComesTo {P} due judge p (t ∷ steps) result after =
    (given : Given) × (next : P)
    × due p t.switch (command_bytes t.command) given next
    × GoesOn (step_result judge t given) next result after (λ s rest. ComesTo due judge s steps rest after)

-- a call that asks such steps and answers what is made of the values that they read
pub record Outcome {P X : Type 0} (due : P → ℕ → List ℕ → Given → P → Type 0) (judge : Judge) (make : List ℕ → Result X LoadFault) (old : P) (steps : List Step) (result : Result X LoadFault) (new : P) : Type 0 where
  pub read : Result (List ℕ) LoadFault
  pub came : ComesTo due judge old steps read new
  pub made : result ≡ and_then read make

-- nothing is made of the values
abbrev pub nothing_made : List ℕ → Result (Unit {0}) LoadFault
nothing_made values = Ok tt

-- peeks of a switch at these addresses
abbrev pub peeks_at : ℕ → List ℕ → List Step
peeks_at switch addresses = map (λ a. order switch (CPeek a)) addresses

-- peeks of what a link tells of itself
abbrev pub link_peeks : ℕ → ℕ → List Step
link_peeks switch link = peeks_at switch (link_addresses link)

-- the numbers of a link, by the values of its registers
abbrev pub link_made : List ℕ → Result LinkNumbers LoadFault
link_made values = Ok (record {
  sunk = get_or values 0 0;
  short = get_or values 1 0;
  input_level = get_or values 2 0;
  output_level = get_or values 3 0;
  credit = get_or values 4 0;
  granted = get_or values 5 0;
  owner = get_or values 6 0;
})

-- peeks of an input's table
abbrev pub table_peeks : ℕ → ℕ → List Step
table_peeks switch link = peeks_at switch (table_addresses link)

-- rows with these limits, that select what these numbers are of
abbrev pub rows_with : List ℕ → List ℕ → List Row
rows_with (limit ∷ limits) (code ∷ codes) =
    record { limit = limit; select = select_of code } ∷ rows_with limits codes
rows_with limits codes = []

-- the table of a base with the limits after it, and of the selects' numbers, unless one of these selects nothing
abbrev pub table_with : ℕ → List ℕ → List ℕ → Result Table LoadFault
table_with switch limits codes =
    if list_any (λ code. not (is_select code)) codes
    then Err (LoadFault.BadReply switch)
    else Ok (record { base = get_or limits 0 0; rows = rows_with (drop 1 limits) codes })

-- the table of an input, by the values of its registers: 37 are the base and the limits, then follow the selects
abbrev pub table_made : ℕ → List ℕ → Result Table LoadFault
table_made switch values = table_with switch (take 37 values) (drop 37 values)
