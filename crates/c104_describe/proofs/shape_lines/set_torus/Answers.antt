use Rattle.c104_describe.specs.{LineFaults.read_parts, PlanDrafts.draft_of, PlanLines.{Draft, is_bad_number, is_from_to, torus_parts}}
use Rattle.{c104_describe.specs.{PlanLines.{value_said, with_plan}, ShapeLayouts.{hosted_plan, parallel, torus}}, std.proofs.Common.List}
use Rattle.std.proofs.{Common.{Ok, Some, ap, arith, false, nat_lt, sym, ℕ, ◌*◌, ◌+◌, ◌≡◌}, lemmas.Bool.Decides.nat_tests}

-- a line of which each number was read, and which asks for no more than there may be
torus_read : (draft next : Draft) (width height terminals wires : List ℕ) (w h p k : ℕ)
    → is_bad_number (Some width) (is_from_to 1 64) ≡ false → is_bad_number (Some height) (is_from_to 1 64) ≡ false → is_bad_number (Some terminals) (is_from_to 1 24) ≡ false → is_bad_number (Some wires) (is_from_to 1 3) ≡ false
    → value_said width ≡ w → value_said height ≡ h → value_said terminals ≡ p → value_said wires ≡ k
    → nat_lt 64 (w * h) ≡ false → nat_lt 256 (w * h * p) ≡ false → nat_lt 32 (4 * (2 * k) + p) ≡ false
    → next ≡ with_plan draft (hosted_plan (parallel (2 * k) (torus w h)) (w * h) (4 * (2 * k)) p draft.plan)
    → read_parts draft.plan (torus_parts draft width height terminals wires) ≡ Ok next
torus_read draft next width height terminals wires w h p k wide high some made is_w is_h is_p is_k few_switches few_terminals few_links is =
    rw (wide, high, some, made, is_w, is_h, is_p, is_k, few_switches, few_terminals, few_links) (ap Ok (sym is))

pub returns : Rattle.c104_describe.proofs.shape_lines.set_torus.Goals.returns
returns c =
    let w = c.in_ok-width.field-0 in
    let h = c.in_ok-height.field-0 in
    let p = c.in_ok-terminals.field-0 in
    let k = c.in_ok-wires.field-0 in
    let few_switches : nat_lt 64 (w * h) ≡ false = grind (arith, nat_tests, c.if-switches-gt-MAX_SWITCHES.false) in
    let few_terminals : nat_lt 256 (w * h * p) ≡ false = grind (arith, nat_tests, c.if-switches-terminals-gt-MAX_TERMINALS.false) in
    let few_links : nat_lt 32 (4 * (2 * k) + p) ≡ false = grind (arith, nat_tests, c.if-links-terminals-gt-LINKS.false) in
    torus_read (draft_of c.args.draft.now) (draft_of c.fill.new.draft) c.args.width.now c.args.height.now c.args.terminals.now c.args.wires.now w h p k
    c.in_ok-width.ensures.number.1 c.in_ok-height.ensures.number.1 c.in_ok-terminals.ensures.number.1 c.in_ok-wires.ensures.number.1
    c.in_ok-width.ensures.number.0 c.in_ok-height.ensures.number.0 c.in_ok-terminals.ensures.number.0 c.in_ok-wires.ensures.number.0
    few_switches few_terminals few_links c.in_ok-fill.ensures
