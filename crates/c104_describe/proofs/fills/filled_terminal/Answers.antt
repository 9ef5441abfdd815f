use Rattle.{c104_describe.proofs.FilledNames.terminal_named, c104_plan.specs.TextWords.is_name, std.proofs.Common.{arith, rules, subst}}
use Rattle.std.{proofs.Common.{sym, true, ◌∷◌, ◌≡◌}, specs.Fmt.decimal}

pub new-requires : Rattle.c104_describe.proofs.fills.filled_terminal.Goals.new-requires
new-requires c =
    let text : c.as_bytes.result.now ≡ 0x74 ∷ decimal c.args.number = search rules in
    subst (λ name. is_name name ≡ true) (sym text) (terminal_named c.args.number (omega (arith, c.requires.few)))
