use Rattle.{c104_check.specs.Reach.routes_for, c104_commands.{proofs.HeaderLemmas.header_printed, specs.HeaderRows.PrintsHeader}}
use Rattle.std.{proofs.Common.{Bool, List, is_some, subst, sym, ℕ}, specs.String.string_bytes}

pub returns : Rattle.c104_commands.proofs.header_rows.print_reach.Goals.returns
returns c =
    subst (λ (text : List ℕ). PrintsHeader c.args.header c.args.plan.now c.args.image.now text c.printed.result.refused) (sym c.printed.ensures.text)
    (subst (λ (refused : Bool). PrintsHeader c.args.header c.args.plan.now c.args.image.now (string_bytes c.add_refusal.new.text) refused) (sym c.printed.ensures.refused)
    (subst (λ (h : ℕ). PrintsHeader h c.args.plan.now c.args.image.now (string_bytes c.add_refusal.new.text) (is_some c.in_ok-fault.fault)) c.requires.header
    (header_printed c.args.reach.now.header c.args.plan.now c.args.image.now (routes_for c.args.reach.now) (string_bytes c.in_ok-text.text) (string_bytes c.add_refusal.new.text) c.in_ok-fault.fault c.requires.routes c.in_ok-text.ensures c.in_ok-fault.ensures.cause c.in_ok-fault.ensures.line)))
