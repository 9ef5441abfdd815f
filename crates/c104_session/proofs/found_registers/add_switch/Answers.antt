use Rattle.{c104_plan.specs.Plans.Plan, std.proofs.Common.{List, None, ap, append-nil, length, slice_get, subst, sym, ℕ, ◌∙◌, ◌≡◌, ◌≤◌}}
use Rattle.std.proofs.lemmas.Option.{slice_get_past}

pub returns-in-None : Rattle.c104_session.proofs.found_registers.add_switch.Goals.returns-in-None
returns-in-None c =
    let names : List (List ℕ) = c.args.net.now.network.plan.switches in
    let are : c.switches.result.now ≡ names = c.switches.ensures.switches ∙ ap (λ (p : Plan). p.switches) c.plan.ensures in
    let past : length names ≤ c.args.switch = subst (λ (xs : List (List ℕ)). length xs ≤ c.args.switch) are c.in-None.ensures.lookup.3 in
    let none : slice_get names c.args.switch ≡ None = slice_get_past names c.args.switch past in
    rw none (sym (append-nil c.args.list.now.items))
