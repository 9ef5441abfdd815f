use Rattle.std.proofs.{Common.refl, lemmas.Option.{slice_get_past, slice_get_read}}
use Rattle.c104_switch.proofs.input.claims.put_own.Goals as goal

pub returns-in-Some : goal.returns-in-Some
returns-in-Some g c =
    let found = c.in-Some.ensures.lookup in
    let own = rw c.all_settings.ensures.settings at (slice_get_read c.all_settings.result.now _ c.args.output c.in-Some.own.now refl found.3.0 found.1) in
    rw own c.put_header.ensures

pub returns-in-None : goal.returns-in-None
returns-in-None g c =
    let none = rw c.all_settings.ensures.settings at (slice_get_past c.all_settings.result.now c.args.output c.in-None.ensures.lookup.3) in
    rw none refl
