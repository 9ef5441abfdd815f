use Rattle.{c104_check.specs.Routes.routes_of, c104_regs.specs.declared.settings.Settings.Settings}
use Rattle.{c104_tests_net.proofs.NotRandom.length_there, std.proofs.Common.{List, Some, length, refl, slice_get, ◌∙◌, ◌≡◌}}
use Rattle.std.proofs.lemmas.Option.{slice_get_read}

pub returns : Rattle.c104_tests_net.proofs.portals.header_length.Goals.returns
returns c =
    let all : List Settings = c.in-Some-settings.settings.now in
    let found = c.in-Some-get.ensures.lookup in
    let at : slice_get all c.args.link ≡ Some c.in-Some-get.settings.now = slice_get_read all (length all) c.args.link c.in-Some-get.settings.now refl found.3.0 found.1 in
    c.header_length.ensures ∙ length_there (routes_of c.args.plan.now c.args.image.now) c.args.switch c.args.link c.in-Some._far all c.in-Some-get.settings.now c.requires.accepted c.in-Some.ensures.value c.in-Some-settings.ensures.settings at
