use Rattle.c104_script.proofs.TypedWords.{length_taken}

pub returns : Rattle.c104_script.proofs.addressed.add_length.Goals.returns
returns c = length_taken _ _ _ _ _ c.in-Some.ensures.value c.requires.few c.add_zeros.ensures
