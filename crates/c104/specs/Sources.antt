-- Where a text is read from.
use Rattle.c104.specs.declared.sources.Source.{Source, TheVariants.{File, Input}}
use Rattle.std.specs.Prelude.{List, Option, ℕ}

-- what a source has left is what its file or its input has
abbrev pub source_remaining : {F I : Type 0} → (F → Option (List ℕ)) → (I → Option (List ℕ)) → Source F I → Option (List ℕ)
source_remaining of_file of_input (File file) = of_file file
source_remaining of_file of_input (Input input) = of_input input
