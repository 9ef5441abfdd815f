-- What a writer holds grows by what is written to it. These lemmas are for the crates above too.
use Rattle.c104_stream.specs.{Scripts.{ReadStops, TextStops}, Writing.{AppendsAndKeeps, AppendsPrefix, Grew}, declared.halt.Halt.Halt}
use Rattle.std.{proofs.{Common.{List, Option, [], ℕ, ◌++◌}, KnownBytes.{Appends-nil, Appends-trans}}, specs.Io.KnownBytes.Appends}

pub grew_none : (held : Option (List ℕ)) → Grew held held
grew_none held = record { written = []; grew = Appends-nil held }

pub grew_then : (held now holds : Option (List ℕ)) → Grew held now → Grew now holds → Grew held holds
grew_then held now holds first next = record {
  written = first.written ++ next.written;
  grew = Appends-trans held now holds first.written next.written first.grew next.grew;
}

pub grew_text : (held holds : Option (List ℕ)) (text : List ℕ) → Appends held holds text → Grew held holds
grew_text held holds text wrote = record { written = text; grew = wrote }

pub grew_prefix : (held holds : Option (List ℕ)) (text : List ℕ) → AppendsPrefix held holds text → Grew held holds
grew_prefix held holds text front = record { written = front.written; grew = front.grew }

pub grew_kept : (held holds : Option (List ℕ)) (keeps text : List ℕ) → AppendsAndKeeps held holds keeps text → Grew held holds
grew_kept held holds keeps text was = record { written = was.written; grew = was.grew }

-- where no further byte was read
pub read_grew : (now remains held holds : Option (List ℕ)) (kept keeps : List ℕ) (kind : Halt) → ReadStops now remains held holds kept keeps kind → Grew held holds
read_grew now remains held holds kept keeps Halt.CannotRead stopped = grew_text held holds kept stopped.1
read_grew now remains held holds kept keeps Halt.CannotWrite stopped = grew_prefix held holds kept stopped.1
read_grew now remains held holds kept keeps Halt.NoMemory stopped = grew_text held holds kept stopped.1

-- where a text doesn't join what is kept
pub text_grew : (text : List ℕ) (held holds : Option (List ℕ)) (kept keeps : List ℕ) (kind : Halt) → TextStops text held holds kept keeps kind → Grew held holds
text_grew text held holds kept keeps Halt.CannotRead stopped = absurd stopped
text_grew text held holds kept keeps Halt.CannotWrite stopped = grew_prefix held holds (kept ++ text) stopped.1
text_grew text held holds kept keeps Halt.NoMemory stopped = grew_kept held holds keeps kept stopped
