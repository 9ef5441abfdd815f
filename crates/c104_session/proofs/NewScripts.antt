-- Scripts of which nothing was read before.
use Rattle.{c104_script.specs.Answering.DoesScript, c104_stream.specs.Scripts.{Answering, Known}, std.proofs.Common.{Bool, List, [], arith}}
use Rattle.std.{proofs.Common.{ℕ, ◌≡◌}, specs.Io.KnownBytes.prepend_known}

none_ahead : (ahead : List ℕ) (known : Known) → ahead ≡ [] → prepend_known ahead known ≡ known
none_ahead ahead known none = search arith

-- the lines that are done are those that the reader has left
pub done_anew : {S : Type 0} (answer : Answering S) (state after : S) (ahead : List ℕ) (known : Known) (long : Bool) → ahead ≡ []
    → DoesScript answer state (prepend_known ahead known) after long → DoesScript answer state known after long
done_anew answer state after ahead known long none done = search (arith, none_ahead)
