use Rattle.{c104_script.specs.{Script.verb_of, declared.words.{TheConstants.VERBS, Verb.Verb}}, std.proofs.Common.{List, bytes_eq, drop}}
use Rattle.std.{proofs.Common.{map, ℕ, ◌≡◌}, specs.Map.lookup}

-- none of the words so far is this one
abbrev pub invariant-loop-text : Rattle.c104_script.proofs.words.read_verb.Given.invariant-loop-text
invariant-loop-text l = lookup (λ known. bytes_eq known l.word) (map (λ (k : record { now : List ℕ } × Verb). (k.0.now, k.1)) (drop l.text-index VERBS)) ≡ verb_of l.word
