use Rattle.{c104_node.specs.Tagged.tagged_origins, std.proofs.Common.{take, ◌≡◌}}

-- the origins among the tokens so far
abbrev pub invariant-loop-token : Rattle.c104_node.proofs.tagged.tagged_origins.Given.invariant-loop-token
invariant-loop-token l = l.origins.items ≡ tagged_origins (take l.token-index l.tokens)
