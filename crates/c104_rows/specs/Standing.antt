-- Whether a network stands still, as a test.
use Rattle.{c104_run.specs.{Network.{Network, network_apply}, Reasons.is_unready, Rounds.round}, c104_token.specs.Kinds.plain_kind}
use Rattle.c104_token.specs.declared.tokens.Token.{Token}
use Rattle.std.specs.{List.list_all, Prelude.Bool}

-- whether each event of a round is answered with NotReady
unfoldable pub is_still : Network Token → Bool
is_still net = list_all (λ e. is_unready (network_apply plain_kind net e).0) (round net.plan)
