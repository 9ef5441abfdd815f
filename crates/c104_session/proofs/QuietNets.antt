-- Whether a network is quiet, as a test: it holds exactly where that is so.
use Rattle.{c104_link.specs.Buffers.Outgoing, c104_node.specs.{Nodes.Node, Quiet.{IsQuietInput, IsQuietNode, IsQuietOutput, is_fresh}}}
use Rattle.{c104_node.specs.declared.node.NodeOf.NodeOf, c104_rows.proofs.StillNets.{same_test, tells_all}, c104_run.specs.Network.Network}
use Rattle.{c104_run.specs.QuietNets.IsQuiet, c104_session.specs.Settling.{has_none, is_quiet, is_quiet_input, is_quiet_node}}
use Rattle.{c104_session.specs.Settling.is_quiet_output, c104_switch.specs.{Switch.Input, declared.phase.Phase.{Phase, TheVariants.Fresh}}}
use Rattle.{c104_switch.specs.declared.phase.Phase.TheVariants.{Head, Sinking, Stream, Want}, c104_token.specs.declared.tokens.Token.Token}
use Rattle.std.{proofs.Common.{Bool, List, [], false, refl, true, ◌&&◌, ◌↔◌, ◌∷◌, ◌≡◌}, specs.List.list_all}

both_told : {A B : Type 0} (a b : Bool) → ((a ≡ true) ↔ A) → ((b ≡ true) ↔ B) → ((a && b) ≡ true) ↔ (A × B)
both_told true b one two = (λ is. (one.0 refl, two.0 is), λ both. two.1 both.1)
both_told false b one two = (λ is. absurd (cc is), λ both. one.1 both.0)

none_there : (xs : List Token) → (has_none xs ≡ true) ↔ (xs ≡ [])
none_there [] = (λ is. refl, λ is. refl)
none_there (x ∷ xs) = (λ is. absurd (cc is), λ is. absurd (cc is))

fresh_is : {H : Type 0} (phase : Phase H) → (is_fresh phase ≡ true) ↔ (phase ≡ Fresh)
fresh_is Fresh = (λ is. refl, λ is. refl)
fresh_is (Head b) = (λ is. absurd (cc is), λ is. absurd (cc is))
fresh_is (Want b g) = (λ is. absurd (cc is), λ is. absurd (cc is))
fresh_is (Stream o) = (λ is. absurd (cc is), λ is. absurd (cc is))
fresh_is Sinking = (λ is. absurd (cc is), λ is. absurd (cc is))

input_quiet : (p : Input Token) → (is_quiet_input p ≡ true) ↔ IsQuietInput p
input_quiet p = both_told (has_none p.buffer.items) (is_fresh p.phase) (none_there p.buffer.items) (fresh_is p.phase)

output_quiet : (q : Outgoing Token) → (is_quiet_output q ≡ true) ↔ IsQuietOutput q
output_quiet q = none_there q.items

node_quiet : (n : Node Token) → (is_quiet_node n ≡ true) ↔ IsQuietNode n
node_quiet (NodeOf.Switch s) =
    both_told (list_all is_quiet_input s.inputs) (list_all is_quiet_output s.outputs)
    (tells_all (λ (p : Input Token). IsQuietInput p) is_quiet_input input_quiet s.inputs)
    (tells_all (λ (q : Outgoing Token). IsQuietOutput q) is_quiet_output output_quiet s.outputs)
node_quiet (NodeOf.Terminal t) =
    both_told (has_none t.input.items) (has_none t.output.items) (none_there t.input.items) (none_there t.output.items)

pub quiet_where : (net : Network Token) → (is_quiet net ≡ true) ↔ IsQuiet net
unfolding is_quiet
quiet_where net = tells_all (λ (n : Node Token). IsQuietNode n) is_quiet_node node_quiet net.nodes

pub told_quiet : (net : Network Token) (told : Bool) → ((told ≡ true) ↔ IsQuiet net) → told ≡ is_quiet net
told_quiet net told tells =
    same_test told (is_quiet net) (λ yes. (quiet_where net).1 (tells.0 yes)) (λ is. tells.1 ((quiet_where net).0 is))
