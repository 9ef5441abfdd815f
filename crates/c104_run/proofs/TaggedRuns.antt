-- A run over tagged tokens is that over tokens that all tell where they came from.
use Rattle.{c104_event.specs.declared.{events.Event.Event, faults.EventFault.EventFault}, c104_node.specs.Origins.{AreSure, IsSure}}
use Rattle.c104_node.specs.{Origins.{origin_of, origins_in}, Tagged.{tag, tagged_by, tagged_kind, tagged_origin, tagged_origins}}
use Rattle.c104_node.specs.{Traced.traced_kind, declared.{tagged.TaggedToken.TaggedToken, traced.{Source.Source, Traced.Traced}}}
use Rattle.c104_run.{proofs.StepMaps.apply_map, specs.{Network.{Network, network_apply}, RecordedPlaces.plain_by, TracedRuns.map_network}}
use Rattle.{c104_switch.specs.Actions.Reply, c104_token.specs.{Tokens.is_end, declared.tokens.Token.Token}, std.proofs.Common.{Bool, List}}
use Rattle.std.proofs.Common.{Option, Result, Some, [], ap, arith, map, refl, slice_get, suc, sym, ℕ, ◌++◌, ◌<◌, ◌∙◌, ◌∷◌, ◌≡◌}
use Rattle.std.specs.Option.{option_to_list}

plain_tagged : (x : Token) (o : Option Source) → (tag (record { token = x; source = o })).token ≡ x
plain_tagged x o = search arith

-- the token alone
abbrev pub token_of : TaggedToken → Token
token_of x = x.token

-- the network with the tokens alone
abbrev pub plain_network : Network TaggedToken → Network Token
plain_network net = map_network token_of net

pub tagged_plain : (t n j : ℕ) (x : Token) → x ≡ (tagged_by (is_end x) x t n).token
tagged_plain t n j x = sym (plain_by (is_end x) x t n)

-- an event is answered alike, and leaves what it leaves, with what is kept of each token
pub tagged_apply : (net : Network Traced) (e : Event) → ◌≡◌ {A = Result Reply EventFault × Network TaggedToken} (network_apply tagged_kind (map_network tag net) e) ((network_apply traced_kind net e).0, map_network tag (network_apply traced_kind net e).1)
tagged_apply net e = apply_map tag traced_kind tagged_kind (λ x. plain_tagged x.token x.source) (λ j b. refl) (λ t n j x. refl) net e

-- where the numbers are within their bytes, the terminators tell the same packets
pub record IsSmall (x : Traced) : Type 0 where
  pub terminal : (s : Source) → x.source ≡ Some s → s.terminal < 65536
  pub number : (s : Source) → x.source ≡ Some s → s.number < 4294967296

abbrev of_parts : Token → Option Source → Traced
of_parts x o = record { token = x; source = o }

one_origin : (x : Token) (o : Option Source) → IsSure (of_parts x o) → IsSmall (of_parts x o) → (e : Bool) → is_end x ≡ e → tagged_origin (is_end (tag (of_parts x o)).token) (tag (of_parts x o)) ≡ origin_of (of_parts x o)
one_origin x o sure small e is = search arith

pub origins_same : (tokens : List Traced) → AreSure tokens → ((k : ℕ) (x : Traced) → slice_get tokens k ≡ Some x → IsSmall x) → tagged_origins (map tag tokens) ≡ origins_in tokens
origins_same [] sure small = refl
origins_same (x ∷ tokens) sure small =
    ap (λ o. option_to_list o ++ tagged_origins (map tag tokens)) (one_origin x.token x.source (sure 0 x refl) (small 0 x refl) (is_end x.token) refl)
    ∙ ap (λ os. option_to_list (origin_of x) ++ os) (origins_same tokens (λ k y at. sure (suc k) y at) (λ k y at. small (suc k) y at))
