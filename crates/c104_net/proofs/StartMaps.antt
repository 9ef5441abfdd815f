-- The starts of runs are the same over any kind of token.
use Rattle.{c104_check.specs.Routes.{routes_of, settings_at}, c104_net.{proofs.Promises.IsStart, specs.Unchanged.AreStartsOf}}
use Rattle.c104_node.specs.{Nodes.{Node, is_switch}, Quiet.{IsQuietInput, IsQuietNode, IsQuietOutput}, Starts.start_node}
use Rattle.c104_node.specs.{TerminalStarts.start_terminal, Terminals.Terminal, declared.{node.NodeOf.NodeOf, starts.NodeStart.NodeStart}}
use Rattle.{c104_plan.specs.{PlanImage.Image, Plans.Plan}, c104_run.specs.{Balance.AreInPlace, Network.network_of}}
use Rattle.c104_switch.specs.{Starts.{start_input, start_output, start_switch}, Switch.Switch}
use Rattle.{c104_token.specs.declared.tokens.Token.Token, std.proofs.Common.{All, Bool, List, Some, [], ap, false, get_or, map, refl}}
use Rattle.std.proofs.{Common.{slice_get, suc, sym, true, zero, ℕ, ◌∙◌, ◌∷◌, ◌≡◌}, lemmas.List.Elements.All-map}

abbrev pub switch_start : NodeStart → Bool
switch_start (NodeStart.Switch s) = true
switch_start (NodeStart.Terminal t) = false

-- whether a node is a switch is told by its start alone
pub kinds_started : (A : Type 0) (starts : List NodeStart) → map is_switch (map (start_node {A = A}) starts) ≡ map switch_start starts
kinds_started A [] = refl
kinds_started A (NodeStart.Switch s ∷ starts) = ap (λ bs. true ∷ bs) (kinds_started A starts)
kinds_started A (NodeStart.Terminal t ∷ starts) = ap (λ bs. false ∷ bs) (kinds_started A starts)

-- starts that are in place are so over any kind of token
pub still_placed : (A B : Type 0) (plan : Plan) (starts : List NodeStart) → AreInPlace {A = A} plan (map start_node starts) → AreInPlace {A = B} plan (map start_node starts)
still_placed A B plan starts placed = kinds_started B starts ∙ sym (kinds_started A starts) ∙ placed

-- what holds of each of a mapped list
all_of : {X Y : Type 0} (P : Y → Type 0) (g : X → Y) → ((x : X) → P (g x)) → (xs : List X) → All P (map g xs)
all_of P g h xs = All-map P g xs (λ i x inside. h (get_or xs i x))

quiet_start : (A : Type 0) (s : NodeStart) → IsQuietNode {A = A} (start_node s)
quiet_start A (NodeStart.Switch s) = (all_of (IsQuietInput {A = A}) start_input (λ l. (refl, refl)) s.links, all_of (IsQuietOutput {A = A}) start_output (λ l. refl) s.links)
quiet_start A (NodeStart.Terminal t) = (refl, refl)

module _ {A : Type 0} where
  started : (starts : List NodeStart) (k : ℕ) (n : Node A) → slice_get (map start_node starts) k ≡ Some n → (s : NodeStart) × (slice_get starts k ≡ Some s) × (start_node s ≡ n)
  started [] k n is = absurd (cc)
  started (s ∷ starts) zero n is = (s, refl, cc)
  started (s ∷ starts) (suc k) n is = started starts k n is

  -- nodes at their starts are the start of a run
  pub starts_are : (plan : Plan) (image : Image) (starts : List NodeStart) → AreStartsOf plan image starts → IsStart {A = A} image (network_of plan (map start_node starts))
  starts_are plan image starts are = record {
    in_place = still_placed Token A plan starts are.in_place;
    quiet = all_of (IsQuietNode {A = A}) start_node (quiet_start A) starts;
    set = λ k s is. let one = started starts k (NodeOf.Switch s) is in set_of k one.0 one.1 s one.2;
    first = λ k t is. let one = started starts k (NodeOf.Terminal t) is in first_of one.0 t one.2;
  }
    where
      set_of : (k : ℕ) (s : NodeStart) → slice_get starts k ≡ Some s → (S : Switch A) → start_node s ≡ NodeOf.Switch S → S.settings ≡ settings_at (routes_of plan image) k
      set_of k (NodeStart.Switch s) at S is = let same : start_switch s ≡ S = cc in ap (λ (z : Switch A). z.settings) (sym same) ∙ are.set k s at
      set_of k (NodeStart.Terminal t) at S is = absurd (cc)

      first_of : (s : NodeStart) (T : Terminal A) → start_node s ≡ NodeOf.Terminal T → (T.sent ≡ []) × (T.arrived ≡ [])
      first_of (NodeStart.Switch s) T is = absurd (cc)
      first_of (NodeStart.Terminal t) T is = let same : start_terminal t ≡ T = cc in (ap (λ (z : Terminal A). z.sent) (sym same), ap (λ (z : Terminal A). z.arrived) (sym same))
