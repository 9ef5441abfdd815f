-- Networks over one kind of token and over another: the tokens are mapped, and all else is the same.
use Rattle.c104_link.specs.Buffers.{Incoming, Outgoing, incoming_accept, incoming_grant, outgoing_credited, outgoing_emit, outgoing_put}
use Rattle.c104_link.specs.{Buffers.outgoing_put_all, Steps.{joint_step_at, require, step_at, yield_step_at, ◌>>=◌, ◌>>◌}}
use Rattle.c104_link.specs.declared.{TheConstants.TOKENS_OF_A_GRANT, outgoing.TheConstants.{CREDIT_LIMIT, OUTPUT_CAP}}
use Rattle.c104_node.specs.{MappedNodes.{map_incoming, map_input, map_node, map_outgoing, map_switch, map_terminal}, Nodes.Node}
use Rattle.c104_node.specs.{Nodes.{node_credit_in, node_credit_out, node_drain, node_enter, node_leave}, Terminals.Terminal}
use Rattle.{c104_node.specs.Terminals.terminal_drain, c104_switch.specs.{Phases.with_header, Switch.{Switch, input_accept, input_grant}}}
use Rattle.c104_switch.specs.{Switch.{switch_credit_in, switch_credit_out, switch_enter, switch_leave}, declared.phase.Phase.Phase}
use Rattle.std.proofs.Common.{Bool, List, Option, Some, [], ap, arith, drop, if◌then◌else◌, length, map, nat_le, nat_lt, option_map, refl}
use Rattle.std.proofs.{Common.{slice_get, ℕ, ◌+◌, ◌∙◌, ◌∷◌, ◌≡◌}, lemmas.{List.{length-map, map-append, map-set}, Option.slice_get-map}}

pub bind_map : {X X' Y Y' : Type 0} (u : X → X') (v : Y → Y') (m : Option X) (h : X → Option Y) (h' : X' → Option Y') → ((x : X) → h' (u x) ≡ option_map v (h x)) → ◌>>=◌ (option_map u m) h' ≡ option_map v (◌>>=◌ m h)
bind_map u v m h h' e = search arith

pub bind_same : {X Y Y' : Type 0} (v : Y → Y') (m : Option X) (h : X → Option Y) (h' : X → Option Y') → ((x : X) → h' x ≡ option_map v (h x)) → ◌>>=◌ m h' ≡ option_map v (◌>>=◌ m h)
bind_same v m h h' e = search arith

pub bind_both : {X X' Y Y' : Type 0} (u : X → X') (v : Y → Y') (m : Option X) (m' : Option X') (h : X → Option Y) (h' : X' → Option Y') → m' ≡ option_map u m → ((x : X) → h' (u x) ≡ option_map v (h x)) → ◌>>=◌ m' h' ≡ option_map v (◌>>=◌ m h)
bind_both u v m m' h h' em eh = ap (λ z. ◌>>=◌ z h') em ∙ bind_map u v m h h' eh

-- a change at a place, where the elements of the list are mapped
pub place_map : {X X' : Type 0} (u : X → X') (xs : List X) (i : ℕ) (f : X → Option X) (f' : X' → Option X') → ((x : X) → f' (u x) ≡ option_map u (f x)) → step_at (map u xs) i f' ≡ option_map (map u) (step_at xs i f)
place_map u xs i f f' h = bind_both u (map u) (slice_get xs i) _ _ _ (slice_get-map u xs i) (λ x. bind_both u (map u) (f x) _ _ _ (h x) (λ y. ap Some (rw (map-set u xs i y) refl)))

pub from_map : {X X' Y Y' : Type 0} (u : X → X') (v : Y → Y') (xs : List X) (i : ℕ) (f : X → Option (Y × X)) (f' : X' → Option (Y' × X')) → ((x : X) → f' (u x) ≡ option_map (λ (z : Y × X). (v z.0, u z.1)) (f x)) → yield_step_at (map u xs) i f' ≡ option_map (λ (z : Y × List X). (v z.0, map u z.1)) (yield_step_at xs i f)
from_map u v xs i f f' h = bind_both u _ (slice_get xs i) _ _ _ (slice_get-map u xs i) (λ x. bind_both _ _ (f x) _ _ _ (h x) (λ y. ap Some (rw (map-set u xs i y.1) refl)))

pub with_map : {X X' Y Y' : Type 0} (u : X → X') (v : Y → Y') (xs : List X) (i : ℕ) (f : X → Option (X × Y)) (f' : X' → Option (X' × Y')) → ((x : X) → f' (u x) ≡ option_map (λ (z : X × Y). (u z.0, v z.1)) (f x)) → joint_step_at (map u xs) i f' ≡ option_map (λ (z : List X × Y). (map u z.0, v z.1)) (joint_step_at xs i f)
with_map u v xs i f f' h = bind_both u _ (slice_get xs i) _ _ _ (slice_get-map u xs i) (λ x. bind_both _ _ (f x) _ _ _ (h x) (λ y. ap Some (rw (map-set u xs i y.0) refl)))

pub require_map : {Y Y' : Type 0} (v : Y → Y') (b : Bool) (o : Option Y) (o' : Option Y') → o' ≡ option_map v o → ◌>>◌ (require b) o' ≡ option_map v (◌>>◌ (require b) o)
require_map v b o o' e = search arith

pub if_map : {X Y : Type 0} (g : X → Y) (b b' : Bool) (x y : X) (x' y' : Y) → b' ≡ b → x' ≡ g x → y' ≡ g y → (if b' then x' else y') ≡ g (if b then x else y)
if_map g b b' x y x' y' e h k = search arith

module _ {A B : Type 0} (f : A → B) where
  abbrev pub map_phase : Phase (List A) → Phase (List B)
  map_phase phase = with_header (map f) phase

  pub first_map : (l : List A) → slice_get (map f l) 0 ≡ option_map f (slice_get l 0)
  first_map [] = refl
  first_map (x ∷ l) = refl

  pub drop_map : (l : List A) → drop 1 (map f l) ≡ map f (drop 1 l)
  drop_map l = search arith

  pub leave_map : (q : Outgoing A) → outgoing_emit (map_outgoing f q) ≡ option_map (λ (z : A × Outgoing A). (f z.0, map_outgoing f z.1)) (outgoing_emit q)
  leave_map q = bind_both f _ (slice_get q.items 0) _ _ _ (first_map q.items) (λ x. require_map _ (nat_lt 0 q.credit) _ _ (rw (drop_map q.items) refl))

  pub enter_map : (x : A) (b : Incoming A) → incoming_accept (f x) (map_incoming f b) ≡ option_map (map_incoming f) (incoming_accept x b)
  enter_map x b = require_map (map_incoming f) (nat_lt 0 b.granted) _ _ (rw map-append refl)

  pub grant_map : (b : Incoming A) → incoming_grant (map_incoming f b) ≡ option_map (map_incoming f) (incoming_grant b)
  grant_map b = rw length-map (require_map (map_incoming f) (nat_le (length b.items + b.granted + TOKENS_OF_A_GRANT) b.cap) _ _ refl)

  pub credited_map : (q : Outgoing A) → outgoing_credited (map_outgoing f q) ≡ option_map (map_outgoing f) (outgoing_credited q)
  credited_map q = require_map (map_outgoing f) (nat_le (q.credit + TOKENS_OF_A_GRANT) CREDIT_LIMIT) _ _ refl

  pub put_map : (x : A) (q : Outgoing A) → outgoing_put (f x) (map_outgoing f q) ≡ option_map (map_outgoing f) (outgoing_put x q)
  put_map x q = rw length-map (require_map (map_outgoing f) (nat_lt (length q.items) OUTPUT_CAP) _ _ (rw map-append refl))

  pub put_all_map : (xs : List A) (q : Outgoing A) → outgoing_put_all (map f xs) (map_outgoing f q) ≡ option_map (map_outgoing f) (outgoing_put_all xs q)
  put_all_map xs q = rw (length-map q.items f, length-map xs f) (require_map (map_outgoing f) (nat_le (length q.items + length xs) OUTPUT_CAP) _ _ (rw map-append refl))

  -- the four actions of links
  pub s_enter_map : (x : A) (l : ℕ) (S : Switch A) → switch_enter (map_switch f S) l (f x) ≡ option_map (map_switch f) (switch_enter S l x)
  s_enter_map x l S = bind_both (map (map_input f)) (map_switch f) (step_at S.inputs l (input_accept x)) _ _ _ (place_map (map_input f) S.inputs l (input_accept x) (input_accept (f x)) (λ p. bind_both (map_incoming f) (map_input f) (incoming_accept x p.buffer) _ _ _ (enter_map x p.buffer) (λ b. refl))) (λ ps. refl)

  pub s_leave_map : (l : ℕ) (S : Switch A) → switch_leave (map_switch f S) l ≡ option_map (λ (z : A × Switch A). (f z.0, map_switch f z.1)) (switch_leave S l)
  s_leave_map l S = bind_both _ _ (yield_step_at S.outputs l outgoing_emit) _ _ _ (from_map (map_outgoing f) f S.outputs l outgoing_emit outgoing_emit leave_map) (λ r. refl)

  pub s_credit_out_map : (l : ℕ) (S : Switch A) → switch_credit_out (map_switch f S) l ≡ option_map (map_switch f) (switch_credit_out S l)
  s_credit_out_map l S = require_map (map_switch f) S.started _ _ (bind_both (map (map_input f)) (map_switch f) (step_at S.inputs l input_grant) _ _ _ (place_map (map_input f) S.inputs l input_grant input_grant (λ p. bind_both (map_incoming f) (map_input f) (incoming_grant p.buffer) _ _ _ (grant_map p.buffer) (λ b. refl))) (λ ps. refl))

  pub s_credit_in_map : (l : ℕ) (S : Switch A) → switch_credit_in (map_switch f S) l ≡ option_map (map_switch f) (switch_credit_in S l)
  s_credit_in_map l S = bind_both (map (map_outgoing f)) (map_switch f) (step_at S.outputs l outgoing_credited) _ _ _ (place_map (map_outgoing f) S.outputs l outgoing_credited outgoing_credited credited_map) (λ qs. refl)

  -- the four actions of nodes
  pub enter_node_map : (x : A) (l : ℕ) (n : Node A) → node_enter (f x) l (map_node f n) ≡ option_map (map_node f) (node_enter x l n)
  enter_node_map x l n = search (arith, bind_both, s_enter_map, enter_map)

  pub leave_node_map : (l : ℕ) (n : Node A) → node_leave l (map_node f n) ≡ option_map (λ (z : A × Node A). (f z.0, map_node f z.1)) (node_leave l n)
  leave_node_map l n = search (arith, bind_both, s_leave_map, leave_map)

  pub credit_out_node_map : (l : ℕ) (n : Node A) → node_credit_out l (map_node f n) ≡ option_map (map_node f) (node_credit_out l n)
  credit_out_node_map l n = search (arith, bind_both, s_credit_out_map, grant_map)

  pub credit_in_node_map : (l : ℕ) (n : Node A) → node_credit_in l (map_node f n) ≡ option_map (map_node f) (node_credit_in l n)
  credit_in_node_map l n = search (arith, bind_both, s_credit_in_map, credited_map)

  pub drained_map : (T : Terminal A) → terminal_drain (map_terminal f T) ≡ option_map (λ (z : A × Terminal A). (f z.0, map_terminal f z.1)) (terminal_drain T)
  drained_map T = bind_both f _ (slice_get T.input.items 0) _ _ _ (first_map T.input.items) (λ x. ap Some (rw (drop_map T.input.items, map-append f T.arrived (x ∷ [])) refl))

  pub drain_node_map : (n : Node A) → node_drain (map_node f n) ≡ option_map (λ (z : A × Node A). (f z.0, map_node f z.1)) (node_drain n)
  drain_node_map n = search (arith, bind_both, drained_map)
