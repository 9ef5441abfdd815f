-- Turns and claims over one kind of token and over another.
use Rattle.{c104_link.specs.{Buffers.Outgoing, Steps.joint_step_at}, c104_node.specs.MappedNodes.{map_input, map_node, map_outgoing}}
use Rattle.c104_node.specs.{MappedNodes.map_switch, Nodes.{Node, node_claim, node_input}, declared.node.NodeOf.NodeOf}
use Rattle.{c104_regs.specs.declared.settings.Settings.Settings, c104_run.proofs.{SwitchMaps.{decided_map, owned_map}, TokenMaps.bind_both}}
use Rattle.c104_run.proofs.TokenMaps.{bind_same, drop_map, first_map, if_map, map_phase, place_map, put_all_map, put_map, require_map}
use Rattle.{c104_run.proofs.TokenMaps.with_map, c104_switch.specs.Claims.{input_claim, inputs_claim, put_header, switch_claim}}
use Rattle.c104_switch.specs.{Headers.{phase_after_header, random_bytes, random_from, random_header}, Switch.{Input, Switch, is_owned}}
use Rattle.c104_switch.specs.Turns.{header_turn, input_after_token, input_turn, phase_after_token, switch_input, turn_by_phase}
use Rattle.{c104_switch.specs.declared.phase.Phase.{Phase, TheVariants.{Fresh, Head, Sinking, Stream, Want}}, c104_token.specs.Kinds.Kind}
use Rattle.{c104_token.specs.{Tokens.{byte_of, is_end}, declared.tokens.Token.TheVariants.Byte}, std.proofs.Common.{Bool, List, Some, []}}
use Rattle.std.proofs.Common.{ap, arith, false, map, not, option_map, refl, slice_get, suc, true, ℕ, ⊎_elim, ◌&&◌, ◌++◌, ◌∷◌, ◌≡◌}
use Rattle.std.proofs.lemmas.{Bool.cases_Bool, List.{length-map, map-append}}

module _ {A B : Type 0} (f : A → B) (from : Kind A) (to : Kind B) (plain_is : (x : A) → to.plain (f x) ≡ from.plain x) (random_is : (j b : ℕ) → to.random j (Byte b) ≡ f (from.random j (Byte b))) where
  bytes_map : (b : List A) → map (λ x. byte_of (to.plain x)) (map f b) ≡ map (λ x. byte_of (from.plain x)) b
  bytes_map [] = refl
  bytes_map (x ∷ b) = rw (plain_is x, bytes_map b) refl

  used_map : (p : Input A) (ph : Phase (List A)) (a b : Bool) → input_after_token (map_input f p) (map_phase f ph) a b ≡ map_input f (input_after_token p ph a b)
  used_map p ph a b = rw (drop_map f p.buffer.items) refl

  read_map : (s : Settings) (b : List A) → ◌≡◌ {A = Phase (List B) × Bool} (phase_after_header to s (map f b)) (map_phase f (phase_after_header from s b).0, (phase_after_header from s b).1)
  read_map s b = search (arith, length-map, bytes_map, decided_map, cases_Bool)

  header_map : (s : Settings) (p : Input A) (b : List A) (x : A) → header_turn to s (map_input f p) (map f b) (f x) ≡ map_input f (header_turn from s p b x)
  header_map s p b x = rw (plain_is x) (⊎_elim
      (λ (h : is_end (from.plain x) ≡ true). rw h (used_map p Fresh false true))
      (λ (h : is_end (from.plain x) ≡ false). rw (h, ← map-append f b (x ∷ []), read_map s (b ++ x ∷ [])) (used_map p (phase_after_header from s (b ++ x ∷ [])).0 (phase_after_header from s (b ++ x ∷ [])).1 false))
      (cases_Bool (is_end (from.plain x))))

  random_from_map : (j : ℕ) (bs : List ℕ) → random_from to j bs ≡ map f (random_from from j bs)
  random_from_map j [] = refl
  random_from_map j (b ∷ bs) = rw (random_is j b, random_from_map (suc j) bs) refl

  random_map : (s : Settings) (w : ℕ) → random_header to s w ≡ map f (random_header from s w)
  random_map s w = random_from_map 0 (random_bytes s w)

  after_map : (x : A) (ph : Phase (List A)) → phase_after_token to (f x) (map_phase f ph) ≡ map_phase f (phase_after_token from x ph)
  after_map x ph = search (arith, cases_Bool)

  abbrev map_sides : Input A × List (Outgoing A) → Input B × List (Outgoing B)
  map_sides r = (map_input f r.0, map (map_outgoing f) r.1)

  by_phase_map : (s : Settings) (word : ℕ) (p : Input A) (qs : List (Outgoing A)) (ph : Phase (List A)) (x : A) → turn_by_phase to s word (map_input f p) (map (map_outgoing f) qs) (map_phase f ph) (f x) ≡ option_map map_sides (turn_by_phase from s word p qs ph x)
  by_phase_map s word p qs Fresh x = if_map (option_map map_sides) (s.randomize && not (is_end (from.plain x))) _ _ _ _ _ (ap (λ m. s.randomize && not (is_end m)) (plain_is x))
      (rw (random_map s word, read_map s (random_header from s word)) refl)
      (ap (λ z. Some (z, map (map_outgoing f) qs)) (header_map s p [] x))
  by_phase_map s word p qs (Head b) x = ap (λ z. Some (z, map (map_outgoing f) qs)) (header_map s p b x)
  by_phase_map s word p qs (Want b g) x = refl
  by_phase_map s word p qs (Stream o) x = search (arith, bind_both, place_map, put_map, after_map, used_map)
  by_phase_map s word p qs Sinking x = ap (λ z. Some (z, map (map_outgoing f) qs)) (rw (after_map x Sinking) (used_map p (phase_after_token from x Sinking) false false))

  turn_map : (s : Settings) (word : ℕ) (qs : List (Outgoing A)) (p : Input A) → input_turn to s word (map_input f p) (map (map_outgoing f) qs) ≡ option_map map_sides (input_turn from s word p qs)
  turn_map s word qs p = bind_both f map_sides (slice_get p.buffer.items 0) _ _ _ (first_map f p.buffer.items) (λ x. by_phase_map s word p qs p.phase x)

  input_map : (i word : ℕ) (S : Switch A) → switch_input to (map_switch f S) i word ≡ option_map (map_switch f) (switch_input from S i word)
  input_map i word S = require_map (map_switch f) S.started _ _ (bind_same (map_switch f) (slice_get S.settings i) _ _ (λ s.
      bind_both _ (map_switch f) (joint_step_at S.inputs i (λ p. input_turn from s word p S.outputs)) _ _ _ (with_map (map_input f) (map (map_outgoing f)) S.inputs i (λ p. input_turn from s word p S.outputs) (λ p. input_turn to s word p (map (map_outgoing f) S.outputs)) (turn_map s word S.outputs)) (λ r. refl)))

  put_header_map : (s : Settings) (b : List A) (q : Outgoing A) → put_header s (map f b) (map_outgoing f q) ≡ option_map (map_outgoing f) (put_header s b q)
  put_header_map s b q = if_map (option_map (map_outgoing f)) s.delete_header s.delete_header _ _ _ _ refl refl (put_all_map f b q)

  claimed_map : (settings : List Settings) (p : Input A) (qs : List (Outgoing A)) (o : ℕ) (ph : Phase (List A)) → input_claim settings (map_input f p) (map (map_outgoing f) qs) o (map_phase f ph) ≡ option_map map_sides (input_claim settings p qs o ph)
  claimed_map settings p qs o ph = search (arith, require_map, bind_same, bind_both, place_map, put_header_map)

  claim_map : (i o : ℕ) (S : Switch A) → switch_claim (map_switch f S) i o ≡ option_map (map_switch f) (switch_claim S i o)
  claim_map i o S = require_map (map_switch f) S.started _ _ (bind_both (λ (z : List (Input A) × List (Outgoing A)). (map (map_input f) z.0, map (map_outgoing f) z.1)) (map_switch f) (inputs_claim S.settings S.inputs S.outputs i o) _ _ _ (claimed_at_map S.settings S.inputs S.outputs i o) (λ r. refl))
    where
      claimed_at_map : (settings : List Settings) (ps : List (Input A)) (qs : List (Outgoing A)) (i o : ℕ) → inputs_claim settings (map (map_input f) ps) (map (map_outgoing f) qs) i o ≡ option_map (λ (z : List (Input A) × List (Outgoing A)). (map (map_input f) z.0, map (map_outgoing f) z.1)) (inputs_claim settings ps qs i o)
      claimed_at_map settings ps qs i o = rw (owned_map f ps o) (require_map _ (not (is_owned ps o)) _ _ (with_map (map_input f) (map (map_outgoing f)) ps i (λ p. input_claim settings p qs o p.phase) (λ p. input_claim settings p (map (map_outgoing f) qs) o p.phase) (λ p. claimed_map settings p qs o p.phase)))

  pub input_node_map : (i word : ℕ) (n : Node A) → node_input to i word (map_node f n) ≡ option_map (map_node f) (node_input from i word n)
  input_node_map i word n = search (arith, bind_both, input_map)

  pub claim_node_map : (i o : ℕ) (n : Node A) → node_claim i o (map_node f n) ≡ option_map (map_node f) (node_claim i o n)
  claim_node_map i o (NodeOf.Switch S) = bind_both (map_switch f) (map_node f) (switch_claim S i o) _ _ _ (claim_map i o S) (λ s. refl)
  claim_node_map i o (NodeOf.Terminal T) = refl
