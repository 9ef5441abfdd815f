-- A switch is quiet where all its links are seen to be, and only there; and a run that begins keeps the
-- balance.
use Rattle.{c104_link.specs.Buffers.Outgoing, c104_node.{proofs.EachSoFar.each_next, specs.{Nodes.Node, Quiet.{IsQuietInput, IsQuietNode}}}}
use Rattle.c104_node.specs.Quiet.{IsQuietOutput, IsQuietSwitch, is_fresh, is_quiet_view}
use Rattle.{c104_regs.specs.declared.registers.TheConstants.LINKS, c104_switch.specs.{Soundness.IsSound, Switch.Input}}
use Rattle.c104_switch.specs.{Switch.Switch as SwitchState, Views.{link_view, phase_view}, declared.phase.Phase.{Phase, TheVariants.Fresh}}
use Rattle.{c104_token.specs.Kinds.Kind, std.proofs.Common.{Bool, List, Some, [], arith, false, get_or, length, nat_eq, refl, slice_get}}
use Rattle.std.proofs.{Common.{sym, true, ℕ, ◌&&◌, ◌+◌, ◌<◌, ◌∙◌, ◌∷◌, ◌≡◌}, lemmas.{Bool.Decides.nat_tests, Option.slice_get-get_or}}

-- where one of two is not, not both are
both : (a b : Bool) → (a && b) ≡ true → (a ≡ true) × (b ≡ true)
both true b is = (refl, is)
both false b is = cc

empty_is : {X : Type 0} (xs : List X) → nat_eq (length xs) 0 ≡ true → xs ≡ []
empty_is [] is = refl
empty_is (x ∷ xs) is = let none : length (x ∷ xs) ≡ 0 = grind (arith, nat_tests) in absurd (let no : ⊥ = omega arith in no)

module _ {A : Type 0} (kind : Kind A) where
  fresh_is : (phase : Phase (List A)) → is_fresh (phase_view kind phase) ≡ true → phase ≡ Fresh
  fresh_is phase is = search arith

  -- what is seen of the two sides of a link
  abbrev seen : Input A → Outgoing A → Bool
  seen p q = nat_eq (length p.buffer.items) 0 && (nat_eq (length q.items) 0 && is_fresh (phase_view kind p.phase))

  seen_quiet : (p : Input A) (q : Outgoing A) → seen p q ≡ true → IsQuietInput p × IsQuietOutput q
  seen_quiet p q is = search (arith, both, empty_is, fresh_is)

  module _ (s : SwitchState A) (sound : IsSound s) where
    view_is : (l : ℕ) (p : Input A) (q : Outgoing A) → slice_get s.inputs l ≡ Some p → slice_get s.outputs l ≡ Some q → is_quiet_view (link_view kind s l) ≡ seen p q
    view_is l p q input output = rw (input, output) refl

    -- all links are seen to be quiet
    pub all_quiet : ((l : ℕ) → l < LINKS → is_quiet_view (link_view kind s l) ≡ true) → IsQuietSwitch s
    all_quiet quiet = (
      λ i p inside.
          let q : Outgoing A = get_or s.outputs i (record { items = []; credit = 0 }) in
          (seen_quiet (get_or s.inputs i p) q (sym (view_is i (get_or s.inputs i p) q (slice_get-get_or s.inputs i p inside) (slice_get-get_or s.outputs i (record { items = []; credit = 0 }) (omega (arith, sound.inputs, sound.outputs)))) ∙ quiet i (omega (arith, sound.inputs)))).0,
      λ i q inside.
          let p : Input A = get_or s.inputs i (record { buffer = record { cap = 0; items = []; granted = 0 }; phase = Fresh; sunk = 0; short = 0 }) in
          (seen_quiet p (get_or s.outputs i q) (sym (view_is i p (get_or s.outputs i q) (slice_get-get_or s.inputs i (record { buffer = record { cap = 0; items = []; granted = 0 }; phase = Fresh; sunk = 0; short = 0 }) (omega (arith, sound.inputs, sound.outputs))) (slice_get-get_or s.outputs i q inside)) ∙ quiet i (omega (arith, sound.outputs)))).1,
    )

-- the nodes up to one, and this one
pub quiet_next : {A : Type 0} (nodes : List (Node A)) (i : ℕ) (n : Node A) → i < length nodes → n ≡ get_or nodes i n → IsQuietNode n → ((k : ℕ) (d : Node A) → k < i → IsQuietNode (get_or nodes k d)) → (k : ℕ) (d : Node A) → k < i + 1 → IsQuietNode (get_or nodes k d)
quiet_next nodes i n = each_next IsQuietNode nodes i n
