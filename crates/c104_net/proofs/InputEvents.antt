-- Turns of inputs and claims of a traced run keep the invariant.
use Rattle.{c104_check.specs.{Routes.{IsRandomized, routes_of, settings_at}, Walks.port_of}, c104_event.specs.declared.events.Event.Event}
use Rattle.c104_link.{proofs.MadeSteps.{at_place_made, given, required, with_place_made}, specs.Buffers.{Outgoing, outgoing_put}}
use Rattle.{c104_link.specs.Steps.{joint_step_at, step_at}, c104_net.proofs.InputMoves.{HasRead, claim_step, decide_step, has_few}}
use Rattle.c104_net.proofs.{InputMoves.{has_wire, head_step, random_step, short_step, sink_step, stream_step}, LinkEvents.Leaves}
use Rattle.c104_net.proofs.{LinkEvents.{StillHolds, kept_same, world_of, worlds}, NodeViews.{arrivals, arrivals_same, at_id, content_put}}
use Rattle.c104_net.proofs.NodeViews.{content_take, ins, ins_put, items_in, kinds_same, out_at, outs, outs_put, outs_same, part_set, phases}
use Rattle.c104_net.proofs.{NodeViews.{phases_put, sents_same, settings_same, terminal_fresh}, PacketInvariant.{Holds, IsLabelled, IsWired}}
use Rattle.c104_net.proofs.{PacketInvariant.kept_by, PortChanges.{at, at_other}, RandomHeaders.random_length, TokenMoves.claim_world}
use Rattle.c104_net.{proofs.TokenMoves.{pass_world, read_world, still_world}, specs.Deliveries.deletes}
use Rattle.c104_node.{proofs.NextTokens.first_some, specs.{Nodes.{Node, node_claim, node_input}, Traced.traced_kind, Traces.part}}
use Rattle.{c104_node.specs.declared.{node.NodeOf.NodeOf, traced.Traced.Traced}, c104_plan.specs.{PlanImage.Image, Plans.Plan, Wiring.peer}}
use Rattle.{c104_plan.specs.declared.ports.Port.Port, c104_regs.specs.{Settings.header_length, declared.settings.Settings.Settings}}
use Rattle.c104_run.{proofs.EventSteps.{claim_named, input_named}, specs.Network.{Network, network_of, network_step}}
use Rattle.c104_switch.specs.{Actions.Reply, Claims.{input_claim, inputs_claim, put_header, streaming_input, switch_claim}}
use Rattle.c104_switch.specs.{Group.is_in_group, Headers.{decided_phase, header_value, is_sink, phase_after_header, random_header}}
use Rattle.c104_switch.specs.{Phases.is_stream, Switch.{Input, Switch, is_owned, with_sides}, Turns.{header_turn, input_after_token}}
use Rattle.c104_switch.specs.Turns.{input_turn, phase_after_token, random_turn, switch_input, turn_by_phase}
use Rattle.c104_switch.specs.declared.{actions.ReplyOf.ReplyOf, phase.Phase.{Phase, TheVariants.{Fresh, Head, Sinking, Stream, Want}}}
use Rattle.{c104_token.specs.Tokens.is_end, std.proofs.Common.{Bool, List, Option, Some, [], ap, append-nil, arith, drop, false}}
use Rattle.std.proofs.Common.{if◌then◌else◌, inl, inr, length, length-append, nat_le, nat_lt, not, refl, slice_get, slice_set, subst, suc}
use Rattle.std.proofs.{Common.{sym, true, zero, ℕ, ⊎_elim, ◌&&◌, ◌++◌, ◌<◌, ◌==◌, ◌||◌, ◌∙◌, ◌∷◌, ◌≡◌, ◌≢◌, ◌⊎◌}, lemmas.Bool.and_cases}
use Rattle.std.proofs.lemmas.Bool.{and_parts, cases_Bool, eq-eqb, le-leb, leb-false, leb-true, not-false, not-true, true≢false}
use Rattle.std.proofs.lemmas.Option.{some_pair_parts}
use Rattle.c104_interval.specs.Selection as table

-- a switch with one input changed, and its outputs
abbrev changed : Switch Traced → ℕ → Input Traced → List (Outgoing Traced) → Switch Traced
changed S i p qs = with_sides S (slice_set S.inputs i p, qs)

module _ (plan : Plan) (image : Image) (labelled : IsLabelled (routes_of plan image)) (wired : IsWired (peer plan)) (nodes : List (Node Traced)) (fits : (s : ℕ) (S : Switch Traced) → slice_get nodes s ≡ Some (NodeOf.Switch S) → S.settings ≡ settings_at (routes_of plan image) s)
    (holds : Holds (routes_of plan image) (world_of plan image nodes)) where
  module _ (s i : ℕ) (S : Switch Traced) (is_switch : slice_get nodes s ≡ Some (NodeOf.Switch S)) (p : Input Traced) (is_input : slice_get S.inputs i ≡ Some p) where
    -- what a changed input is to the whole
    input_world : (p' : Input Traced) → world_of plan image (slice_set nodes s (NodeOf.Switch (changed S i p' S.outputs))) ≡ read_world (routes_of plan image) (world_of plan image nodes) (Port.Switch s i) (p'.buffer.items ++ out_at (peer plan) (outs plan nodes) (Port.Switch s i) (peer plan (Port.Switch s i))) p'.phase
    input_world p' =
        let T = changed S i p' S.outputs in
        let n = ins_put plan nodes s S T is_switch i p'.buffer.items (λ j. part_set [] (λ (z : Input Traced). z.buffer.items) S.inputs i j p' p is_input) in
        let o = outs_same plan nodes s S T is_switch (λ j. refl) in
        worlds plan image (rw (arrivals_same plan nodes s S T is_switch, n, o) (content_take (peer plan) wired (arrivals plan nodes) (ins plan nodes) (outs plan nodes) (Port.Switch s i) p'.buffer.items)) (phases_put plan nodes s S T is_switch i p'.phase (λ j. part_set Fresh (λ (z : Input Traced). z.phase) S.inputs i j p' p is_input)) (sents_same plan nodes s S T is_switch)

    module _ (x : Traced) (is_first : p.buffer.items ≡ x ∷ drop 1 p.buffer.items) (s0 : Settings) (is_settings : slice_get S.settings i ≡ Some s0) where
      abbrev xs : List Traced
      xs = drop 1 p.buffer.items

      content : (world_of plan image nodes).content (Port.Switch s i) ≡ x ∷ (xs ++ out_at (peer plan) (outs plan nodes) (Port.Switch s i) (peer plan (Port.Switch s i)))
      content = rw (is_switch, is_input, is_first) refl

      phase_is : (ph : Phase (List Traced)) → p.phase ≡ ph → phases plan nodes (Port.Switch s i) ≡ ph
      phase_is ph e = rw (is_switch, is_input) e

      own_settings : slice_get (settings_at (routes_of plan image) s) i ≡ Some s0
      own_settings = ap (λ l. slice_get l i) (sym (fits s S is_switch)) ∙ is_settings

      HoldsAfter : Input Traced → Type 0
      HoldsAfter p' = Holds (routes_of plan image) (read_world (routes_of plan image) (world_of plan image nodes) (Port.Switch s i) (p'.buffer.items ++ out_at (peer plan) (outs plan nodes) (Port.Switch s i) (peer plan (Port.Switch s i))) p'.phase)

      header_kept : (ph : Phase (List Traced)) (b : List Traced) → p.phase ≡ ph → HasRead (routes_of plan image) labelled wired ph b → (ph ≡ Fresh → (is_end x.token ≡ true) ⊎ (IsRandomized (routes_of plan image) (port_of s i) → ⊥)) → HoldsAfter (header_turn traced_kind s0 p b x)
      unfolding HoldsAfter
      header_kept ph b e h plain =
          let wire = has_wire (routes_of plan image) labelled wired (world_of plan image nodes) holds.0 s i x (xs ++ out_at (peer plan) (outs plan nodes) (Port.Switch s i) (peer plan (Port.Switch s i))) holds.1 ph (phase_is ph e) content b h plain in
          let few : length b < (routes_of plan image).header = has_few (routes_of plan image) labelled wired (world_of plan image nodes) holds.0 s i x (xs ++ out_at (peer plan) (outs plan nodes) (Port.Switch s i) (peer plan (Port.Switch s i))) holds.1 ph (phase_is ph e) content b h plain in
          let len : header_length s0 ≡ (routes_of plan image).header = labelled.accepted.one_length (record { switch = s; link = i }) wire.0 s0 wire.1 own_settings in
          ⊎_elim
          (λ (m : is_end x.token ≡ true). rw m (short_step (routes_of plan image) labelled wired (world_of plan image nodes) holds.0 s i x _ holds.1 ph (phase_is ph e) content b h plain m))
          (λ (m : is_end x.token ≡ false). rw m (⊎_elim
          (λ (k : nat_le (header_length s0) (length (b ++ x ∷ [])) ≡ true). rw k (decide_step (routes_of plan image) labelled wired (world_of plan image nodes) holds.0 s i x _ holds.1 ph (phase_is ph e) content b h plain m (let f = few in let g = length-append b (x ∷ []) in let u = leb-true (header_length s0) (length (b ++ x ∷ [])) k in omega (arith, len)) (table.select s0.table (header_value traced_kind (b ++ x ∷ []))) (rw own_settings refl)))
          (λ (k : nat_le (header_length s0) (length (b ++ x ∷ [])) ≡ false). rw k (head_step (routes_of plan image) labelled wired (world_of plan image nodes) holds.0 s i x _ holds.1 ph (phase_is ph e) content b h plain m (λ n. (let u = leb-false (header_length s0) (length (b ++ x ∷ [])) k in absurd (omega (arith, n, len))))))
          (cases_Bool (nat_le (header_length s0) (length (b ++ x ∷ []))))))
          (cases_Bool (is_end x.token))

      -- a token of the stream goes to the output
      pass_is : (o : ℕ) (R : Port) (q q' : Outgoing Traced) (p' : Input Traced) → slice_get S.outputs o ≡ Some q → q'.items ≡ q.items ++ x ∷ [] → p'.buffer.items ≡ xs → peer plan (Port.Switch s o) ≡ Some R →
          world_of plan image (slice_set nodes s (NodeOf.Switch (changed S i p' (slice_set S.outputs o q')))) ≡ pass_world (routes_of plan image) (world_of plan image nodes) (Port.Switch s i) R x (xs ++ out_at (peer plan) (outs plan nodes) (Port.Switch s i) (peer plan (Port.Switch s i))) p'.phase
      pass_is o R q q' p' eq eq' ep to_r =
          let T = changed S i p' (slice_set S.outputs o q') in
          let n : ins plan (slice_set nodes s (NodeOf.Switch T)) ≡ at (ins plan nodes) (Port.Switch s i) xs = ins_put plan nodes s S T is_switch i xs (λ j. part_set [] (λ (z : Input Traced). z.buffer.items) S.inputs i j p' p is_input ∙ ap (λ (l : List Traced). if j == i then l else items_in S j) ep) in
          let there : q.items ≡ outs plan nodes (Port.Switch s o) = sym (rw (is_switch, eq) refl) in
          let m : outs plan (slice_set nodes s (NodeOf.Switch T)) ≡ at (outs plan nodes) (Port.Switch s o) (outs plan nodes (Port.Switch s o) ++ x ∷ []) = outs_put plan nodes s S T is_switch o q'.items (λ j. part_set [] (λ (z : Outgoing Traced). z.items) S.outputs o j q' q eq) ∙ ap (at (outs plan nodes) (Port.Switch s o)) (eq' ∙ ap (λ l. l ++ x ∷ []) there) in
          let c = content_put (peer plan) wired (arrivals plan nodes) (at (ins plan nodes) (Port.Switch s i) xs) (outs plan nodes) (Port.Switch s o) R (x ∷ []) to_r in
          let t = content_take (peer plan) wired (arrivals plan nodes) (ins plan nodes) (outs plan nodes) (Port.Switch s i) xs in
          worlds plan image
          (rw (arrivals_same plan nodes s S T is_switch, n, m) (c ∙ ap (λ (f : Port → List Traced). at f R (f R ++ x ∷ [])) t ∙ ap (λ (l : List Traced). at (at (world_of plan image nodes).content (Port.Switch s i) (xs ++ out_at (peer plan) (outs plan nodes) (Port.Switch s i) (peer plan (Port.Switch s i)))) R (l ++ x ∷ [])) (at_other (world_of plan image nodes).content (Port.Switch s i) R _ (wired.apart (Port.Switch s i) R o to_r))))
          (phases_put plan nodes s S T is_switch i p'.phase (λ j. part_set Fresh (λ (z : Input Traced). z.phase) S.inputs i j p' p is_input)) (sents_same plan nodes s S T is_switch)

      -- what an input and the outputs become
      HoldsWith : Input Traced × List (Outgoing Traced) → Type 0
      HoldsWith r = Holds (routes_of plan image) (world_of plan image (slice_set nodes s (NodeOf.Switch (changed S i r.0 r.1))))

      fresh_kept : (word : ℕ) (r : Input Traced × List (Outgoing Traced)) → p.phase ≡ Fresh → turn_by_phase traced_kind s0 word p S.outputs Fresh x ≡ Some r → HoldsWith r
      unfolding HoldsAfter HoldsWith
      fresh_kept word r e f = ⊎_elim
          (λ (m : (s0.randomize && not (is_end x.token)) ≡ true). random m)
          (λ (m : (s0.randomize && not (is_end x.token)) ≡ false).
          (let d : (header_turn traced_kind s0 p [] x, S.outputs) ≡ r = (let f' : Some (header_turn traced_kind s0 p [] x, S.outputs) ≡ Some r = rw m at f in cc) in
          subst HoldsWith d (kept_same plan image _ _ (input_world (header_turn traced_kind s0 p [] x)) (header_kept Fresh [] e refl (λ k. plain m)))))
          (cases_Bool (s0.randomize && not (is_end x.token)))
        where
          not_set : s0.randomize ≡ false → (y : Settings) → slice_get (settings_at (routes_of plan image) s) i ≡ Some y → y.randomize ≡ true → ⊥
          not_set k y at random = let is : Some s0 ≡ Some y = sym own_settings ∙ at in let same : s0 ≡ y = cc in true≢false (sym random ∙ ap (λ (z : Settings). z.randomize) (sym same) ∙ k)

          plain : (s0.randomize && not (is_end x.token)) ≡ false → (is_end x.token ≡ true) ⊎ (IsRandomized (routes_of plan image) (port_of s i) → ⊥)
          plain m = ⊎_elim (λ (k : s0.randomize ≡ false). inr (λ z. not_set k z.0 z.1 z.2)) (λ k. inl (not-false (is_end x.token) k)) (and_cases s0.randomize (not (is_end x.token)) m)

          random : (s0.randomize && not (is_end x.token)) ≡ true → HoldsWith r
          random m =
              let u = and_parts s0.randomize (not (is_end x.token)) m in
              let rs = random_header traced_kind s0 word in
              let sel = table.select s0.table (header_value traced_kind rs) in
              let k : Holds (routes_of plan image) (still_world (routes_of plan image) (world_of plan image nodes) (Port.Switch s i) (decided_phase rs sel)) = random_step (routes_of plan image) labelled wired (world_of plan image nodes) holds.0 s i x _ holds.1 Fresh (phase_is Fresh e) content s0 word own_settings u.0 refl sel (rw own_settings refl) in
              let h : phase_after_header traced_kind s0 rs ≡ (decided_phase rs sel, is_sink sel) = rw (le-leb (header_length s0) (length rs) (let u = random_length s0 word 0 in omega (arith, u))) refl in
              let p' = random_turn traced_kind s0 word p in
              let d : (p', S.outputs) ≡ r = (let f' : Some (p', S.outputs) ≡ Some r = rw m at f in cc) in
              let still : read_world (routes_of plan image) (world_of plan image nodes) (Port.Switch s i) (p.buffer.items ++ out_at (peer plan) (outs plan nodes) (Port.Switch s i) (peer plan (Port.Switch s i))) (phase_after_header traced_kind s0 rs).0 ≡ still_world (routes_of plan image) (world_of plan image nodes) (Port.Switch s i) (decided_phase rs sel) =
              worlds plan image (at_id (world_of plan image nodes).content (Port.Switch s i) _ (ap (λ l. l ++ out_at (peer plan) (outs plan nodes) (Port.Switch s i) (peer plan (Port.Switch s i))) is_first ∙ sym content)) (ap (λ (z : Phase (List Traced) × Bool). at (phases plan nodes) (Port.Switch s i) z.0) h) refl in
              subst HoldsWith d (kept_same plan image _ _ (input_world p' ∙ still) k)

      phase_kept : (word : ℕ) (r : Input Traced × List (Outgoing Traced)) (ph : Phase (List Traced)) → p.phase ≡ ph → turn_by_phase traced_kind s0 word p S.outputs ph x ≡ Some r → HoldsWith r
      unfolding HoldsAfter HoldsWith
      phase_kept word r Fresh e f = fresh_kept word r e f
      phase_kept word r (Head b) e f =
          let d : (header_turn traced_kind s0 p b x, S.outputs) ≡ r = cc in
          subst HoldsWith d (kept_same plan image _ _ (input_world (header_turn traced_kind s0 p b x)) (header_kept (Head b) b e refl (λ k. absurd (cc))))
      phase_kept word r (Want b l) e f = absurd (cc)
      phase_kept word r (Stream o) e f = given (step_at S.outputs o (outgoing_put x)) _ r f (λ rs f1 f2. at_place_made S.outputs o (outgoing_put x) rs f1 (λ q q' eq g d1. required (nat_lt (length q.items) 8) _ q' g (λ h g2.
          (let p' = input_after_token p (phase_after_token traced_kind x (Stream o)) false false in
          let came : record { items = q.items ++ x ∷ []; credit = q.credit } ≡ q' = cc in
          let d : (p', slice_set S.outputs o q') ≡ r = cc in
          let k = stream_step (routes_of plan image) labelled wired (world_of plan image nodes) holds.0 s i x _ holds.1 (Stream o) (phase_is (Stream o) e) content o refl in
          subst HoldsWith d (kept_same plan image _ _ (pass_is o k.0 q q' p' eq (sym (ap (λ (z : Outgoing Traced). z.items) came)) refl k.1) k.2)))))
      phase_kept word r Sinking e f =
          let p' = input_after_token p (phase_after_token traced_kind x Sinking) false false in
          let d : (p', S.outputs) ≡ r = cc in
          subst HoldsWith d (kept_same plan image _ _ (input_world p') (sink_step (routes_of plan image) labelled wired (world_of plan image nodes) holds.0 s i x _ holds.1 Sinking (phase_is Sinking e) content refl))

      turn_kept : (word : ℕ) (r : Input Traced × List (Outgoing Traced)) → turn_by_phase traced_kind s0 word p S.outputs p.phase x ≡ Some r → Holds (routes_of plan image) (world_of plan image (slice_set nodes s (NodeOf.Switch (changed S i r.0 r.1))))
      unfolding HoldsWith
      turn_kept word r f = search (arith, phase_kept)

  -- the nodes with one switch changed are what an event leaves
  changed_leaves : (net' : Network Traced) (s i : ℕ) (S S' : Switch Traced) (n' : Node Traced) (y : Input Traced × List (Outgoing Traced)) (v : List (Input Traced) × List (Outgoing Traced)) (ended : List (Node Traced)) (r : Reply) → slice_get nodes s ≡ Some (NodeOf.Switch S) →
      ◌≡◌ {A = List (Input Traced) × List (Outgoing Traced)} (slice_set S.inputs i y.0, y.1) v → Some (with_sides S v) ≡ Some S' → ◌≡◌ {A = Option (Node Traced)} (Some (NodeOf.Switch S')) (Some n') → slice_set nodes s n' ≡ ended → ◌≡◌ {A = Option (Reply × Network Traced)} (Some (ReplyOf.Done, network_of plan ended)) (Some (r, net')) →
      Holds (routes_of plan image) (world_of plan image (slice_set nodes s (NodeOf.Switch (changed S i y.0 y.1)))) → Leaves plan image nodes net' (StillHolds plan image)
  changed_leaves net' s i S S' n' y v ended r e a b b2 c d k =
      let T = changed S i y.0 y.1 in
      let b' : with_sides S v ≡ S' = cc in
      let b2' : NodeOf.Switch S' ≡ n' = cc in
      record {
        nodes' = slice_set nodes s (NodeOf.Switch T);
        is = ap (λ (z : List (Input Traced) × List (Outgoing Traced)). network_of plan (slice_set nodes s (NodeOf.Switch (with_sides S z)))) a ∙ ap (λ z. network_of plan (slice_set nodes s (NodeOf.Switch z))) b' ∙ ap (λ z. network_of plan (slice_set nodes s z)) b2' ∙ ap (network_of plan) c ∙ (some_pair_parts ReplyOf.Done r (network_of plan ended) net' d).1;
        settings_are = settings_same plan nodes s S T e refl;
        kinds_are = kinds_same plan nodes s S T e;
        holds = k;
      }

  pub input_kept : (net' : Network Traced) (s i word : ℕ) (r : Reply) → network_step traced_kind (network_of plan nodes) (Event.Input s i word) ≡ Some (r, net') → Leaves plan image nodes net' (StillHolds plan image)
  input_kept net' s i word r e =
      given (step_at nodes s (node_input traced_kind i word)) _ (r, net') (input_named traced_kind (network_of plan nodes) s i word ∙ e) (λ ended ea e2.
      at_place_made nodes s (node_input traced_kind i word) ended ea (λ n n' en en' hv. by_node n n' en en' ended hv e2))
    where
      by_node : (n n' : Node Traced) → slice_get nodes s ≡ Some n → node_input traced_kind i word n ≡ Some n' → (ended : List (Node Traced)) → slice_set nodes s n' ≡ ended → ◌≡◌ {A = Option (Reply × Network Traced)} (Some (ReplyOf.Done, network_of plan ended)) (Some (r, net')) → Leaves plan image nodes net' (StillHolds plan image)
      by_node (NodeOf.Terminal T) n' en en' ended hv e2 = absurd (cc)
      by_node (NodeOf.Switch S) n' en en' ended hv e2 =
          given (switch_input traced_kind S i word) _ n' en' (λ S' eS' d0.
          required S.started _ S' eS' (λ h f1.
          given (slice_get S.settings i) _ S' f1 (λ s0 es f2.
          given (joint_step_at S.inputs i (λ p. input_turn traced_kind s0 word p S.outputs)) _ S' f2 (λ v ev f3.
          with_place_made S.inputs i (λ p. input_turn traced_kind s0 word p S.outputs) v ev (λ p y ep ey d1.
          given (slice_get p.buffer.items 0) _ y ey (λ x ex f4.
          (let k = turn_kept s i S en p ep x (first_some p.buffer.items x ex) s0 es word y f4 in
          changed_leaves net' s i S S' n' y v ended r en d1 f3 d0 hv e2 k)))))))

  or_false : (a b : Bool) → (a || b) ≡ false → b ≡ false
  or_false a b h = search (arith, true≢false)

  not_owned : (inputs : List (Input Traced)) (o j : ℕ) → is_owned inputs o ≡ false → part Fresh (λ (z : Input Traced). z.phase) (slice_get inputs j) ≢ Stream o
  not_owned [] o j h = λ e. absurd (cc)
  not_owned (p ∷ inputs) o zero h = λ e. (let f : is_stream o p.phase ≡ true = ap (is_stream o) e ∙ eq-eqb o o refl in absurd (true≢false (rw f at h)))
  not_owned (p ∷ inputs) o (suc j) h = not_owned inputs o j (or_false (is_stream o p.phase) (is_owned inputs o) h)

  -- what a header does to an output
  header_put : (so : Settings) (b : List Traced) (q q' : Outgoing Traced) → put_header so b q ≡ Some q' → q'.items ≡ (if so.delete_header then q.items else q.items ++ b)
  header_put so b q q' e = grind arith

  claimed_kept : (s i o : ℕ) (S : Switch Traced) (eS : slice_get nodes s ≡ Some (NodeOf.Switch S)) (free : is_owned S.inputs o ≡ false) (p : Input Traced) (ep : slice_get S.inputs i ≡ Some p) (y : Input Traced × List (Outgoing Traced)) (ph : Phase (List Traced)) → p.phase ≡ ph → input_claim S.settings p S.outputs o ph ≡ Some y → Holds (routes_of plan image) (world_of plan image (slice_set nodes s (NodeOf.Switch (changed S i y.0 y.1))))
  claimed_kept s i o S eS free p ep y (Want b g) e f =
      required (is_in_group S.settings g o) _ y f (λ group f1.
      given (slice_get S.settings o) _ y f1 (λ so es f2.
      given (step_at S.outputs o (put_header so b)) _ y f2 (λ qs e3 f3.
      at_place_made S.outputs o (put_header so b) qs e3 (λ q q' eq g3 d3.
      (let p' = streaming_input p o in
      let T = changed S i p' (slice_set S.outputs o q') in
      let d : (p', slice_set S.outputs o q') ≡ y = cc in
      let own : S.settings ≡ settings_at (routes_of plan image) s = fits s S eS in
      let wants : phases plan nodes (Port.Switch s i) ≡ Want b g = rw (eS, ep) e in
      let k = claim_step (routes_of plan image) labelled wired (world_of plan image nodes) holds.0 s i o g b holds.1 wants (rw own at group) (λ j z. not_owned S.inputs o j free (rw eS at z)) (terminal_fresh plan nodes) in
      let R = k.0 in
      let out : List Traced = kept_by (routes_of plan image) (Port.Switch s o) b in
      let deletes_is : deletes (routes_of plan image) (Port.Switch s o) ≡ so.delete_header = rw (← own, es) refl in
      let items : q'.items ≡ outs plan nodes (Port.Switch s o) ++ out = header_put so b q q' g3 ∙ kept_items so.delete_header (deletes (routes_of plan image) (Port.Switch s o)) q.items b deletes_is ∙ ap (λ l. l ++ out) (sym (rw (eS, eq) refl)) in
      let n : ins plan (slice_set nodes s (NodeOf.Switch T)) ≡ ins plan nodes = ins_put plan nodes s S T eS i p.buffer.items (λ j. part_set [] (λ (z : Input Traced). z.buffer.items) S.inputs i j p' p ep) ∙ at_id (ins plan nodes) (Port.Switch s i) p.buffer.items (sym (rw (eS, ep) refl)) in
      let m : outs plan (slice_set nodes s (NodeOf.Switch T)) ≡ at (outs plan nodes) (Port.Switch s o) (outs plan nodes (Port.Switch s o) ++ out) = outs_put plan nodes s S T eS o q'.items (λ j. part_set [] (λ (z : Outgoing Traced). z.items) S.outputs o j q' q eq) ∙ ap (at (outs plan nodes) (Port.Switch s o)) items in
      let world : world_of plan image (slice_set nodes s (NodeOf.Switch T)) ≡ claim_world (routes_of plan image) (world_of plan image nodes) (Port.Switch s i) R out o = worlds plan image (rw (arrivals_same plan nodes s S T eS, n, m) (content_put (peer plan) wired (arrivals plan nodes) (ins plan nodes) (outs plan nodes) (Port.Switch s o) R out k.1)) (phases_put plan nodes s S T eS i (Stream o) (λ j. part_set Fresh (λ (z : Input Traced). z.phase) S.inputs i j p' p ep)) (sents_same plan nodes s S T eS) in
      subst (λ z. Holds (routes_of plan image) (world_of plan image (slice_set nodes s (NodeOf.Switch (changed S i z.0 z.1))))) d (kept_same plan image _ _ world k.2))))))
    where
      kept_items : (b b' : Bool) (l v : List Traced) → b' ≡ b → (if b then l else l ++ v) ≡ l ++ (if b' then [] else v)
      kept_items true b' l v e = rw e (sym (append-nil l))
      kept_items false b' l v e = rw e refl
  claimed_kept s i o S eS free p ep y ph e f = absurd (cc)

  pub claim_kept : (net' : Network Traced) (s i o : ℕ) (r : Reply) → network_step traced_kind (network_of plan nodes) (Event.Claim s i o) ≡ Some (r, net') → Leaves plan image nodes net' (StillHolds plan image)
  claim_kept net' s i o r e =
      given (step_at nodes s (node_claim i o)) _ (r, net') (claim_named traced_kind (network_of plan nodes) s i o ∙ e) (λ ended ea e2.
      at_place_made nodes s (node_claim i o) ended ea (λ n n' en en' hv. by_node n n' en en' ended hv e2))
    where
      by_node : (n n' : Node Traced) → slice_get nodes s ≡ Some n → node_claim i o n ≡ Some n' → (ended : List (Node Traced)) → slice_set nodes s n' ≡ ended → ◌≡◌ {A = Option (Reply × Network Traced)} (Some (ReplyOf.Done, network_of plan ended)) (Some (r, net')) → Leaves plan image nodes net' (StillHolds plan image)
      by_node (NodeOf.Terminal T) n' en en' ended hv e2 = absurd (cc)
      by_node (NodeOf.Switch S) n' en en' ended hv e2 =
          given (switch_claim S i o) _ n' en' (λ S' eS' d0.
          required S.started _ S' eS' (λ h f1.
          given (inputs_claim S.settings S.inputs S.outputs i o) _ S' f1 (λ v ev f3.
          required (not (is_owned S.inputs o)) _ v ev (λ free f4.
          with_place_made S.inputs i (λ p. input_claim S.settings p S.outputs o p.phase) v f4 (λ p y ep ey d1.
          (let k = claimed_kept s i o S en (not-true (is_owned S.inputs o) free) p ep y p.phase refl ey in
          changed_leaves net' s i S S' n' y v ended r en d1 f3 d0 hv e2 k))))))
