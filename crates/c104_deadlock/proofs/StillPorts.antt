-- In an accepted network that stands still packets are blocked only where dependencies lead into a cycle.
use Rattle.c104_check.{proofs.RouteLemmas.own_link, specs.ChannelDependencies.{Depends, IsBeginningBy, IsRanking, MayComeBy}}
use Rattle.c104_check.specs.{FirstCycles.LeadsOver, Parts.Begins, Routes.{IsAccepted, IsEntryOf, Reaches, Routes, routes_of, settings_at}}
use Rattle.c104_check.specs.{Routes.to_port, Walks.port_of, declared.ports.SwitchPort.SwitchPort}
use Rattle.c104_deadlock.proofs.{BlockedInputs.{lead_on, none_leads, phase_seen, seen_of, tokens_of}, StillEvents.IsStill}
use Rattle.c104_deadlock.{proofs.StillWires.{arrived, claimed, drained, stuck}, specs.BlockedInputs.{HoldsTokens, IsBlocked, IsBlockedBy}}
use Rattle.{c104_event.specs.declared.events.Event.Event, c104_net.proofs.{Channels.IsChannel, LinkEvents.world_of, NodeViews.ins}}
use Rattle.c104_net.proofs.{NodeViews.{node_phase, outs, phases, terminal_fresh}, PacketInvariant.{Ghost, IsChosen, IsLabelled, IsPiece}}
use Rattle.c104_net.proofs.{PacketInvariant.{IsWired, Suits, World, beside, group_at}, PlanWires.wired, Promises.{IsSettled, IsStart, each}}
use Rattle.c104_net.proofs.{Promises.{set_is, starts}, RunSteps.{header_cases, header_positive}, SentBytes.AreBytesSent}
use Rattle.{c104_net.specs.Unchanged.IsUnchanged, c104_node.specs.{Nodes.{Node, is_switch}, Quiet.IsQuietNode, Traced.traced_kind}}
use Rattle.{c104_node.specs.{Traces.part, declared.{node.NodeOf.NodeOf, traced.Traced.Traced}}, c104_plan.specs.PlanImage.Image}
use Rattle.{c104_plan.specs.{Plans.{IsPlan, Plan}, Wiring.peer, declared.ports.Port.Port}, c104_regs.specs.Groups.continues_at}
use Rattle.c104_run.{proofs.{BalancePlaces.switches_first, BalanceWires.peer_back}, specs.{Balance.IsSteady, Network.{Network, network_of}}}
use Rattle.c104_run.specs.{Network.terminal_place, QuietNets.IsQuiet, Runs.IsDoneRun, Standstill.IsStarted}
use Rattle.c104_switch.specs.{Actions.Reply, Group.is_in_group, Switch.{Input, Switch}, declared.phase.Phase.{Phase, TheVariants.Fresh}}
use Rattle.{c104_switch.specs.declared.phase.Phase.TheVariants.{Head, Sinking, Stream, Want}, std.proofs.Common.{Bool, List, None, Option}}
use Rattle.std.proofs.Common.{Some, [], ap, arith, false, get_or, inl, inr, length, nat_lt, refl, slice_get, subst, suc, sym, true, zero, ℕ}
use Rattle.std.proofs.{Common.{⊎_elim, ◌++◌, ◌+◌, ◌-◌, ◌<◌, ◌∙◌, ◌∷◌, ◌≡◌, ◌≢◌, ◌≤◌, ◌⊎◌}, lemmas.Bool.{Decides.nat_tests, cases_eq}}
use Rattle.std.proofs.lemmas.Option.{slice_get-get_or}
use Rattle.c104_plan.specs.declared.ports.Port.TheVariants as port

module _ {A : Type 0} where
  stream_or_not : (ph : Phase (List A)) (o : ℕ) → (ph ≡ Stream o) ⊎ (ph ≢ Stream o)
  stream_or_not ph o = search (arith, cases_eq)

  abbrev phase_of : List (Input A) → ℕ → Phase (List A)
  phase_of inputs k = part Fresh (λ (p : Input A). p.phase) (slice_get inputs k)

  -- some input streams to an output, or none does
  pub streaming : (inputs : List (Input A)) (o : ℕ) → ((k : ℕ) × (phase_of inputs k ≡ Stream o)) ⊎ ((k : ℕ) → phase_of inputs k ≢ Stream o)
  streaming [] o = inr (λ k e. absurd (cc))
  streaming (p ∷ inputs) o = ⊎_elim (λ (e : p.phase ≡ Stream o). inl (0, e)) (λ (n : p.phase ≢ Stream o). rest n (streaming inputs o)) (stream_or_not p.phase o)
    where
      rest : p.phase ≢ Stream o → ((k : ℕ) × (phase_of inputs k ≡ Stream o)) ⊎ ((k : ℕ) → phase_of inputs k ≢ Stream o) → ((k : ℕ) × (phase_of (p ∷ inputs) k ≡ Stream o)) ⊎ ((k : ℕ) → phase_of (p ∷ inputs) k ≢ Stream o)
      rest n (inl h) = inl (suc h.0, h.1)
      rest n (inr h) = inr none
        where
          none : (k : ℕ) → phase_of (p ∷ inputs) k ≢ Stream o
          none zero = n
          none (suc k) = h k

pub nothing : {X : Type 0} (xs ys : List X) → xs ++ ys ≡ [] → (xs ≡ []) × (ys ≡ [])
nothing [] ys e = (refl, e)
nothing (x ∷ xs) ys e = absurd (cc)

module _ (routes : Routes) (wired : IsWired routes.peer) where
  -- a wire leads to an input
  abbrev HasWire : SwitchPort → Type 0
  HasWire p = (P : Port) × (routes.peer (to_port p) ≡ Some P)

  -- one leads to an entry, and to where a header may come
  entry_wire : (t : ℕ) (entry : SwitchPort) → IsEntryOf routes t entry → HasWire entry
  entry_wire t entry at = (port.Terminal t, wired.back (port.Terminal t) (to_port entry) at)

  reached_wire : (h m : ℕ) (x p : SwitchPort) → HasWire x → Reaches routes h m x p → HasWire p
  reached_wire h zero x p at same = subst HasWire same at
  reached_wire h (suc m) x p at (z, from, follows) = (port.Switch z.switch follows.1, wired.back (port.Switch z.switch follows.1) (to_port p) follows.4)

  -- so one leads to where packets begin to go by a header, and to where they may come by it
  begun_wire : (entry p : SwitchPort) (behind : Bool) → HasWire entry → Begins routes entry behind p → HasWire p
  begun_wire entry p behind at begins = search (arith, reached_wire)

  beginning_wire : (h : ℕ) (p : SwitchPort) → IsBeginningBy routes h p → HasWire p
  beginning_wire h p begins = search (arith, begun_wire, entry_wire)

  arrived_wire : (h : ℕ) (p : SwitchPort) → MayComeBy routes h p → HasWire p
  arrived_wire h p (x, m, begins, reaches) = reached_wire h m x p (beginning_wire h x begins) reaches

  pub chosen_wire : (Q : Port) (l : ℕ) → IsChosen routes Q l → (P : Port) × (routes.peer Q ≡ Some P)
  chosen_wire (port.Switch s i) l c = arrived_wire c.0 (port_of s i) c.1
  chosen_wire (port.Terminal t) l c = absurd c

  pub depends_on : (s i l o s' i' : ℕ) → IsChosen routes (port.Switch s i) l → group_at routes (port.Switch s i) l o ≡ true → routes.peer (port.Switch s o) ≡ Some (port.Switch s' i') → Depends routes (port_of s i) (port_of s' i')
  depends_on s i l o s' i' c group wire = (c.0, (c.1, (l, o, c.2, group, wire)))

  module _ (w : World) (g : Ghost) where
    -- an input that has read all of its packet waits for one
    fresh_of : (Q : Port) (ph : Phase (List Traced)) → Suits routes w.book g Q ph → g.rest Q ≡ [] → ph ≡ Fresh
    fresh_of Q ph u e = grind arith

    -- and so does one without a wire
    no_wire : {X : Type 0} (Q : Port) → routes.peer Q ≡ None → (P : Port) × (routes.peer Q ≡ Some P) → X
    no_wire Q none h = let e : None ≡ Some h.0 = sym none ∙ h.1 in absurd (cc)

    pub unwired_fresh : (Q : Port) (ph : Phase (List Traced)) → Suits routes w.book g Q ph → routes.peer Q ≡ None → ph ≡ Fresh
    unwired_fresh Q Fresh u none = refl
    unwired_fresh Q (Head b) u none = no_wire Q none u.3.wire
    unwired_fresh Q (Want b l) u none = no_wire Q none (chosen_wire Q l u.4)
    unwired_fresh Q (Stream o) u none = no_wire Q none (chosen_wire Q u.4 u.5)
    unwired_fresh Q Sinking u none = no_wire Q none (u.2, u.3)

    -- and nothing stands before it
    pub unwired_content : (Q : Port) (content due : List Traced) → routes.peer Q ≡ None → IsChannel (IsPiece routes w.book Q) [] content due → content ≡ []
    unwired_content Q content due none run = search (arith, no_wire)

module _ (plan : Plan) (image : Image) (is_plan : IsPlan plan) (labelled : IsLabelled (routes_of plan image)) (nodes : List (Node Traced)) (good : IsSettled plan image is_plan labelled nodes) (steady : IsSteady (network_of plan nodes)) (started : IsStarted (network_of plan nodes)) (still : IsStill traced_kind (network_of plan nodes)) where
  abbrev w : World
  w = world_of plan image nodes

  abbrev g : Ghost
  g = good.holds.0

  terminal_streams : (t o : ℕ) → phases plan nodes (port.Terminal t) ≡ Stream o → ⊥
  terminal_streams t o e = let f : Fresh ≡ Stream o = sym (terminal_fresh plan nodes t) ∙ e in cc

  -- whose stream goes out at a switch's output
  owner_cases : (s o : ℕ) → ((k : ℕ) × (phases plan nodes (port.Switch s k) ≡ Stream o)) ⊎ ((k : ℕ) → phases plan nodes (port.Switch s k) ≢ Stream o)
  owner_cases s o = by_node (slice_get nodes s) refl
    where
      by_node : (n : Option (Node Traced)) → slice_get nodes s ≡ n → ((k : ℕ) × (part Fresh (node_phase (port.Switch s k)) n ≡ Stream o)) ⊎ ((k : ℕ) → part Fresh (node_phase (port.Switch s k)) n ≢ Stream o)
      by_node (Some (NodeOf.Switch S)) e = streaming S.inputs o
      by_node n e = inr (λ k f. absurd (cc))

  -- what streams on from an input goes on where the output is empty
  streams_on : (s k o : ℕ) (P Q : Port) → peer plan (port.Switch s k) ≡ Some P → peer plan (port.Switch s o) ≡ Some Q → phases plan nodes (port.Switch s k) ≡ Stream o → outs plan nodes (port.Switch s o) ≡ [] → ins plan nodes (port.Switch s k) ≡ []
  streams_on s k o P Q wire to_q streams none = search (arith, stuck)

  -- what an input streams is what its output's far input waits for
  abbrev Streams : ℕ → ℕ → ℕ → Type 0
  Streams s k o = Suits (routes_of plan image) (world_of plan image nodes).book good.holds.0 (port.Switch s k) (Stream o)

  streams_suit : (s k o : ℕ) → phases plan nodes (port.Switch s k) ≡ Stream o → Streams s k o
  streams_suit s k o e = rw e at (good.holds.1.suits (port.Switch s k))

  -- no packet is half way at an input with nothing before it: it would be so at the input before, which began earlier
  abbrev Idle : ℕ → ℕ → Port → Type 0
  Idle s l P = peer plan (port.Switch s l) ≡ Some P → ins plan nodes (port.Switch s l) ≡ [] → good.holds.0.rest (port.Switch s l) ≡ []

  idle_step : (s l : ℕ) (P : Port) → ((s' k : ℕ) (P' : Port) → good.holds.0.began (port.Switch s' k) < good.holds.0.began (port.Switch s l) → Idle s' k P') → Idle s l P
  idle_step s l P before wire none = by_rest (good.holds.0.rest (port.Switch s l)) refl
    where
      gone : outs plan nodes P ≡ []
      gone = drained traced_kind plan is_plan nodes steady started still P (port.Switch s l) (peer_back plan is_plan (port.Switch s l) P wire) none

      empty : (world_of plan image nodes).content (port.Switch s l) ≡ []
      empty = rw (none, wire) gone

      -- nothing is due from a terminal, nor where nothing streams
      from : (P : Port) → peer plan (port.Switch s l) ≡ Some P → outs plan nodes P ≡ [] → (y : Traced) (ys : List Traced) → good.holds.0.rest (port.Switch s l) ≡ y ∷ ys → good.holds.0.due (port.Switch s l) ≡ y ∷ ys → ⊥
      from (port.Terminal t) wire gone y ys left due = let e : [] ≡ y ∷ ys = sym (good.holds.1.free (port.Switch s l) (port.Terminal t) wire unowned) ∙ due in cc
        where
          unowned : (Q : Port) (o : ℕ) → phases plan nodes Q ≡ Stream o → beside Q o ≢ port.Terminal t
          unowned (port.Switch s' j) o e = λ h. absurd (cc)
          unowned (port.Terminal u) o e = λ h. terminal_streams u o e
      from (port.Switch s' o) wire gone y ys left due = ⊎_elim
          (λ (h : (k : ℕ) × (phases plan nodes (port.Switch s' k) ≡ Stream o)). streamed h.0 h.1)
          (λ (h : (k : ℕ) → phases plan nodes (port.Switch s' k) ≢ Stream o). (let e : [] ≡ y ∷ ys = sym (good.holds.1.free (port.Switch s l) (port.Switch s' o) wire (unowned h)) ∙ due in cc))
          (owner_cases s' o)
        where
          back : peer plan (port.Switch s' o) ≡ Some (port.Switch s l)
          back = peer_back plan is_plan (port.Switch s l) (port.Switch s' o) wire

          unowned : ((k : ℕ) → phases plan nodes (port.Switch s' k) ≢ Stream o) → (Q : Port) (p : ℕ) → phases plan nodes Q ≡ Stream p → beside Q p ≢ port.Switch s' o
          unowned free (port.Switch s1 j) p e = λ h. (let es : s1 ≡ s' = cc in let eo : p ≡ o = cc in free j (ap (λ z. phases plan nodes (port.Switch z j)) (sym es) ∙ e ∙ ap Stream eo))
          unowned free (port.Terminal t) p e = λ h. absurd (cc)

          to_come : length ((world_of plan image nodes).content (port.Switch s l)) < length (good.holds.0.rest (port.Switch s l))
          to_come = let none : length ((world_of plan image nodes).content (port.Switch s l)) ≡ 0 = ap length empty in let some : length (good.holds.0.rest (port.Switch s l)) ≡ suc (length ys) = ap length left in omega (arith, none, some)

          streamed : (k : ℕ) → phases plan nodes (port.Switch s' k) ≡ Stream o → ⊥
          streamed k e =
              let u = streams_suit s' k o e in
              let earlier = good.holds.1.ordered (port.Switch s' k) (port.Switch s l) o e back to_come in
              let at = chosen_wire (routes_of plan image) (wired plan is_plan) (port.Switch s' k) u.4 u.5 in
              let read = before s' k at.0 earlier at.1 (streams_on s' k o at.0 (port.Switch s l) at.1 back e gone) in
              rw read at u.0

      by_rest : (r : List Traced) → good.holds.0.rest (port.Switch s l) ≡ r → good.holds.0.rest (port.Switch s l) ≡ []
      by_rest [] e = e
      by_rest (y ∷ ys) e =
          let run : IsChannel (IsPiece (routes_of plan image) (world_of plan image nodes).book (port.Switch s l)) (y ∷ ys) [] (good.holds.0.due (port.Switch s l)) = rw (e, empty) at (good.holds.1.channel (port.Switch s l)) in
          absurd (from P wire gone y ys e run)

  idle_by : (n s l : ℕ) (P : Port) → good.holds.0.began (port.Switch s l) < n → Idle s l P
  idle_by zero s l P h = absurd (omega (arith, h))
  idle_by (suc n) s l P h = idle_step s l P (λ s' k P' less. idle_by n s' k P' (omega (arith, h, less)))

  idle : (s l : ℕ) (P : Port) → Idle s l P
  idle s l P = idle_by (suc (good.holds.0.began (port.Switch s l))) s l P (omega arith)

  -- an input holds tokens
  abbrev Holds : SwitchPort → Type 0
  Holds p = HoldsTokens nodes p

  -- the packet at an input is blocked by inputs that hold tokens, and the input depends on one of them
  abbrev IsStuckAt : SwitchPort → Type 0
  IsStuckAt p = IsBlockedBy (routes_of plan image) Holds p (phases plan nodes (to_port p)) × ((q : SwitchPort) × Depends (routes_of plan image) p q × Holds q)

  -- nothing waits at an output that leads to a terminal, so what something waits at leads to an input that holds tokens
  leads_on : (s o : ℕ) (R : Port) → peer plan (port.Switch s o) ≡ Some R → outs plan nodes (port.Switch s o) ≢ [] → (q : SwitchPort) × (peer plan (port.Switch s o) ≡ Some (to_port q)) × Holds q
  leads_on s o (port.Terminal t) to_t some = absurd (some (drained traced_kind plan is_plan nodes steady started still (port.Switch s o) (port.Terminal t) to_t (arrived traced_kind plan is_plan nodes steady started still t (port.Switch s o) (peer_back plan is_plan (port.Switch s o) (port.Terminal t) to_t))))
  leads_on s o (port.Switch s' l') to_q some = (port_of s' l', to_q, tokens_of plan nodes (port_of s' l') (λ none. some (drained traced_kind plan is_plan nodes steady started still (port.Switch s o) (port.Switch s' l') to_q none)))

  -- at each link that is wanted something waits: else another input has it, and nothing left to read
  module _ (s l : ℕ) (P : Port) (wire : peer plan (port.Switch s l) ≡ Some P) (b : List Traced) (c : ℕ) (wants : phases plan nodes (port.Switch s l) ≡ Want b c) where
    suits_want : Suits (routes_of plan image) (world_of plan image nodes).book good.holds.0 (port.Switch s l) (Want b c)
    suits_want = rw wants at (good.holds.1.suits (port.Switch s l))

    few : length b ≤ 8
    few = let long = suits_want.3 in ⊎_elim (λ (h : (routes_of plan image).header ≡ 1). omega (arith, h, long)) (λ (h : (routes_of plan image).header ≡ 2). omega (arith, h, long)) (header_cases plan image)

    set_group : (o : ℕ) → group_at (routes_of plan image) (port.Switch s l) c o ≡ true → (S : Switch Traced) → slice_get nodes s ≡ Some (NodeOf.Switch S) → is_in_group S.settings c o ≡ true
    set_group o group S here = ap (λ settings. is_in_group settings c o) (set_is plan image is_plan labelled nodes good.set s S here) ∙ group

    taken : (o : ℕ) (R : Port) → peer plan (port.Switch s o) ≡ Some R → group_at (routes_of plan image) (port.Switch s l) c o ≡ true → outs plan nodes (port.Switch s o) ≢ []
    taken o R to_r group = λ none. (
        let k = claimed traced_kind plan is_plan nodes steady started still s l c o b P R wire to_r wants (set_group o group) none few in
        let v = streams_suit s k.0 o k.1 in
        let at = chosen_wire (routes_of plan image) (wired plan is_plan) (port.Switch s k.0) v.4 v.5 in
        let read = idle s k.0 at.0 at.1 (streams_on s k.0 o at.0 R at.1 to_r k.1 none) in
        rw read at v.0)

    wants_stuck : IsStuckAt (port_of s l)
    wants_stuck =
        let u = suits_want in
        let into : (o : ℕ) → group_at (routes_of plan image) (port.Switch s l) c o ≡ true → (q : SwitchPort) × (peer plan (port.Switch s o) ≡ Some (to_port q)) × Holds q = λ o group. (let out = u.2 o group in leads_on s o out.0 out.1 (taken o out.0 out.1 group)) in
        let own : group_at (routes_of plan image) (port.Switch s l) c c ≡ true = own_link (continues_at (settings_at (routes_of plan image) s)) c in
        let q = into c own in
        (subst (IsBlockedBy (routes_of plan image) Holds (port_of s l)) (sym wants) into, (q.0, (u.4.0, (u.4.1, (c, c, u.4.2, own, q.1))), q.2))

  -- so an input that holds tokens is stuck
  stuck_at : (s l : ℕ) (P : Port) → peer plan (port.Switch s l) ≡ Some P → ins plan nodes (port.Switch s l) ≢ [] → IsStuckAt (port_of s l)
  stuck_at s l P wire some = ⊎_elim (λ (e : ins plan nodes (port.Switch s l) ≡ []). absurd (some e))
      (λ (h : ((b : List Traced) × (o : ℕ) × (phases plan nodes (port.Switch s l) ≡ Want b o)) ⊎ ((o : ℕ) × (phases plan nodes (port.Switch s l) ≡ Stream o) × ((T : Port) → peer plan (port.Switch s o) ≡ Some T → 8 ≤ length (outs plan nodes (port.Switch s o))))). ⊎_elim
      (λ (h : (b : List Traced) × (o : ℕ) × (phases plan nodes (port.Switch s l) ≡ Want b o)). wants_stuck s l P wire h.0 h.1 h.2)
      (λ (h : (o : ℕ) × (phases plan nodes (port.Switch s l) ≡ Stream o) × ((T : Port) → peer plan (port.Switch s o) ≡ Some T → 8 ≤ length (outs plan nodes (port.Switch s o)))). streams h.0 h.1 h.2)
      h)
      (stuck traced_kind plan is_plan nodes steady started still s l P wire)
    where
      streams : (o : ℕ) → phases plan nodes (port.Switch s l) ≡ Stream o → ((T : Port) → peer plan (port.Switch s o) ≡ Some T → 8 ≤ length (outs plan nodes (port.Switch s o))) → IsStuckAt (port_of s l)
      streams o e full =
          let u = streams_suit s l o e in
          let q = leads_on s o u.1 u.2 (λ none. (let over : 8 ≤ 0 = rw none at (full u.1 u.2) in omega (arith, over))) in
          (subst (IsBlockedBy (routes_of plan image) Holds (port_of s l)) (sym e) q, (q.0, (u.5.0, (u.5.1, (u.4, o, u.5.2, u.6, q.1))), q.2))

  record IsQuietPort (Q : Port) : Type 0 where
    none_in : ins plan nodes Q ≡ []
    none_out : outs plan nodes Q ≡ []
    waits : phases plan nodes Q ≡ Fresh

  -- nothing stands at a port without a wire
  unwired_quiet : (Q : Port) → peer plan Q ≡ None → IsQuietPort Q
  unwired_quiet Q e =
      let fresh = unwired_fresh (routes_of plan image) (wired plan is_plan) (world_of plan image nodes) good.holds.0 Q (phases plan nodes Q) (good.holds.1.suits Q) e in
      let read : good.holds.0.rest Q ≡ [] = rw fresh at (good.holds.1.suits Q) in
      let run : IsChannel (IsPiece (routes_of plan image) (world_of plan image nodes).book Q) [] ((world_of plan image nodes).content Q) (good.holds.0.due Q) = rw read at (good.holds.1.channel Q) in
      let none : (world_of plan image nodes).content Q ≡ [] = unwired_content (routes_of plan image) (wired plan is_plan) (world_of plan image nodes) good.holds.0 Q ((world_of plan image nodes).content Q) (good.holds.0.due Q) e run in
      let both = parts _ (rw e at none) in
      record { none_in = both.0; none_out = both.1; waits = fresh }
    where
      parts : (a : List Traced) → a ++ (ins plan nodes Q ++ outs plan nodes Q) ≡ [] → (ins plan nodes Q ≡ []) × (outs plan nodes Q ≡ [])
      parts a e = nothing (ins plan nodes Q) (outs plan nodes Q) (nothing a (ins plan nodes Q ++ outs plan nodes Q) e).1

  all_stuck : (p : SwitchPort) → Holds p → IsStuckAt p
  all_stuck p here = by_peer (peer plan (to_port p)) refl
    where
      some : ins plan nodes (to_port p) ≢ []
      some = seen_of plan nodes p here

      by_peer : (o : Option Port) → peer plan (to_port p) ≡ o → IsStuckAt p
      by_peer None e = let q = unwired_quiet (to_port p) e in absurd (some q.none_in)
      by_peer (Some P) e = stuck_at p.switch p.link P e some

  all_lead : (p : SwitchPort) → Holds p → (k : ℕ) → LeadsOver (routes_of plan image) k p
  all_lead = lead_on (routes_of plan image) Holds (λ p here. (all_stuck p here).1)

  -- where no input of a switch holds tokens there are none anywhere
  module _ (none : (p : SwitchPort) → Holds p → ⊥) where
    -- nothing stands at a port that has a wire
    none_in : (Q P : Port) → peer plan Q ≡ Some P → ins plan nodes Q ≡ []
    none_in (port.Terminal t) P wire = arrived traced_kind plan is_plan nodes steady started still t P wire
    none_in (port.Switch s l) P wire = by_items (ins plan nodes (port.Switch s l)) refl
      where
        by_items : (xs : List Traced) → ins plan nodes (port.Switch s l) ≡ xs → ins plan nodes (port.Switch s l) ≡ []
        by_items [] e = e
        by_items (x ∷ xs) e = absurd (none (port_of s l) (tokens_of plan nodes (port_of s l) (λ empty. let f : [] ≡ x ∷ xs = sym empty ∙ e in cc)))

    rest_read : (Q P : Port) → peer plan Q ≡ Some P → good.holds.0.rest Q ≡ []
    rest_read (port.Switch s l) P wire = idle s l P wire (none_in (port.Switch s l) P wire)
    rest_read (port.Terminal t) P wire = rw (terminal_fresh plan nodes t) at (good.holds.1.suits (port.Terminal t))

    quiet_port : (Q : Port) → IsQuietPort Q
    quiet_port Q = by_peer (peer plan Q) refl
      where
        by_peer : (o : Option Port) → peer plan Q ≡ o → IsQuietPort Q
        by_peer None e = unwired_quiet Q e
        by_peer (Some P) e = record {
          none_in = none_in Q P e;
          none_out = drained traced_kind plan is_plan nodes steady started still Q P e (none_in P Q (peer_back plan is_plan Q P e));
          waits = fresh_of (routes_of plan image) (wired plan is_plan) (world_of plan image nodes) good.holds.0 Q (phases plan nodes Q) (good.holds.1.suits Q) (rest_read Q P e);
        }

    node_quiet : (k : ℕ) (n : Node Traced) → slice_get nodes k ≡ Some n → IsQuietNode n
    node_quiet k (NodeOf.Switch S) e = (
      λ i d inside.
          let p = get_or S.inputs i d in
          let is : slice_get S.inputs i ≡ Some p = slice_get-get_or S.inputs i d inside in
          let q = quiet_port (port.Switch k i) in
          let items : ins plan nodes (port.Switch k i) ≡ p.buffer.items = rw (e, is) refl in
          let phase : phases plan nodes (port.Switch k i) ≡ p.phase = rw (e, is) refl in
          (sym items ∙ q.none_in, sym phase ∙ q.waits),
      λ i d inside.
          let p = get_or S.outputs i d in
          let is : slice_get S.outputs i ≡ Some p = slice_get-get_or S.outputs i d inside in
          let q = quiet_port (port.Switch k i) in
          let items : outs plan nodes (port.Switch k i) ≡ p.items = rw (e, is) refl in
          sym items ∙ q.none_out,
    )
    node_quiet k (NodeOf.Terminal T) e = by_test (nat_lt k (length plan.switches)) refl
      where
        by_test : (b : Bool) → nat_lt k (length plan.switches) ≡ b → IsQuietNode (NodeOf.Terminal T)
        by_test true is =
            let inside : k < length plan.switches = grind (arith, nat_tests) in
            let f : is_switch (NodeOf.Terminal T) ≡ true = switches_first plan nodes steady.in_place k (NodeOf.Terminal T) inside e in
            absurd (cc f)
        by_test false is =
            let past : length plan.switches ≤ k = grind (arith, nat_tests) in
            let t : ℕ = k - length plan.switches in
            let place : terminal_place plan t ≡ k = omega (arith, past) in
            let here : slice_get nodes (terminal_place plan t) ≡ Some (NodeOf.Terminal T) = ap (slice_get nodes) place ∙ e in
            let q = quiet_port (port.Terminal t) in
            let i : ins plan nodes (port.Terminal t) ≡ T.input.items = rw here refl in
            let o : outs plan nodes (port.Terminal t) ≡ T.output.items = rw here refl in
            (sym i ∙ q.none_in, sym o ∙ q.none_out)

    none_quiet : IsQuiet (network_of plan nodes)
    none_quiet = λ k d inside. node_quiet k (get_or nodes k d) (slice_get-get_or nodes k d inside)

  pub all_blocked : IsBlocked (routes_of plan image) (network_of plan nodes)
  all_blocked = record {
    blocked = λ p here. subst (IsBlockedBy (routes_of plan image) Holds p) (sym (phase_seen plan nodes p)) (all_stuck p here).0;
    leads = all_lead;
    quiet = none_quiet;
  }

  -- where ranks fall along the dependencies none of them leads into a cycle
  pub all_quiet : (rank : SwitchPort → ℕ) → IsRanking (routes_of plan image) rank → IsQuiet (network_of plan nodes)
  all_quiet rank falls = none_quiet (λ p here. none_leads (routes_of plan image) rank falls p (all_lead p here))

-- in a network that is accepted and that nobody changes: where no event of a round can be done, packets are blocked only
-- where dependencies lead into a cycle
pub standing : (image : Image) (start ended : Network Traced) (events : List (Event × Reply)) → IsPlan start.plan → IsAccepted (routes_of start.plan image) → IsStart image start → IsDoneRun traced_kind start events ended → IsUnchanged (routes_of start.plan image) events → AreBytesSent events →
    IsSteady ended → IsStarted ended → IsStill traced_kind ended → IsBlocked (routes_of start.plan image) ended
standing image start ended events is_plan accepted is_start is_run all sent steady started still =
    let labelled : IsLabelled (routes_of start.plan image) = record { accepted = accepted; positive = header_positive start.plan image } in
    let k = each start.plan image is_plan labelled start.nodes ended events is_run all sent (starts start.plan image is_plan labelled start.nodes is_start) in
    subst (IsBlocked (routes_of start.plan image)) k.1 (all_blocked start.plan image is_plan labelled k.0 k.2 (subst IsSteady (sym k.1) steady) (subst IsStarted (sym k.1) started) (subst (IsStill traced_kind) (sym k.1) still))
