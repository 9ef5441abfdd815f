-- What is known of the entries of nodes whose lists audit well.
use Rattle.c104_audit.proofs.{AuditRuns.{far_of, same_kind}, EntryEvents.is_wired_link, EntryHalves.both_true, KeptLeads.kept}
use Rattle.c104_audit.proofs.{Matches.{IsLegal, traces_match}, Matching.AreMatched, NetworkRuns.AreReady, WideNodes.IsWide}
use Rattle.c104_audit.specs.{AuditedRuns.{AreGathered, IsKeptStart, IsWholeNode, node_shape}, Audits.{HasShape, IsAudited, is_leading}}
use Rattle.c104_audit.specs.{Audits.{is_link_wired, is_of_kind}, Leads.{AreRising, list_at}, declared.lists.Lists.Lists}
use Rattle.{c104_crossbar.specs.Groups.has_bit, c104_link.proofs.MadeSteps.All-place, c104_net.proofs.{Members.IsIn, SureOrigins.mapped}}
use Rattle.c104_node.{proofs.BegunRecords.run_kind, specs.{ActLinks.act_link, Acts.node_act, Nodes.{Node, is_switch}, Records.IsNodeRun}}
use Rattle.c104_node.specs.{Records.{MayAct, NodeRecord, NodeRoom, has_link, node_trace}, Starts.start_node, Traces.part}
use Rattle.{c104_node.specs.declared.{acts.{ActOf.ActOf, Entry.Entry}, starts.NodeStart.NodeStart}, c104_plan.specs.Plans.{IsPlan, Plan}}
use Rattle.{c104_plan.specs.Wiring.wires, c104_regs.specs.declared.registers.TheConstants.LINKS, c104_run.specs.NodeRuns.starting_nodes}
use Rattle.{c104_run.specs.Rounds.link_numbers, c104_switch.specs.Actions.Reply, c104_token.specs.Kinds.plain_kind}
use Rattle.{c104_token.specs.declared.tokens.Token.Token, std.proofs.Common.{Bool, List, None, Option, Some, [], ap, arith, false, inl}}
use Rattle.std.proofs.Common.{inr, length, map, nat_lt, option_map, refl, replicate, slice_get, subst, suc, sym, true, unwrap_or, zero, ℕ}
use Rattle.std.proofs.{Common.{◌++◌, ◌+◌, ◌<◌, ◌∙◌, ◌∷◌, ◌≡◌}, lemmas.{Bool.Decides.nat_tests, List.FromFn.get_or-map-range_with_len}}
use Rattle.std.proofs.lemmas.{List.length-map, Option.slice_get-map}
use Rattle.c104_node.specs.declared.node.NodeOf.TheVariants as node

-- an act that a node did is one of its kind
pub act_of_kind : (a : ActOf Token) (n : Node Token) (r : Reply × Node Token) → node_act plain_kind 0 a n ≡ Some r → is_of_kind (is_switch n) a ≡ true
act_of_kind a n r is = search arith

-- an entry of a run was done by a node of the kind
pub record IsNodeEntry (wired : ℕ) (b : Bool) (x : Entry) : Type 0 where
  pub node : Node Token
  pub after : Node Token
  pub may : MayAct wired node x.act
  pub made : node_act plain_kind 0 x.act node ≡ Some (x.reply, after)
  pub kind : is_switch node ≡ b

pub node_entry : (wired : ℕ) (from to : Node Token) (entries : List Entry) (x : Entry) → IsNodeRun wired from entries to → IsIn x entries → IsNodeEntry wired (is_switch from) x
node_entry wired from to [] x run has = absurd has
node_entry wired from to (e ∷ entries) x run (inl same) = subst (IsNodeEntry wired (is_switch from)) (sym same) (record { node = from; after = run.0; may = run.1; made = run.2; kind = refl })
node_entry wired from to (e ∷ entries) x run (inr has) = subst (λ b. IsNodeEntry wired b x) (same_kind wired e.act from run.0 e.reply run.1 run.2) (node_entry wired run.0 to entries x run.3 has)

wide_start : (s : NodeStart) → IsKeptStart s → IsWide (start_node s)
wide_start s kept = search (arith, length-map)

-- nodes of which those before a place are switches stand at their places
pub in_place_by : (nodes : List (Node Token)) (a b : ℕ) → length nodes ≡ a + b → ((k : ℕ) (n : Node Token) → slice_get nodes k ≡ Some n → is_switch n ≡ nat_lt k a) → map is_switch nodes ≡ replicate a true ++ replicate b false
in_place_by [] zero zero long kinds = refl
in_place_by [] zero (suc b) long kinds = absurd (let no : ⊥ = omega (arith, long) in no)
in_place_by [] (suc a) b long kinds = absurd (let no : ⊥ = omega (arith, long) in no)
in_place_by (n ∷ nodes) zero zero long kinds = absurd (let no : ⊥ = omega (arith, long) in no)
in_place_by (n ∷ nodes) zero (suc b) long kinds =
    let first : is_switch n ≡ false = kinds 0 n refl ∙ (let none : nat_lt 0 0 ≡ false = grind (arith, nat_tests) in none) in
    let rest : map is_switch nodes ≡ replicate zero true ++ replicate b false = in_place_by nodes zero b (omega (arith, long)) (λ k m at. kinds (suc k) m at ∙ (let none : nat_lt (suc k) 0 ≡ nat_lt k 0 = grind (arith, nat_tests) in none)) in
    ap (λ c. c ∷ map is_switch nodes) first ∙ ap (λ cs. false ∷ cs) rest
in_place_by (n ∷ nodes) (suc a) b long kinds =
    let first : is_switch n ≡ true = kinds 0 n refl ∙ (let some : nat_lt 0 (suc a) ≡ true = grind (arith, nat_tests) in some) in
    let rest : map is_switch nodes ≡ replicate a true ++ replicate b false = in_place_by nodes a b (omega (arith, long)) (λ k m at. kinds (suc k) m at ∙ (let same : nat_lt (suc k) (suc a) ≡ nat_lt k a = grind (arith, nat_tests) in same)) in
    ap (λ c. c ∷ map is_switch nodes) first ∙ ap (λ cs. true ∷ cs) rest

-- tests that say the same of all links say the same of each
same_link : (p q : ℕ → Bool) → map p link_numbers ≡ map q link_numbers → (l : ℕ) → l < LINKS → p l ≡ q l
unfolding link_numbers
same_link p q same l inside = search (arith, get_or-map-range_with_len)

-- where a node started, as a node
abbrev pub first_state : NodeRecord × NodeRoom → Node Token
first_state n = start_node n.0.start

pub starting_is : (nodes : List (NodeRecord × NodeRoom)) → starting_nodes nodes ≡ map first_state nodes
starting_is [] = refl
starting_is (n ∷ nodes) = ap (λ ms. first_state n ∷ ms) (starting_is nodes)

module _ (plan : Plan) (is_plan : IsPlan plan) (nodes : List (NodeRecord × NodeRoom)) (lists : Lists) (gathered : AreGathered plan nodes lists) (audited : IsAudited lists) where
  abbrev pub Traces : List (List Entry)
  Traces = map node_trace nodes

  -- the node that has an entry at a place
  pub record HasEntry (k : ℕ) (x : Entry) : Type 0 where
    pub node : NodeRecord × NodeRoom
    pub at : slice_get nodes k ≡ Some node
    pub there : IsIn x node.0.trace

  pub node_of : (k : ℕ) (x : Entry) → IsIn x (list_at Traces k) → HasEntry k x
  node_of k x has = by_place (slice_get nodes k) refl (subst (IsIn x) (ap (λ o. unwrap_or o []) (slice_get-map node_trace nodes k)) has)
    where
      by_place : (o : Option (NodeRecord × NodeRoom)) → slice_get nodes k ≡ o → IsIn x (unwrap_or (option_map node_trace o) []) → HasEntry k x
      by_place None at has = absurd has
      by_place (Some n) at has = record { node = n; at = at; there = has }

  pub whole_at : (k : ℕ) (n : NodeRecord × NodeRoom) → slice_get nodes k ≡ Some n → IsWholeNode n
  whole_at k n at = All-place IsWholeNode nodes k n at gathered.whole

  shape_at : (k : ℕ) (n : NodeRecord × NodeRoom) → slice_get nodes k ≡ Some n → HasShape lists k (node_shape n)
  shape_at k n at = audited.shaped k (node_shape n) (ap (λ ns. slice_get ns k) gathered.shapes ∙ slice_get-map node_shape nodes k ∙ ap (option_map node_shape) at)

  pub start_kind : (k : ℕ) (n : NodeRecord × NodeRoom) → slice_get nodes k ≡ Some n → is_switch (first_state n) ≡ nat_lt k (length plan.switches)
  start_kind k n at =
      sym (run_kind n.0.wired (first_state n) n.0.state n.0.trace (whole_at k n at).recorded.run)
      ∙ (shape_at k n at).kind ∙ ap (λ s. nat_lt k s) gathered.switches

  -- the nodes at their starts stand at their places, with all their links
  pub starts_ready : AreReady plan is_plan (map first_state nodes)
  starts_ready = record {
    placed = in_place_by (map first_state nodes) (length plan.switches) (length plan.terminals) (length-map nodes first_state ∙ gathered.counted) (λ k m at. let found = mapped first_state nodes k m at in ap is_switch (sym found.2) ∙ start_kind k found.0 found.1);
    wide = λ k m at. let found = mapped first_state nodes k m at in subst IsWide found.2 (wide_start found.0.0.start (whole_at k found.0 found.1).started);
  }

  -- each entry is legal
  pub entries_legal : (k : ℕ) (x : Entry) → IsIn x (list_at Traces k) → IsLegal plan is_plan k x
  entries_legal k x has = record {
    kind = subst (λ b. is_of_kind b x.act ≡ true) (e.kind ∙ start_kind k h.node h.at) (act_of_kind x.act e.node (x.reply, e.after) e.made);
    linked = by_link (act_link x.act) e.may.linked;
    was = record { node = e.node; after = e.after; short = e.may.short; made = e.made };
  }
    where
      h : HasEntry k x
      h = node_of k x has

      e : IsNodeEntry h.node.0.wired (is_switch (first_state h.node)) x
      e = node_entry h.node.0.wired (first_state h.node) h.node.0.state h.node.0.trace x (whole_at k h.node h.at).recorded.run h.there

      n : NodeRecord × NodeRoom
      n = h.node

      links : map (has_link n.0.wired) link_numbers ≡ map (is_wired_link plan k) link_numbers
      links =
          (shape_at k n h.at).links ∙ ap (λ s. map (is_link_wired s lists.wires k) link_numbers) gathered.switches
          ∙ ap (λ ws. map (is_link_wired (length plan.switches) ws k) link_numbers) gathered.wires

      by_link : (o : Option ℕ) → part true (has_link n.0.wired) o ≡ true → part true (is_wired_link plan k) o ≡ true
      by_link None linked = refl
      by_link (Some l) linked =
          let below : nat_lt l LINKS ≡ true = (both_true (nat_lt l LINKS) (has_bit n.0.wired l) linked).0 in
          sym (same_link (has_link n.0.wired) (is_wired_link plan k) links l (grind (arith, nat_tests))) ∙ linked

  pub entries_rise : (k : ℕ) → AreRising (λ (e : Entry). e.ticket) (list_at Traces k)
  entries_rise k = subst (λ ts. AreRising (λ (e : Entry). e.ticket) (list_at ts k)) gathered.traces (audited.ordered k)

  -- and the traces match
  pub gathered_match : AreMatched (λ (e : Entry). e.ticket) (is_leading (length plan.switches) (wires plan)) (far_of plan) Traces
  gathered_match = traces_match plan is_plan Traces entries_rise entries_legal
      (λ i w at. rw (gathered.switches, gathered.wires, gathered.traces) at audited.ended i w at)
      (λ s i w at. rw (gathered.switches, gathered.wires, gathered.traces) at (audited.called s).ends i w at)
