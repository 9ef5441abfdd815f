-- Which claims of a network with its record can't be made, and that claims only add to these.
use Rattle.c104_deadlock.proofs.{ClaimedSwitches.{claims_fewer, streams_on}, FairTurns.ClaimsLaw, RecordedRounds.applied_plain}
use Rattle.{c104_event.specs.declared.{events.Event.Event, faults.EventFault.EventFault}, c104_link.proofs.MadeSteps.{at_place_made, given}}
use Rattle.{c104_link.specs.Steps.step_at, c104_node.{proofs.WireEnds.get_set_same, specs.Nodes.{Node, as_switch, node_claim}}}
use Rattle.{c104_node.specs.declared.node.NodeOf.NodeOf, c104_run.proofs.{DoneEvents.done_law, EventSteps.{claim_named, done_step}}}
use Rattle.c104_run.proofs.{IdleRounds.records_count, LinkOrders.other_turns, RecordSteps.done_made, RoundRuns.{Applied, is_told}}
use Rattle.c104_run.{proofs.RoundRuns.step_replies, specs.{NetRecords.{NetRecord, is_done}, Network.{Network, event_fault, event_limit}}}
use Rattle.c104_run.specs.Network.{network_step, outcome_if_possible, outcome_if_ready, outcome_within_limit, with_nodes}
use Rattle.{c104_run.specs.RecordedRuns.{DoneLaw, record_apply}, c104_switch.specs.{Actions.{Reply, is_ready}, Claims.switch_claim}}
use Rattle.{c104_switch.specs.{Switch.Switch, declared.actions.ReplyOf.ReplyOf}, c104_token.specs.Kinds.plain_kind}
use Rattle.{c104_token.specs.declared.tokens.Token.Token, std.proofs.Common.{Bool, Err, List, None, Ok, Option, Result, Some, ap, false}}
use Rattle.std.proofs.Common.{inl, inr, is_some, refl, slice_get, slice_set, subst, sym, true, ℕ, ◌∙◌, ◌≡◌, ◌≢◌, ◌⊎◌}
use Rattle.std.proofs.lemmas.{Bool.cases_eq, Option.some_pair_parts}

-- a change at a place can't be made exactly where it can't of the element there
module _ {X : Type 0} (xs : List X) (k : ℕ) (f : X → Option X) where
  none_there : (x : X) → slice_get xs k ≡ Some x → f x ≡ None → step_at xs k f ≡ None
  none_there x here none = rw here (rw none refl)

  there_none : (x : X) (made : Option X) → slice_get xs k ≡ Some x → f x ≡ made → step_at xs k f ≡ None → made ≡ None
  there_none x None here is none = refl
  there_none x (Some y) here is none =
      absurd (let some : step_at xs k f ≡ Some (slice_set xs k y) = rw here (rw is refl) in cc (some, none))

  -- so it can't either in a list that has the same there
  none_alike : (ys : List X) → slice_get ys k ≡ slice_get xs k → step_at xs k f ≡ None → step_at ys k f ≡ None
  none_alike ys same none = by_found (slice_get xs k) refl
    where
      by_found : (found : Option X) → slice_get xs k ≡ found → step_at ys k f ≡ None
      by_found None here = rw (same ∙ here) refl
      by_found (Some x) here = let made : f x ≡ None = there_none x (f x) here refl none in rw (same ∙ here) (rw made refl)

module _ (k c : ℕ) (n m : Node Token) (made : node_claim k c n ≡ Some m) where
  abbrev HasClaimed : Type 0
  HasClaimed = (s : Switch Token) × (t : Switch Token) × (n ≡ NodeOf.Switch s) × (m ≡ NodeOf.Switch t) × (switch_claim s k c ≡ Some t)

  -- only a switch claims
  has_claimed : HasClaimed
  has_claimed = by_node n refl made
    where
      by_node : (node : Node Token) → n ≡ node → node_claim k c node ≡ Some m → HasClaimed
      by_node (NodeOf.Terminal t) is made = absurd (cc made)
      by_node (NodeOf.Switch s) is made = given (switch_claim s k c) as_switch m made (λ t claimed last. (s, t, is, cc, claimed))

  no_claim : (i o : ℕ) (s : Switch Token) (found : Option (Switch Token)) → switch_claim s i o ≡ found →
      node_claim i o (NodeOf.Switch s) ≡ None → found ≡ None
  no_claim i o s None is none = refl
  no_claim i o s (Some t) is none =
      absurd (let some : node_claim i o (NodeOf.Switch s) ≡ Some (NodeOf.Switch t) = rw is refl in cc (some, none))

  none_of : (i o : ℕ) (s : Switch Token) → switch_claim s i o ≡ None → m ≡ NodeOf.Switch s → node_claim i o m ≡ None
  none_of i o s none is = rw is (rw none refl)

  node_streams : (o : ℕ) → node_claim k o m ≡ None
  node_streams o = let h : HasClaimed = has_claimed in none_of k o h.1 (streams_on h.0 h.1 k c h.4 o) h.3

  node_fewer : (i o : ℕ) → node_claim i o n ≡ None → node_claim i o m ≡ None
  node_fewer i o none =
      let h : HasClaimed = has_claimed in
      none_of i o h.1
      (claims_fewer h.0 h.1 k c h.4 i o (no_claim i o h.0 (switch_claim h.0 i o) refl (subst (λ z. node_claim i o z ≡ None) h.2 none))) h.3

-- no such claim can be made of these nodes
abbrev NoClaim : List (Node Token) → ℕ → ℕ → ℕ → Type 0
NoClaim nodes s i o = step_at nodes s (node_claim i o) ≡ None

module _ (nodes after : List (Node Token)) (t k c : ℕ) (made : step_at nodes t (node_claim k c) ≡ Some after) where
  nodes_stream : (o : ℕ) → NoClaim after t k o
  nodes_stream o = at_place_made nodes t (node_claim k c) after made (λ n m here step set.
      none_there after t (node_claim k o) m (ap (λ ns. slice_get ns t) (sym set) ∙ get_set_same nodes t n m here)
      (node_streams k c n m step o))

  nodes_fewer : (s i o : ℕ) → NoClaim nodes s i o → NoClaim after s i o
  nodes_fewer s i o none =
      at_place_made nodes t (node_claim k c) after made (λ n m here step set. by_place n m here step set (cases_eq s t))
    where
      by_place : (n m : Node Token) → slice_get nodes t ≡ Some n → node_claim k c n ≡ Some m → slice_set nodes t m ≡ after →
          (s ≡ t) ⊎ (s ≢ t) → NoClaim after s i o
      by_place n m here step set (inr other) =
          none_alike nodes s (node_claim i o) after (ap (λ ns. slice_get ns s) (sym set) ∙ other_turns nodes t m s other) none
      by_place n m here step set (inl same) =
          let before : node_claim i o n ≡ None =
          there_none nodes t (node_claim i o) n (node_claim i o n) here refl (subst (λ j. NoClaim nodes j i o) same none) in
          subst (λ j. NoClaim after j i o) (sym same)
          (none_there after t (node_claim i o) m (ap (λ ns. slice_get ns t) (sym set) ∙ get_set_same nodes t n m here)
          (node_fewer k c n m step i o before))

-- no such claim can be made
abbrev pub IsIdle : NetRecord → ℕ → ℕ → ℕ → Type 0
IsIdle net s i o = NoClaim net.network.nodes s i o

module _ (net : NetRecord) (s i o : ℕ) where
  abbrev claim : Event
  claim = Event.Claim s i o

  abbrev made : Option (List (Node Token))
  made = step_at net.network.nodes s (node_claim i o)

  abbrev after : NetRecord
  after = (record_apply net claim).1

  named : done_step plain_kind net.network made ≡ network_step plain_kind net.network claim
  named = claim_named plain_kind net.network s i o

  -- a claim that is done can be made
  ready_done : is_done (record_apply net claim).0 ≡ true → IsIdle net s i o → ⊥
  unfolding DoneLaw
  ready_done done idle =
      let would = ((done_law net claim).0 done).0 in
      let step : done_step plain_kind net.network made ≡ None = ap (done_step plain_kind net.network) idle in
      let none : is_some (network_step plain_kind net.network claim) ≡ false = ap is_some (sym named ∙ step) in
      cc (none, would.1)

  -- one that is answered, and isn't done, can't
  idle_step : (found : Option (List (Node Token))) → made ≡ found → network_step plain_kind net.network claim ≡ None → found ≡ None
  idle_step None is none = refl
  idle_step (Some ns) is none = absurd (let some = sym (ap (done_step plain_kind net.network) is) ∙ named ∙ none in cc some)

  module _ (r : Reply) (waits : is_ready r ≡ false) where
    by_limit : (x : Reply × Network Token) (limit : Option EventFault) → network_step plain_kind net.network claim ≡ Some x →
        (outcome_within_limit plain_kind net.network limit x).0 ≡ Ok r → ⊥
    by_limit x None is told =
        let ready : is_ready x.0 ≡ true = is_told x.0 (step_replies plain_kind net.network claim x is) in let same : x.0 ≡ r = cc in
        cc (ready, same, waits)
    by_limit x (Some f) is told = cc told

    by_step : (step : Option (Reply × Network Token)) → network_step plain_kind net.network claim ≡ step →
        (outcome_if_ready plain_kind net.network claim step).0 ≡ Ok r → step ≡ None
    by_step None is told = refl
    by_step (Some x) is told = absurd (by_limit x (event_limit net.network claim) is told)

    by_fault : (fault : Option EventFault) → (outcome_if_possible plain_kind net.network claim fault).0 ≡ Ok r →
        network_step plain_kind net.network claim ≡ None
    by_fault None told = by_step (network_step plain_kind net.network claim) refl told
    by_fault (Some f) told = absurd (cc told)

    waits_idle : (record_apply net claim).0 ≡ Ok r → IsIdle net s i o
    waits_idle told =
        idle_step made refl
        (by_fault (event_fault net.network.plan claim) (sym (ap (λ (z : Applied (Network Token)). z.0) (applied_plain net claim r told))))

  -- one that is done is made at its switch
  made_done : (answer : Result Reply EventFault) → (record_apply net claim).0 ≡ answer → is_done answer ≡ true →
      made ≡ Some after.network.nodes
  made_done (Err f) told done = absurd (cc done)
  made_done (Ok r) told done =
      let stepped : network_step plain_kind net.network claim ≡ Some (r, after.network) =
      done_made plain_kind net.network after.network r claim (applied_plain net claim r told) done in
      given made (λ ns. Some (ReplyOf.Done, with_nodes net.network ns)) (r, after.network) (named ∙ stepped) (λ ns is last.
      (let whole : with_nodes net.network ns ≡ after.network =
      (some_pair_parts ReplyOf.Done r (with_nodes net.network ns) after.network last).1 in
      is ∙ ap (λ (z : Network Token). Some z.nodes) whole))

  idle_after : (t j u : ℕ) → IsIdle net t j u → IsIdle after t j u
  idle_after t j u idle = by_done (is_done (record_apply net claim).0) refl
    where
      by_done : (done : Bool) → is_done (record_apply net claim).0 ≡ done → IsIdle after t j u
      by_done true done =
          nodes_fewer net.network.nodes after.network.nodes s i o (made_done (record_apply net claim).0 refl done) t j u idle
      by_done false undone = subst (λ z. IsIdle z t j u) (sym (records_count.stays net claim undone)) idle

pub claims_law : ClaimsLaw NetRecord record_apply IsIdle
claims_law = record {
  ready = ready_done;
  waits = λ net s i o r told waits. waits_idle net s i o r waits told;
  streams =
      λ net s i o u done. nodes_stream net.network.nodes (after net s i o).network.nodes s i o
      (made_done net s i o (record_apply net (Event.Claim s i o)).0 refl done) u;
  fewer = λ net t k c s i o idle. idle_after net t k c s i o idle;
}
