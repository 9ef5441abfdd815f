-- In a run whose traces tell of no change nobody changed the network, so its switches end as they started.
use Rattle.{c104_check.specs.Routes.{IsAccepted, Routes, routes_of, settings_at, settings_in}, c104_event.specs.declared.events.Event.Event}
use Rattle.{c104_link.proofs.MadeSteps.All-place, c104_net.proofs.{EventEntries.{all_events, lone_is}, LedEvents.IsTold}}
use Rattle.c104_net.proofs.{NodeViews.{node_settings, settings_seen}, PacketInvariant.IsLabelled, Promises.{each, starts}}
use Rattle.c104_net.proofs.{RunSteps.header_positive, SentBytes.{AreBytesSent, SendsBytes}, StartMaps.starts_are, TracedRuns.traced_from}
use Rattle.{c104_net.specs.Unchanged.{AreStartsOf, IsUnchanged, MayHappen}, c104_node.specs.MappedNodes.{map_node, map_switch}}
use Rattle.c104_node.specs.{Nodes.Node, Quiet.node_begin, Starts.{start_node, start_of}, Traces.{Deed, part, seatless}}
use Rattle.c104_node.specs.declared.{acts.{ActOf.ActOf, Entry.Entry}, node.NodeOf.NodeOf, stamps.Stamp.Stamp, starts.NodeStart.NodeStart}
use Rattle.{c104_node.specs.declared.traced.Traced.Traced, c104_plan.specs.{PlanImage.Image, Plans.{IsPlan, Plan}}}
use Rattle.{c104_regs.specs.declared.settings.Settings.Settings, c104_run.specs.{Balance.AreInPlace, EventDeeds.event_deeds}}
use Rattle.c104_run.specs.{EventPlaces.event_place, NetRecords.{IsNetRecord, NetRecord, fresh_record, record_begun_if}, Network.Network}
use Rattle.{c104_run.specs.{Network.network_of, QuietNets.network_begin, Runs.{IsRunRecord, at_node}}, c104_switch.specs.Actions.Reply}
use Rattle.c104_switch.specs.{Starts.{SwitchStart, switch_start}, Switch.Switch, declared.actions.ActionOf.ActionOf}
use Rattle.c104_tests_net.{proofs.CalmSteps.no_entries, specs.CalmNets.{IsCalm, IsCalmDone, IsCalmEntry, IsCalmTrace}}
use Rattle.{c104_token.specs.{Kinds.plain_kind, declared.tokens.Token.Token}, std.proofs.Common.{All, Bool, List, None, Option, Some, []}}
use Rattle.std.proofs.Common.{ap, false, map, option_map, refl, slice_get, subst, sym, true, ℕ, ◌++◌, ◌∙◌, ◌∷◌, ◌≡◌}
use Rattle.std.{proofs.lemmas.Option.slice_get-map, specs.List.AllByRecursion}

-- an event whose entry is calm
was_calm : (routes : Routes) (plan : Plan) (stamp : Stamp) (e : Event) (r : Reply) (es : List Deed) → IsTold plan e r → All (IsCalmEntry routes) (at_node (event_place plan e) (event_deeds plan stamp e r ++ es)) → IsCalmDone routes e r
was_calm routes plan stamp (Event.Cross p) r es told all = tt
was_calm routes plan stamp (Event.Credit p) r es told all = tt
was_calm routes plan stamp (Event.Input s l word) r es told all = tt
was_calm routes plan stamp (Event.Claim s i o) r es told all = tt
was_calm routes plan stamp (Event.Control s bytes) r es told all = lone_is (IsCalmEntry routes) stamp s (ActOf.Step (ActionOf.Control bytes)) r es told all
was_calm routes plan stamp (Event.Send t p) r es told all = lone_is (IsCalmEntry routes) stamp _ (ActOf.Send p) r es told all
was_calm routes plan stamp (Event.Drain t) r es told all = tt

-- such an event may happen
may_happen : (routes : Routes) (e : Event) (r : Reply) → IsCalmDone routes e r → MayHappen routes e r
may_happen routes (Event.Cross p) r calm = tt
may_happen routes (Event.Credit p) r calm = tt
may_happen routes (Event.Input s l word) r calm = tt
may_happen routes (Event.Claim s i o) r calm = tt
may_happen routes (Event.Control s bytes) r calm = calm
may_happen routes (Event.Send t p) r calm = λ q entry random has header. calm.1 has header
may_happen routes (Event.Drain t) r calm = tt

sends_bytes : (routes : Routes) (e : Event) (r : Reply) → IsCalmDone routes e r → SendsBytes e
sends_bytes routes (Event.Cross p) r calm = tt
sends_bytes routes (Event.Credit p) r calm = tt
sends_bytes routes (Event.Input s l word) r calm = tt
sends_bytes routes (Event.Claim s i o) r calm = tt
sends_bytes routes (Event.Control s bytes) r calm = tt
sends_bytes routes (Event.Send t p) r calm = calm.0
sends_bytes routes (Event.Drain t) r calm = tt

abbrev pub AreCalm : Routes → List (Event × Reply) → Type 0
AreCalm routes events = AllByRecursion (λ (e : Event × Reply). IsCalmDone routes e.0 e.1) events

unchanged_all : (routes : Routes) (events : List (Event × Reply)) → AreCalm routes events → IsUnchanged routes events
unchanged_all routes [] each = tt
unchanged_all routes (e ∷ events) each = (may_happen routes e.0 e.1 each.0, unchanged_all routes events each.1)

bytes_all : (routes : Routes) (events : List (Event × Reply)) → AreCalm routes events → AreBytesSent events
bytes_all routes [] each = tt
bytes_all routes (e ∷ events) each = (sends_bytes routes e.0 e.1 each.0, bytes_all routes events each.1)

module _ (routes : Routes) (plan : Plan) (stamps : ℕ → Stamp) (starts : List NodeStart) (nodes : List (Node Token)) (traces : List (List Entry)) (count : ℕ) (events : List (Event × Reply)) (placed : AreInPlace {A = Token} plan (map start_node starts)) (calm : All (IsCalmTrace routes) traces) (told : IsRunRecord plain_kind plan stamps (map start_node starts) nodes traces count events) where
  -- the events of a run whose nodes did nothing that changes a register
  pub calm_run : AreCalm routes events
  calm_run = all_events (IsCalmEntry routes) plan (λ (e : Event × Reply). IsCalmDone routes e.0 e.1) (was_calm routes plan) stamps (map start_node starts) nodes traces count events placed told (λ k trace at. All-place (IsCalmTrace routes) traces k trace at calm)

  pub unchanged : IsUnchanged routes events
  unchanged = unchanged_all routes events calm_run

  bytes_sent : AreBytesSent events
  bytes_sent = bytes_all routes events calm_run

module _ (plan : Plan) (image : Image) (is_plan : IsPlan plan) (accepted : IsAccepted (routes_of plan image)) where
  -- where such a run ended each switch is set as it was
  still_set : (first : List NodeStart) (nodes : List (Node Token)) (traces : List (List Entry)) (count : ℕ) (events : List (Event × Reply)) → AreStartsOf plan image first → All (IsCalmTrace (routes_of plan image)) traces → IsRunRecord plain_kind plan seatless (map start_node first) nodes traces count events → (k : ℕ) (s : Switch Token) → slice_get nodes k ≡ Some (NodeOf.Switch s) → s.settings ≡ settings_in image.settings k
  still_set first nodes traces count events are calm told k s at =
      let labelled : IsLabelled (routes_of plan image) = record { accepted = accepted; positive = header_positive plan image } in
      let traced = traced_from plan first nodes events told.run in
      let begun : List (Node Traced) = map start_node first in
      let quiet = unchanged (routes_of plan image) plan seatless first nodes traces count events are.in_place calm told in
      let sent = bytes_sent (routes_of plan image) plan seatless first nodes traces count events are.in_place calm told in
      let ended = each plan image is_plan labelled begun (network_of plan traced.0) events traced.1.run quiet sent (starts plan image is_plan labelled begun (starts_are plan image first are)) in
      let same : ended.0 ≡ traced.0 = ap (λ (net : Network Traced). net.nodes) ended.1 in
      let there : option_map (map_node (λ (x : Traced). x.token)) (slice_get traced.0 k) ≡ Some (NodeOf.Switch s) = sym (slice_get-map (map_node (λ (x : Traced). x.token)) traced.0 k) ∙ ap (λ ns. slice_get ns k) traced.1.plain ∙ at in
      by_node (slice_get traced.0 k) there (λ settings seen. ended.2.set k settings (ap (λ ns. settings_seen plan ns k) same ∙ seen))
    where
      by_node : (o : Option (Node Traced)) → option_map (map_node (λ (x : Traced). x.token)) o ≡ Some (NodeOf.Switch s) → ((settings : List Settings) → part None node_settings o ≡ Some settings → settings ≡ settings_at (routes_of plan image) k) → s.settings ≡ settings_in image.settings k
      by_node None is set = absurd (cc)
      by_node (Some (NodeOf.Terminal t)) is set = absurd (cc)
      by_node (Some (NodeOf.Switch x)) is set = let same : map_switch (λ (x : Traced). x.token) x ≡ s = cc in ap (λ (z : Switch Token). z.settings) (sym same) ∙ set x.settings refl

  set_again : (nodes : List (Node Token)) → ((k : ℕ) (s : Switch Token) → slice_get nodes k ≡ Some (NodeOf.Switch s) → s.settings ≡ settings_in image.settings k) → (k : ℕ) (s : SwitchStart) → slice_get (map start_of (map node_begin nodes)) k ≡ Some (NodeStart.Switch s) → s.settings ≡ settings_in image.settings k
  set_again nodes set k s at =
      let there : option_map (start_of {A = Token}) (option_map node_begin (slice_get nodes k)) ≡ Some (NodeStart.Switch s) = ap (option_map (start_of {A = Token})) (sym (slice_get-map node_begin nodes k)) ∙ sym (slice_get-map (start_of {A = Token}) (map node_begin nodes) k) ∙ at in
      by_node (slice_get nodes k) refl there
    where
      by_node : (o : Option (Node Token)) → slice_get nodes k ≡ o → option_map (start_of {A = Token}) (option_map node_begin o) ≡ Some (NodeStart.Switch s) → s.settings ≡ settings_in image.settings k
      by_node None is there = absurd (cc)
      by_node (Some (NodeOf.Terminal t)) is there = absurd (cc)
      by_node (Some (NodeOf.Switch x)) is there = let same : switch_start x ≡ s = cc in ap (λ (z : SwitchStart). z.settings) (sym same) ∙ set k x is

  -- and a further run starts with the image's settings
  pub begun_calm : (b : Bool) (old new : NetRecord) → IsNetRecord old → IsNetRecord new → new ≡ record_begun_if b old → IsCalm plan image old → IsCalm plan image new
  begun_calm false old new kept after is calm = subst (IsCalm plan image) (sym is) calm
  begun_calm true old new kept after is calm =
      let begun : IsNetRecord (fresh_record (network_begin old.network)) = subst IsNetRecord is after in
      let told : IsRunRecord plain_kind plan seatless (map start_node old.starts) old.network.nodes old.traces old.count kept.told.0 = subst (λ p. IsRunRecord plain_kind p seatless (map start_node old.starts) old.network.nodes old.traces old.count kept.told.0) calm.same_plan kept.told.1 in
      subst (IsCalm plan image) (sym is) (record {
        same_plan = calm.same_plan;
        starts = record {
          in_place = subst (λ p. AreInPlace {A = Token} p (map start_node (map (start_of {A = Token}) (map node_begin old.network.nodes)))) calm.same_plan begun.started.in_place;
          set = set_again old.network.nodes (still_set old.starts old.network.nodes old.traces old.count kept.told.0 calm.starts calm.traces told);
        };
        traces = no_entries (routes_of plan image) (map node_begin old.network.nodes);
      })
