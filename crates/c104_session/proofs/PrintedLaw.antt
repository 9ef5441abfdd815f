-- What a run prints of packets: the theorem about packets, joined with the text of the summary.
use Rattle.{c104_check.specs.Routes.{Routes, routes_of}, c104_net.proofs.NamedOrigins.{quiet_traced, sent_plain}}
use Rattle.c104_net.proofs.{OriginPieces.{delivered_origin, packet_origin}, Promises.headline, RunOrigins.{IsKeptRun, ends_traced, traced}}
use Rattle.c104_net.{proofs.StartMaps.starts_are, specs.Deliveries.{IsDelivered, Promise, cut_at, received, sent_at}}
use Rattle.{c104_net.specs.TracedEnds.traced_end, c104_node.specs.{MappedNodes.map_node, Nodes.Node, Origins.origins_in, Starts.start_node}}
use Rattle.c104_node.specs.{Terminals.{sent_from, sent_tokens}, Traced.traced_kind, Traces.{part, seatless}, declared.origins.Origin.Origin}
use Rattle.{c104_node.specs.declared.traced.Traced.Traced, c104_plan.specs.{PlanImage.{Fits, Image}, Plans.{IsPlan, Plan}}}
use Rattle.{c104_plan.specs.declared.{plans.Terminal.Terminal, ports.Port.Port}, c104_run.specs.FinishedRecords.record_finish}
use Rattle.c104_run.specs.{NetRecords.NetRecord, Network.{Network, network_of}, QuietNets.IsQuiet, Runs.IsDoneRun}
use Rattle.c104_session.proofs.{PlacedNets.{placed_set, placed_starts, placed_unchanged}, UnchangedNets.{IsUnchangedNet, keeps_nothing}}
use Rattle.c104_session.{proofs.{UnchangedNets.nothing, UnchangedScripts.lines_leave}, specs.PrintedPackets.{IsSentTo, IsUnchangedRun}}
use Rattle.c104_session.specs.PrintedPackets.{PrintsPackets, origin_line, origins_text, packets_of, script_end, script_sent, sent_line}
use Rattle.c104_session.specs.Shown.{line_outcome, new_session, output_with_summary, packet_line, received_text, summary, terminals_text}
use Rattle.{c104_stream.specs.{ScriptLines.script_lines, Scripts.script_outcome}, c104_token.specs.Packets.packet_tokens}
use Rattle.{c104_token.specs.declared.{packets.Packet.Packet, tokens.Token.Token}, std.proofs.Common.{List, None, Option, Some, [], ap}}
use Rattle.std.proofs.Common.{arith, drop, flat_map, map, option_map, refl, slice_get, subst, suc, sym, zero, ℕ, ◌++◌, ◌∙◌, ◌∷◌, ◌≡◌}
use Rattle.std.proofs.lemmas.Option.{slice_get-map}

abbrev token_of : Traced → Token
token_of x = x.token

-- the tokens that are sent of a packet are its own
own_tokens : (a n j : ℕ) (tokens : List Token) → map token_of (sent_from traced_kind a n j tokens) ≡ tokens
own_tokens a n j [] = refl
own_tokens a n j (x ∷ tokens) = ap (λ xs. x ∷ xs) (own_tokens a n (suc j) tokens)

map_drop : {X Y : Type 0} (f : X → Y) (k : ℕ) (xs : List X) → map f (drop k xs) ≡ drop k (map f xs)
map_drop f zero [] = refl
map_drop f zero (x ∷ xs) = refl
map_drop f (suc k) [] = refl
map_drop f (suc k) (x ∷ xs) = map_drop f k xs

-- the origin of a packet that was received
abbrev piece_origin : List Traced → Origin
piece_origin piece = part (packet_origin 0 0) (λ (o : Origin). o) (slice_get (origins_in piece) 0)

module _ (routes : Routes) (net : Network Traced) (sends : List (ℕ × Packet)) (promised : Promise routes net) (sent : (a : ℕ) → sent_at net a ≡ packets_of a sends) where
  abbrev shown : ℕ → List Origin
  shown t = map piece_origin (received net t)

  -- the origin of a delivered packet is that of the packet that it is
  own_origin : (t : ℕ) (piece : List Traced) (d : IsDelivered routes net t piece) → piece_origin piece ≡ packet_origin d.terminal d.number
  own_origin t piece d = ap (λ (os : List Origin). part (packet_origin 0 0) (λ (o : Origin). o) (slice_get os 0)) (delivered_origin routes net t piece d)

  was_sent : (t : ℕ) (piece : List Traced) (d : IsDelivered routes net t piece) → slice_get (packets_of d.terminal sends) d.number ≡ Some d.packet
  was_sent t piece d = ap (λ (ps : List Packet). slice_get ps d.number) (sym (sent d.terminal)) ∙ d.sent

  -- so its line is that of the packet
  one_line : (plan : Plan) (name : List ℕ) (t : ℕ) (piece : List Traced) (d : IsDelivered routes net t piece) → received_text plan name piece ≡ origin_line plan routes sends t name (piece_origin piece)
  one_line plan name t piece d =
      let tokens : map token_of piece ≡ drop (cut_at routes (routes.peer (Port.Terminal t))) (packet_tokens d.packet) =
      ap (map token_of) d.whole ∙ map_drop token_of (cut_at routes (routes.peer (Port.Terminal t))) (sent_tokens traced_kind d.terminal d.number d.packet)
      ∙ ap (drop (cut_at routes (routes.peer (Port.Terminal t)))) (own_tokens d.terminal d.number 0 (packet_tokens d.packet)) in
      ap (λ (os : List Origin). packet_line plan name (map token_of piece) os) (delivered_origin routes net t piece d)
      ∙ ap (λ (ts : List Token). packet_line plan name ts (packet_origin d.terminal d.number ∷ [])) tokens
      ∙ ap (part [] (sent_line plan routes t name (packet_origin d.terminal d.number))) (sym (was_sent t piece d))
      ∙ ap (origin_line plan routes sends t name) (sym (own_origin t piece d))

  lines_of : (plan : Plan) (name : List ℕ) (t : ℕ) (pieces : List (List Traced)) → ((k : ℕ) (piece : List Traced) → slice_get pieces k ≡ Some piece → IsDelivered routes net t piece) → flat_map (received_text plan name) pieces ≡ flat_map (origin_line plan routes sends t name) (map piece_origin pieces)
  lines_of plan name t [] all = refl
  lines_of plan name t (piece ∷ pieces) all =
      ap (λ text. text ++ flat_map (received_text plan name) pieces) (one_line plan name t piece (all 0 piece refl))
      ∙ ap (λ text. origin_line plan routes sends t name (piece_origin piece) ++ text) (lines_of plan name t pieces (λ k p at. all (suc k) p at))

  texts_are : (plan : Plan) (t : ℕ) (terminals : List Terminal) → terminals_text plan net t terminals ≡ origins_text plan routes sends shown t terminals
  texts_are plan t [] = refl
  texts_are plan t (terminal ∷ more) = search (arith, lines_of, promised, flat_map, texts_are plan (suc t) more)

  -- each origin is that of one received packet
  one_of : (t k : ℕ) (o : Origin) → slice_get (shown t) k ≡ Some o → (piece : List Traced) × (slice_get (received net t) k ≡ Some piece) × (d : IsDelivered routes net t piece) × (packet_origin d.terminal d.number ≡ o)
  one_of t k o is = by_piece (slice_get (received net t) k) refl (sym (slice_get-map piece_origin (received net t) k) ∙ is)
    where
      by_piece : (found : Option (List Traced)) → slice_get (received net t) k ≡ found → option_map piece_origin found ≡ Some o → (piece : List Traced) × (slice_get (received net t) k ≡ Some piece) × (d : IsDelivered routes net t piece) × (packet_origin d.terminal d.number ≡ o)
      by_piece None at there = absurd (cc there)
      by_piece (Some piece) at there =
          let d = promised.delivered t k piece at in
          let same : piece_origin piece ≡ o = cc in
          (piece, at, d, sym (own_origin t piece d) ∙ same)

  each_sent : (t k : ℕ) (o : Origin) → slice_get (shown t) k ≡ Some o → IsSentTo routes sends t o
  each_sent t k o is = search (arith, one_of, was_sent)

  none_twice : (t u i j : ℕ) (o : Origin) → slice_get (shown t) i ≡ Some o → slice_get (shown u) j ≡ Some o → (t ≡ u) × (i ≡ j)
  none_twice t u i j o is is' =
      let a = one_of t i o is in
      let b = one_of u j o is' in
      let d : IsDelivered routes net t a.0 = a.2 in
      let e : IsDelivered routes net u b.0 = b.2 in
      let same : packet_origin d.terminal d.number ≡ packet_origin e.terminal e.number = a.3 ∙ sym b.3 in
      promised.once t u i j a.0 b.0 a.1 b.1 d e (ap (λ (x : Origin). x.terminal) same) (ap (λ (x : Origin). x.number) same)

  all_there : IsQuiet net → (t : ℕ) (o : Origin) → IsSentTo routes sends t o → (k : ℕ) × (slice_get (shown t) k ≡ Some o)
  all_there quiet t o (packet, was, whole, owned) =
      let found = promised.all quiet o.terminal o.number t packet (ap (λ (ps : List Packet). slice_get ps o.number) (sent o.terminal) ∙ was) whole owned in
      let d : IsDelivered routes net t found.1 = found.3 in
      let same : packet_origin d.terminal d.number ≡ o = ap (λ (a : ℕ). packet_origin a d.number) found.4 ∙ ap (λ (n : ℕ). packet_origin o.terminal n) found.5 in
      (found.0, slice_get-map piece_origin (received net t) found.0 ∙ ap (option_map piece_origin) found.2 ∙ ap Some (own_origin t found.1 d ∙ same))

module _ (plan : Plan) (image : Image) (script : List ℕ) (is_plan : IsPlan plan) (fits : Fits image plan) (is : IsUnchangedRun plan image script) where
  abbrev routes : Routes
  routes = routes_of plan image

  abbrev net : NetRecord
  net = (script_end plan image script).net

  abbrev sends : List (ℕ × Packet)
  sends = script_sent plan image script

  ended : IsUnchangedNet routes plan (placed_starts plan image is_plan fits) nothing sends net
  ended = lines_leave routes plan is_plan (placed_starts plan image is_plan fits) nothing (keeps_nothing routes plan (placed_starts plan image is_plan fits)) (script_lines script) 1 [] (new_session plan image) is.unchanged (placed_unchanged plan image is_plan fits routes nothing tt)

  here_plan : IsPlan net.network.plan
  here_plan = subst IsPlan (sym ended.same_plan) is_plan

  abbrev kept : IsKeptRun (record_finish net)
  kept = record {
    stamps = seatless;
    events = ended.events;
    nodes = net.network.nodes;
    told = ended.told;
    ended = refl;
    placed = ended.kept.steady.in_place;
    started = ended.kept.started;
    sent = ended.bytes;
  }

  abbrev ran : List (Node Traced)
  ran = (traced (record_finish net) here_plan kept).0

  end_is : traced_end (record_finish net) ≡ network_of plan ran
  end_is = ends_traced (record_finish net) here_plan kept ∙ ap (λ p. network_of p ran) ended.same_plan

  run : IsDoneRun traced_kind (network_of plan (map start_node (placed_starts plan image is_plan fits))) ended.events (network_of plan ran)
  run = search (arith, ended, traced, here_plan)

  promised : Promise routes (network_of plan ran)
  promised =
      headline image (network_of plan (map start_node (placed_starts plan image is_plan fits))) (network_of plan ran) ended.events is_plan is.accepted
      (starts_are plan image (placed_starts plan image is_plan fits) (placed_set plan image is_plan fits)) run ended.unchanged ended.bytes

  plain : map (map_node token_of) ran ≡ net.network.nodes
  plain = (traced (record_finish net) here_plan kept).1.plain

  sent : (a : ℕ) → sent_at (network_of plan ran) a ≡ packets_of a sends
  sent a = search (arith, sent_plain, ended)

  summary_is : summary (record_finish net) ≡ origins_text plan routes sends (shown routes (network_of plan ran) sends promised sent) 0 plan.terminals
  unfolding summary
  summary_is = search (arith, end_is, ended, texts_are, promised, sent)

  pub printed_law : PrintsPackets plan image script
  printed_law = record {
    shown = shown routes (network_of plan ran) sends promised sent;
    printed =
        ap (λ b. (output_with_summary b (script_outcome line_outcome (new_session plan image) script)).0) is.short
        ∙ ap (λ text. (script_outcome line_outcome (new_session plan image) script).0 ++ text) summary_is;
    each = each_sent routes (network_of plan ran) sends promised sent;
    once = none_twice routes (network_of plan ran) sends promised sent;
    all = λ quiet. all_there routes (network_of plan ran) sends promised sent (quiet_traced plan ran net.network.nodes plain quiet);
  }
