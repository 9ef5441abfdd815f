-- What the theorem about packets says of one received packet, in plain tokens.
use Rattle.{c104_check.specs.Routes.{IsAccepted, Routes, routes_of}, c104_label.specs.Images.IsImageOf}
use Rattle.c104_net.proofs.{NamedOrigins.sent_plain, OriginPieces.{delivered_origin, received_origins}, ToldRuns.same_events}
use Rattle.c104_net.specs.{Deliveries.{IsDelivered, arrived_at, cut_at, received}, RunOrigins.AreOrigins, ToldRuns.TellsEachRun}
use Rattle.{c104_net.specs.{TracedEnds.traced_end, Unchanged.{AreStartsOf, IsUnchanged}}, c104_node.specs.MappedNodes.map_node}
use Rattle.c104_node.specs.{Nodes.{Node, arrived_tokens}, Origins.origins_in, Terminals.{sent_from, sent_tokens}, Traced.traced_kind}
use Rattle.c104_node.specs.{Traces.part, declared.{node.NodeOf.NodeOf, origins.Origin.Origin, traced.Traced.Traced}}
use Rattle.{c104_plan.specs.{PlanImage.Image, Plans.Plan, declared.ports.Port.Port}, c104_run.specs.FinishedRecords.FinishedRecord}
use Rattle.c104_run.specs.{FinishedRecords.{IsFinishedRecord, record_finish}, NetRecords.NetRecord, Network.{Network, network_of}}
use Rattle.{c104_run.specs.Network.terminal_place, c104_tests_net.{proofs.CalmRuns.unchanged, specs.CalmNets.{IsCalm, IsCalmTrace}}}
use Rattle.c104_tests_net.specs.CalmNets.{IsNamed, IsNamedByCheck, IsNamedByLabels, IsWhole, received_tokens}
use Rattle.c104_token.specs.{Cut.whole_pieces, Kinds.plain_kind, Packets.packet_tokens, Tokens.is_end, declared.tokens.Token.Token}
use Rattle.std.proofs.Common.{All, Bool, Err, List, None, Ok, Option, Result, Some, [], ap, arith, drop, false, flat_map, if◌then◌else◌}
use Rattle.std.proofs.Common.{length, map, option_map, refl, slice_get, subst, suc, sym, true, zero, ℕ, ◌++◌, ◌<◌, ◌∙◌, ◌∷◌, ◌≡◌}
use Rattle.std.{proofs.lemmas.{List.{drop-map, map-append}, Option.{slice_get-map, slice_get_within}}, specs.Global.Vec as Kept}
use Rattle.std.specs.Prelude.{IfOk}

abbrev token_of : Traced → Token
token_of x = x.token

-- tokens without their sources are cut at the same places
pieces_map : (front xs : List Traced) → whole_pieces (λ x. x) (map token_of front) (map token_of xs) ≡ map (map token_of) (whole_pieces token_of front xs)
pieces_map front [] = refl
pieces_map front (x ∷ xs) = by_end (pieces_map [] xs) (pieces_map (front ++ x ∷ []) xs) (is_end x.token)
  where
    joined : map token_of front ++ x.token ∷ [] ≡ map token_of (front ++ x ∷ [])
    joined = sym (map-append token_of front (x ∷ []))

    by_end : whole_pieces (λ x. x) [] (map token_of xs) ≡ map (map token_of) (whole_pieces token_of [] xs) → whole_pieces (λ x. x) (map token_of (front ++ x ∷ [])) (map token_of xs) ≡ map (map token_of) (whole_pieces token_of (front ++ x ∷ []) xs) →
        (b : Bool) → (if b then (map token_of front ++ x.token ∷ []) ∷ whole_pieces (λ x. x) [] (map token_of xs) else whole_pieces (λ x. x) (map token_of front ++ x.token ∷ []) (map token_of xs)) ≡ map (map token_of) (if b then (front ++ x ∷ []) ∷ whole_pieces token_of [] xs else whole_pieces token_of (front ++ x ∷ []) xs)
    by_end next longer true = ap (λ p. p ∷ whole_pieces (λ x. x) [] (map token_of xs)) joined ∙ ap (λ ps. map token_of (front ++ x ∷ []) ∷ ps) next
    by_end next longer false = ap (λ p. whole_pieces (λ x. x) p (map token_of xs)) joined ∙ longer

sent_map : (a n j : ℕ) (xs : List Token) → map token_of (sent_from traced_kind a n j xs) ≡ sent_from plain_kind a n j xs
sent_map a n j [] = refl
sent_map a n j (x ∷ xs) = ap (λ ys. x ∷ ys) (sent_map a n (suc j) xs)

-- what arrived, without the sources
arrived_map : (o : Option (Node Traced)) → part [] arrived_tokens (option_map (map_node token_of) o) ≡ map token_of (part [] arrived_tokens o)
arrived_map None = refl
arrived_map (Some (NodeOf.Switch s)) = refl
arrived_map (Some (NodeOf.Terminal t)) = refl

module _ (plan : Plan) (nodes : List (Node Token)) (traced : List (Node Traced)) (plain : map (map_node (λ (x : Traced). x.token)) traced ≡ nodes) where
  node_there : (k : ℕ) → slice_get nodes k ≡ option_map (map_node token_of) (slice_get traced k)
  node_there k = ap (λ ns. slice_get ns k) (sym plain) ∙ slice_get-map (map_node token_of) traced k

  arrived_same : (t : ℕ) → arrived_at (network_of plan nodes) t ≡ map token_of (arrived_at (network_of plan traced) t)
  arrived_same t = ap (part [] arrived_tokens) (node_there (terminal_place plan t)) ∙ arrived_map (slice_get traced (terminal_place plan t))

  received_same : (t : ℕ) → received_tokens (network_of plan nodes) t ≡ map (map token_of) (received (network_of plan traced) t)
  received_same t = ap (whole_pieces (λ x. x) []) (arrived_same t) ∙ pieces_map [] (arrived_at (network_of plan traced) t)

  -- a delivered packet is the whole packet of its origin
  whole_of : (routes : Routes) (t : ℕ) (piece : List Token) (q : List Traced) → piece ≡ map token_of q → (d : IsDelivered routes (network_of plan traced) t q) → IsWhole routes (network_of plan nodes) t piece (record { terminal = d.terminal; number = d.number })
  whole_of routes t piece q is d =
      let cut : ℕ = cut_at routes (routes.peer (Port.Terminal t)) in
      record {
        packet = d.packet;
        sent = ap (λ ps. slice_get ps d.number) (sent_plain plan traced nodes plain d.terminal) ∙ d.sent;
        whole = is ∙ ap (map token_of) d.whole ∙ sym (drop-map token_of cut (sent_tokens traced_kind d.terminal d.number d.packet)) ∙ ap (drop cut) (sent_map d.terminal d.number 0 (packet_tokens d.packet));
        owned = d.owned;
      }

-- where each list that is joined has one element, a k-th of all is that of a k-th list
pub list_there : {X Y : Type 0} (f : X → List Y) (xs : List X) → ((k : ℕ) (x : X) → slice_get xs k ≡ Some x → (y : Y) × (f x ≡ y ∷ [])) → (k : ℕ) (y : Y) → slice_get (flat_map f xs) k ≡ Some y → (x : X) × (slice_get xs k ≡ Some x)
list_there f [] ones k y is = absurd (cc)
list_there f (z ∷ xs) ones zero y is = (z, refl)
list_there f (z ∷ xs) ones (suc k) y is =
    let one = ones 0 z refl in
    list_there f xs (λ j x at. ones (suc j) x at) k y (ap (λ ys. slice_get (ys ++ flat_map f xs) (suc k)) (sym one.1) ∙ is)

pub same_origin : (a b : Origin) → Some a ≡ Some b → a ≡ b
same_origin a b is = cc

-- each packet that a terminal received in a network is delivered, and its list names it at the same place
abbrev NamedAt : Routes → ℕ → Network Traced → Type 0
NamedAt routes t n = (j : ℕ) (q : List Traced) → slice_get (received n t) j ≡ Some q → (d : IsDelivered routes n t q) × (slice_get (origins_in (arrived_at n t)) j ≡ Some (record { terminal = d.terminal; number = d.number }))

-- a network is its plan and its nodes
placed_end : (n : Network Traced) (plan : Plan) → n.plan ≡ plan → n ≡ network_of plan n.nodes
placed_end n plan same = ap (λ p. network_of p n.nodes) same

-- of a run that started as an image says, and was not changed, a terminal's list names the packets that it received
named_here : (image : Image) (run : FinishedRecord) (lists : List (List Origin)) (t k : ℕ) → IsAccepted (routes_of run.finished.plan image) → AreStartsOf run.finished.plan image run.starts → All (IsCalmTrace (routes_of run.finished.plan image)) run.traces → IsFinishedRecord run → TellsEachRun run → AreOrigins run lists → (list : List Origin) → slice_get lists t ≡ Some list → (o : Origin) → slice_get list k ≡ Some o → IsNamed (routes_of run.finished.plan image) run t k o
named_here image run lists t k accepted starts calm fin law are list listed o there =
    let plan : Plan = run.finished.plan in
    let routes : Routes = routes_of plan image in
    let traced : List (Node Traced) = (traced_end run).nodes in
    let ended : Network Traced = network_of plan traced in
    let end_is : traced_end run ≡ ended = placed_end (traced_end run) plan are.same_plan in
    let quiet : IsUnchanged routes are.events = subst (IsUnchanged routes) (same_events run lists fin.stamps fin.events fin.nodes law fin.told are).0 (unchanged routes plan fin.stamps run.starts fin.nodes run.traces run.count fin.events starts.in_place calm fin.told) in
    let plain : map (map_node (λ (x : Traced). x.token)) traced ≡ fin.nodes = (law fin.stamps fin.events fin.nodes fin.told).once_more.plain in
    let within : t < length lists = slice_get_within lists t list listed in
    let inside : t < length plan.terminals = (let counted = are.counted in omega (arith, within, counted)) in
    let each : slice_get lists t ≡ Some (origins_in (arrived_at ended t)) = subst (λ (n : Network Traced). slice_get lists t ≡ Some (origins_in (arrived_at n t))) end_is (are.each t inside) in
    let named : NamedAt routes t ended = subst (NamedAt routes t) end_is (λ j q at. (let d = (are.promise image accepted starts quiet).delivered t j q at in (d, are.named image accepted starts quiet t j q at d))) in
    let same : list ≡ origins_in (arrived_at ended t) = some_same list _ (sym listed ∙ each) in
    let met : slice_get (origins_in (arrived_at ended t)) k ≡ Some o = ap (λ os. slice_get os k) (sym same) ∙ there in
    let joined : slice_get (flat_map origins_in (received ended t)) k ≡ Some o = ap (λ os. slice_get os k) (sym (received_origins (arrived_at ended t))) ∙ met in
    let found = list_there origins_in (received ended t) (λ j q at. (let known = named j q at in (record { terminal = known.0.terminal; number = known.0.number }, delivered_origin routes ended t q known.0))) k o joined in
    let known = named k found.0 found.1 in
    let is : ◌≡◌ {A = Origin} (record { terminal = known.0.terminal; number = known.0.number }) o = same_origin _ o (sym known.1 ∙ met) in (
      network_of plan fin.nodes,
      fin.ended,
      map token_of found.0,
      ap (λ ps. slice_get ps k) (received_same plan fin.nodes traced plain t) ∙ slice_get-map (map token_of) (received ended t) k ∙ ap (option_map (map token_of)) found.1,
      subst (IsWhole routes (network_of plan fin.nodes) t (map token_of found.0)) is (whole_of plan fin.nodes traced plain routes t (map token_of found.0) found.0 refl known.0),
    )
  where
    some_same : (xs ys : List Origin) → Some xs ≡ Some ys → xs ≡ ys
    some_same xs ys is = cc

-- the same of a network that is finished, as the lists are given back
pub named_lists : (plan : Plan) (image : Image) (net : NetRecord) (run : FinishedRecord) (lists : List (Kept Origin)) → IsAccepted (routes_of plan image) → IsCalm plan image net → run ≡ record_finish net → IsFinishedRecord run → TellsEachRun run → AreOrigins run (map (λ (list : Kept Origin). list.items) lists) → (t k : ℕ) (list : Kept Origin) (o : Origin) → slice_get lists t ≡ Some list → slice_get list.items k ≡ Some o → IsNamed (routes_of plan image) (record_finish net) t k o
named_lists plan image net run lists accepted calm is fin law are t k list o listed there =
    subst (λ p. IsNamed (routes_of p image) (record_finish net) t k o) calm.same_plan
    (named_here image (record_finish net) (map (λ (l : Kept Origin). l.items) lists) t k (subst (λ p. IsAccepted (routes_of p image)) (sym calm.same_plan) accepted) (subst (λ p. AreStartsOf p image net.starts) (sym calm.same_plan) calm.starts) (subst (λ p. All (IsCalmTrace (routes_of p image)) net.traces) (sym calm.same_plan) calm.traces)
    (subst IsFinishedRecord is fin) (subst TellsEachRun is law) (subst (λ (r : FinishedRecord). AreOrigins r (map (λ (l : Kept Origin). l.items) lists)) is are) list.items (slice_get-map (λ (l : Kept Origin). l.items) lists t ∙ ap (option_map (λ (l : Kept Origin). l.items)) listed) o there)

-- the same of the lists as they are given back, or of none
pub named_result : {E : Type 0} (plan : Plan) (image : Image) (net : NetRecord) (run : FinishedRecord) (result : Result (Kept (Kept Origin)) E) → IsAccepted (routes_of plan image) → IsCalm plan image net → run ≡ record_finish net → IsFinishedRecord run → TellsEachRun run → IfOk result (λ (lists : Kept (Kept Origin)). AreOrigins run (map (λ (list : Kept Origin). list.items) lists.items)) → IfOk result (λ (lists : Kept (Kept Origin)). (t k : ℕ) → (list : Kept Origin) → (o : Origin) → slice_get lists.items t ≡ Some list → slice_get list.items k ≡ Some o → IsNamed (routes_of plan image) (record_finish net) t k o)
named_result plan image net run (Ok lists) accepted calm is fin law are = λ t k list o listed there. named_lists plan image net run lists.items accepted calm is fin law are t k list o listed there
named_result plan image net run (Err e) accepted calm is fin law are = tt

pub by_labels : (plan : Plan) (image : Image) (run : FinishedRecord) (t k : ℕ) (o : Origin) → IsImageOf plan image → IsNamed (routes_of plan image) run t k o → IsNamedByLabels plan t k o
by_labels plan image run t k o is named = (image, run, is, named)

pub by_check : (plan : Plan) (image : Image) (run : FinishedRecord) (t k : ℕ) (o : Origin) → IsAccepted (routes_of plan image) → IsNamed (routes_of plan image) run t k o → IsNamedByCheck plan t k o
by_check plan image run t k o accepted named = (image, run, accepted, named)
