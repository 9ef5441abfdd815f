-- Of a network that was quiet when it was finished, no packet is missing, and none is there twice.
use Rattle.{c104_check.specs.Routes.{IsAccepted, owner, routes_of}, c104_event.specs.declared.events.Event.Event}
use Rattle.c104_net.{proofs.{OriginPieces.{delivered_origin, received_origins}, ToldRuns.same_events}, specs.Deliveries.IsDelivered}
use Rattle.c104_net.specs.{Deliveries.{Promise, arrived_at, has_header, header_of, received, sent_at}, RunOrigins.AreOrigins}
use Rattle.{c104_net.specs.{ToldRuns.TellsEachRun, TracedEnds.traced_end, Unchanged.{AreStartsOf, IsUnchanged}}, c104_node.specs.Nodes.Node}
use Rattle.c104_node.specs.{Origins.origins_in, Starts.start_node, Traces.seatless, declared.{origins.Origin.Origin, stamps.Stamp.Stamp}}
use Rattle.{c104_node.specs.declared.traced.Traced.Traced, c104_plan.specs.{PlanImage.Image, Plans.Plan}}
use Rattle.c104_run.specs.{FinishedRecords.{FinishedRecord, record_finish}, NetRecords.{IsNetRecord, NetRecord}, Network.Network}
use Rattle.{c104_run.specs.{Network.network_of, QuietNets.IsQuiet, Runs.IsRunRecord}, c104_switch.specs.Actions.Reply}
use Rattle.c104_tests_net.{proofs.{CalmRuns.unchanged, NamedPackets.{list_there, same_origin}}, specs.CalmNets.{IsCalm, IsCalmTrace}}
use Rattle.{c104_tests_net.specs.{CalmNets.IsListed, FoundPackets.AreFoundOnce}, c104_token.specs.Kinds.plain_kind}
use Rattle.{c104_token.specs.declared.{packets.Packet.Packet, tokens.Token.Token}, std.proofs.Common.{All, Err, List, Ok, Result, Some, []}}
use Rattle.std.proofs.Common.{ap, arith, flat_map, length, map, option_map, refl, slice_get, subst, suc, sym, true, zero, ℕ, ◌<◌, ◌∙◌, ◌∷◌}
use Rattle.std.{proofs.{Common.◌≡◌, lemmas.Option.{slice_get-map, slice_get_within}}, specs.{Global.Vec as Kept, Prelude.IfOk}}

-- a list as it is told is that of one that is given back
listed_there : (lists : List (Kept Origin)) (t : ℕ) (list : List Origin) → slice_get (map (λ (l : Kept Origin). l.items) lists) t ≡ Some list → (l : Kept Origin) × (slice_get lists t ≡ Some l) × (l.items ≡ list)
listed_there [] t list is = absurd (cc)
listed_there (l ∷ lists) zero list is = let same : l.items ≡ list = cc in (l, refl, same)
listed_there (l ∷ lists) (suc t) list is = listed_there lists t list is

same_list : (xs ys : List Origin) → Some xs ≡ Some ys → xs ≡ ys
same_list xs ys is = cc

module _ (image : Image) (run : FinishedRecord) (lists : List (List Origin)) (accepted : IsAccepted (routes_of run.finished.plan image)) (starts : AreStartsOf run.finished.plan image run.starts) (calm : All (IsCalmTrace (routes_of run.finished.plan image)) run.traces) (law : TellsEachRun run) (stamps : ℕ → Stamp) (events : List (Event × Reply)) (nodes : List (Node Token)) (told : IsRunRecord plain_kind run.finished.plan stamps (map start_node run.starts) nodes run.traces run.count events) (are : AreOrigins run lists) where
  -- the events that left this record are those of the theorem
  same_run : (events ≡ are.events) × (network_of run.finished.plan nodes ≡ network_of run.finished.plan are.nodes)
  same_run = same_events run lists stamps events nodes law told are

  still : IsUnchanged (routes_of run.finished.plan image) are.events
  still = subst (IsUnchanged (routes_of run.finished.plan image)) same_run.0 (unchanged (routes_of run.finished.plan image) run.finished.plan stamps run.starts nodes run.traces run.count events starts.in_place calm told)

  promised : Promise (routes_of run.finished.plan image) (traced_end run)
  promised = are.promise image accepted starts still

  -- an origin in a terminal's list is that of the packet that the terminal received there
  delivered_here : (t k : ℕ) (list : List Origin) (o : Origin) → slice_get lists t ≡ Some list → slice_get list k ≡ Some o → (q : List Traced) × (slice_get (received (traced_end run) t) k ≡ Some q) × (d : IsDelivered (routes_of run.finished.plan image) (traced_end run) t q) × (◌≡◌ {A = Origin} (record { terminal = d.terminal; number = d.number }) o)
  delivered_here t k list o listed there =
      let within : t < length lists = slice_get_within lists t list listed in
      let inside : t < length run.finished.plan.terminals = (let counted = are.counted in omega (arith, within, counted)) in
      let same : list ≡ origins_in (arrived_at (traced_end run) t) = same_list list _ (sym listed ∙ are.each t inside) in
      let met : slice_get (origins_in (arrived_at (traced_end run) t)) k ≡ Some o = ap (λ os. slice_get os k) (sym same) ∙ there in
      let joined : slice_get (flat_map origins_in (received (traced_end run) t)) k ≡ Some o = ap (λ os. slice_get os k) (sym (received_origins (arrived_at (traced_end run) t))) ∙ met in
      let found = list_there origins_in (received (traced_end run) t) (λ j q at. (let d = promised.delivered t j q at in (record { terminal = d.terminal; number = d.number }, delivered_origin (routes_of run.finished.plan image) (traced_end run) t q d))) k o joined in
      let d : IsDelivered (routes_of run.finished.plan image) (traced_end run) t found.0 = promised.delivered t k found.0 found.1 in
      (found.0, found.1, d, same_origin _ o (sym (are.named image accepted starts still t k found.0 found.1 d) ∙ met))

  -- so none is there twice
  once_here : (t u i j : ℕ) (list other : List Origin) (o : Origin) → slice_get lists t ≡ Some list → slice_get list i ≡ Some o → slice_get lists u ≡ Some other → slice_get other j ≡ Some o → (t ≡ u) × (i ≡ j)
  once_here t u i j list other o listed there also too =
      let x = delivered_here t i list o listed there in
      let y = delivered_here u j other o also too in
      let d : IsDelivered (routes_of run.finished.plan image) (traced_end run) t x.0 = x.2 in
      let e : IsDelivered (routes_of run.finished.plan image) (traced_end run) u y.0 = y.2 in
      let same : ◌≡◌ {A = Origin} (record { terminal = d.terminal; number = d.number }) (record { terminal = e.terminal; number = e.number }) = x.3 ∙ sym y.3 in
      promised.once t u i j x.0 y.0 x.1 y.1 d e (ap (λ (z : Origin). z.terminal) same) (ap (λ (z : Origin). z.number) same)

-- the same of a network that is finished, as the lists are given back
module _ (image : Image) (net : NetRecord) (lists : List (Kept Origin)) (accepted : IsAccepted (routes_of net.network.plan image)) (starts : AreStartsOf net.network.plan image net.starts) (calm : All (IsCalmTrace (routes_of net.network.plan image)) net.traces) (stamps : ℕ → Stamp) (events : List (Event × Reply)) (told : IsRunRecord plain_kind net.network.plan stamps (map start_node net.starts) net.network.nodes net.traces net.count events) (law : TellsEachRun (record_finish net)) (are : AreOrigins (record_finish net) (map (λ (l : Kept Origin). l.items) lists)) where
  same_end : net.network ≡ network_of net.network.plan are.nodes
  same_end = (same_run image (record_finish net) (map (λ (l : Kept Origin). l.items) lists) accepted starts calm law stamps events net.network.nodes told are).1

  found_there : IsQuiet net.network → (a n t : ℕ) (p : Packet) → t < length net.network.plan.terminals → slice_get (sent_at net.network a) n ≡ Some p → has_header (routes_of net.network.plan image) p ≡ true → owner (routes_of net.network.plan image) (header_of (routes_of net.network.plan image) p) ≡ Some t → (k : ℕ) × IsListed lists t k (record { terminal = a; number = n })
  found_there quiet a n t p inside sent whole owned =
      let met = are.found image accepted starts (still image (record_finish net) (map (λ (l : Kept Origin). l.items) lists) accepted starts calm law stamps events net.network.nodes told are) (subst (λ (n : Network Token). IsQuiet n) same_end quiet) a n t p (subst (λ (m : Network Token). slice_get (sent_at m a) n ≡ Some p) same_end sent) whole owned in
      let there = listed_there lists t (origins_in (arrived_at (traced_end (record_finish net)) t)) (are.each t inside) in
      (met.0, (there.0, there.1, ap (λ os. slice_get os met.0) there.2 ∙ met.1))

  once_there : (t u i j : ℕ) (o : Origin) → IsListed lists t i o → IsListed lists u j o → (t ≡ u) × (i ≡ j)
  once_there t u i j o one two =
      once_here image (record_finish net) (map (λ (l : Kept Origin). l.items) lists) accepted starts calm law stamps events net.network.nodes told are t u i j one.0.items two.0.items o
      (slice_get-map (λ (l : Kept Origin). l.items) lists t ∙ ap (option_map (λ (l : Kept Origin). l.items)) one.1) one.2
      (slice_get-map (λ (l : Kept Origin). l.items) lists u ∙ ap (option_map (λ (l : Kept Origin). l.items)) two.1) two.2

  found_once : IsQuiet net.network → AreFoundOnce (routes_of net.network.plan image) net.network lists
  found_once quiet = record { found = found_there quiet; once = once_there }

-- of a plan, and of the run that is finished
module _ (plan : Plan) (image : Image) (net : NetRecord) (run : FinishedRecord) (lists : List (Kept Origin)) (accepted : IsAccepted (routes_of plan image)) (calm : IsCalm plan image net) (stamps : ℕ → Stamp) (events : List (Event × Reply)) (told : IsRunRecord plain_kind net.network.plan stamps (map start_node net.starts) net.network.nodes net.traces net.count events) (is : run ≡ record_finish net) (law : TellsEachRun run) (are : AreOrigins run (map (λ (list : Kept Origin). list.items) lists)) where
  accepted_there : IsAccepted (routes_of net.network.plan image)
  accepted_there = subst (λ p. IsAccepted (routes_of p image)) (sym calm.same_plan) accepted

  started_there : AreStartsOf net.network.plan image net.starts
  started_there = subst (λ p. AreStartsOf p image net.starts) (sym calm.same_plan) calm.starts

  calm_there : All (IsCalmTrace (routes_of net.network.plan image)) net.traces
  calm_there = subst (λ p. All (IsCalmTrace (routes_of p image)) net.traces) (sym calm.same_plan) calm.traces

  law_there : TellsEachRun (record_finish net)
  law_there = subst TellsEachRun is law

  origins_there : AreOrigins (record_finish net) (map (λ (l : Kept Origin). l.items) lists)
  origins_there = subst (λ (r : FinishedRecord). AreOrigins r (map (λ (l : Kept Origin). l.items) lists)) is are

  pub found_lists : IsQuiet net.network → AreFoundOnce (routes_of plan image) net.network lists
  found_lists quiet =
      subst (λ p. AreFoundOnce (routes_of p image) net.network lists) calm.same_plan
      (found_once image net lists accepted_there started_there calm_there stamps events told law_there origins_there quiet)

  pub once_lists : (t u i j : ℕ) (o : Origin) → IsListed lists t i o → IsListed lists u j o → (t ≡ u) × (i ≡ j)
  once_lists = once_there image net lists accepted_there started_there calm_there stamps events told law_there origins_there

-- the same of the lists as they are given back, or of none
pub found_result : {E : Type 0} (plan : Plan) (image : Image) (net : NetRecord) (run : FinishedRecord) (result : Result (Kept (Kept Origin)) E) → IsAccepted (routes_of plan image) → IsCalm plan image net → IsQuiet net.network → IsNetRecord net → run ≡ record_finish net → TellsEachRun run → IfOk result (λ (lists : Kept (Kept Origin)). AreOrigins run (map (λ (list : Kept Origin). list.items) lists.items)) → IfOk result (λ (lists : Kept (Kept Origin)). AreFoundOnce (routes_of plan image) net.network lists.items)
found_result plan image net run (Ok lists) accepted calm quiet kept is law are = found_lists plan image net run lists.items accepted calm seatless kept.told.0 kept.told.1 is law are quiet
found_result plan image net run (Err e) accepted calm quiet kept is law are = tt
