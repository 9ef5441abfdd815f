-- What a fabric leaves can be audited, and where it audits well it tells a run.
use Rattle.c104_audit.{proofs.{AuditedRuns.{audited_run, tell_run}, Matches.end_place}, specs.AuditedRuns.{AreGathered, IsWholeNode}}
use Rattle.c104_audit.specs.{AuditedRuns.{WereBefore, node_shape}, Audits.{AreLists, IsAudited, IsEndAmong, lists_events}}
use Rattle.{c104_node.specs.{Records.node_trace, Starts.start_node, Traces.seatless}, c104_plan.{proofs.Wires.wiring, specs.Plans.IsPlan}}
use Rattle.c104_plan.specs.{Plans.{Plan, host_port}, Wiring.{IsPlanPort, terminal_wires}, declared.plans.Terminal.Terminal}
use Rattle.{c104_plan.specs.declared.ports.{Port.Port, Wire.Wire}, c104_run.proofs.{BalanceWires.nodes_apart, EntryCounts.lengths_same}}
use Rattle.c104_run.{proofs.RecordSteps.nodes_counted, specs.{Balance.IsSteady, FinishedRecords.FinishedRecord, NetRecords.NetRecord}}
use Rattle.c104_run.specs.{Network.network_of, NodeRuns.{TellRun, nodes_run}, Runs.{IsRunRecord, at_node, run_deeds}}
use Rattle.{c104_token.specs.{Kinds.plain_kind, declared.tokens.Token.Token}, c104_workers.specs.Audited.{TellsSeats, lists_of}}
use Rattle.{c104_workers.specs.{Fabrics.{Handed, Left}, OneRuns.IsLeft}, std.proofs.Common.{All, List, Some, [], ap, arith, length, map}}
use Rattle.std.proofs.{Common.{refl, slice_get, subst, suc, sym, take, zero, ℕ, ◌++◌, ◌+◌, ◌∙◌, ◌∷◌, ◌≡◌}, lemmas.List.length-map}

-- the wire of one terminal more
wires_more : (n k : ℕ) (ts : List Terminal) (t : Terminal) → slice_get ts k ≡ Some t → terminal_wires n (take (suc k) ts) ≡ terminal_wires n (take k ts) ++ record { here = Port.Terminal (n + k); there = host_port t } ∷ []
wires_more n k [] t at = absurd (cc)
wires_more n zero (s ∷ ts) t at =
    let same : s ≡ t = cc in
    let none : n ≡ n + 0 = omega arith in
    ap (λ m. record { here = Port.Terminal m; there = host_port s } ∷ []) none ∙ ap (λ (u : Terminal). record { here = Port.Terminal (n + 0); there = host_port u } ∷ []) same
wires_more n (suc k) (s ∷ ts) t at =
    let next : suc n + k ≡ n + suc k = omega arith in
    ap (λ ws. record { here = Port.Terminal n; there = host_port s } ∷ ws) (wires_more (suc n) k ts t at ∙ ap (λ m. terminal_wires (suc n) (take k ts) ++ record { here = Port.Terminal m; there = host_port t } ∷ []) next)

pub wire_next : (k : ℕ) (ts : List Terminal) (t : Terminal) (there : Port) (made next : List Wire) → slice_get ts k ≡ Some t → there ≡ host_port t → made ≡ terminal_wires 0 (take k ts) → next ≡ made ++ record { here = Port.Terminal k; there = there } ∷ [] → next ≡ terminal_wires 0 (take (k + 1) ts)
wire_next k ts t there made next at host so grown =
    let same : k ≡ 0 + k = omega arith in
    let next_is : suc k ≡ k + 1 = omega arith in
    grown ∙ ap (λ ws. ws ++ record { here = Port.Terminal k; there = there } ∷ []) so
    ∙ ap (λ p. terminal_wires 0 (take k ts) ++ record { here = Port.Terminal k; there = p } ∷ []) host
    ∙ ap (λ n. terminal_wires 0 (take k ts) ++ record { here = Port.Terminal n; there = host_port t } ∷ []) same
    ∙ sym (wires_more 0 k ts t at) ∙ ap (λ n. terminal_wires 0 (take n ts)) next_is

module _ (left : Left) (is : IsLeft left) (is_plan : IsPlan left.handed.plan) where
  abbrev P : Plan
  P = left.handed.plan

  abbrev Net : NetRecord
  Net = is.handed.net

  -- the network stood steady where it started, and what its nodes had done is that of its run
  steady : IsSteady {A = Token} (network_of P (map start_node left.handed.starts))
  steady = subst (λ (h : Handed). IsSteady {A = Token} (network_of h.plan (map start_node h.starts))) (sym is.handed.is) is.handed.kept.started

  before : WereBefore P (lists_of left) is.handed.kept.told.0
  before = record {
    nodes = Net.network.nodes;
    told = subst (λ (h : Handed). IsRunRecord plain_kind h.plan seatless (map start_node h.starts) Net.network.nodes h.before h.count is.handed.kept.told.0) (sym is.handed.is) is.handed.kept.told.1;
  }

  starts_counted : length (map (start_node {A = Token}) left.handed.starts) ≡ length P.switches + length P.terminals
  starts_counted = nodes_counted P (map (start_node {A = Token}) left.handed.starts) steady.in_place

  shapes_counted : length (map node_shape left.nodes) ≡ length P.switches + length P.terminals
  shapes_counted = length-map left.nodes node_shape ∙ is.nodes

  port_inside : (p : Port) → IsPlanPort P p → IsEndAmong (length P.switches) (length (map node_shape left.nodes)) p
  port_inside (Port.Switch s l) inside = inside
  port_inside (Port.Terminal t) inside = omega (arith, inside, shapes_counted)

  -- what an audit asks of lists
  pub are_lists : AreLists (lists_of left)
  are_lists = record {
    starts = sym (length-map left.handed.starts (start_node {A = Token})) ∙ starts_counted ∙ sym shapes_counted;
    before = lengths_same left.handed.before (map (start_node {A = Token}) left.handed.starts) (λ k n. at_node k (run_deeds P seatless 0 is.handed.kept.told.0)) before.told.told ∙ starts_counted ∙ sym shapes_counted;
    traces = length-map left.nodes node_trace ∙ sym (length-map left.nodes node_shape);
    switches = omega (arith, shapes_counted);
    apart = λ i w at. let wired = ((wiring P is_plan).joined i w at).0 in λ same. nodes_apart P is_plan w.here w.there wired (sym (end_place P is_plan w.here) ∙ same ∙ end_place P is_plan w.there);
    inside = λ i w at.
        let both = (wiring P is_plan).joined i w at in
        (port_inside w.here ((wiring P is_plan).inside w.here w.there both.0), port_inside w.there ((wiring P is_plan).inside w.there w.here both.1));
  }

  module _ (whole : All IsWholeNode left.nodes) where
    gathered : AreGathered P left.nodes (lists_of left)
    gathered = record { switches = refl; wires = refl; shapes = refl; traces = refl; counted = is.nodes; whole = whole }

    module _ (audited : IsAudited (lists_of left)) where
      -- the nodes tell a run of as many events as the lists do
      pub left_tells : TellRun P left.nodes (length (lists_events (lists_of left)))
      left_tells = tell_run P is_plan left.nodes (lists_of left) gathered audited is.handed.kept.told.0 before steady

      -- and what is left of them is the run of the seats
      pub tells_seats : (run : FinishedRecord) → run ≡ nodes_run P left.nodes (length (lists_events (lists_of left))) → TellsSeats left run
      tells_seats run same = λ events were. audited_run P is_plan left.nodes (lists_of left) gathered audited events were run same
