use Rattle.{c104_lean.specs.Shared.{ArePartsOf, WasShared, record_of, terms_of}, c104_plan.specs.Plans.Plan}
use Rattle.c104_run.specs.{Engines.engine_of, NetRecords.NetRecord, RecordedNets.IsRecordedNet, RecordedPlaces.counted_reading}
use Rattle.{c104_tickets.specs.declared.views.Terms.Terms, std.proofs.Common.{ap, arith, length, subst, sym, ◌+◌, ◌∙◌, ◌≡◌}}

pub invariant_of-result : Rattle.c104_lean.proofs.making.Ready.new.Goals.invariant_of-result
invariant_of-result c =
    let wires = c.into_parts-wires.result.0 in
    let nodes = c.into_parts-wires.result.1.items in
    let counted = ap (λ (r : NetRecord). r.count) c.into_parts-wires.ensures.shown ∙ sym c.count.ensures.count in
    let planned : c.args.net.network.plan ≡ wires = sym (ap (λ (r : NetRecord). r.network.plan) c.into_parts-wires.ensures.shown) in
    let shared : WasShared (engine_of wires nodes c.count.result) = record {
      planned = c.into_parts-wires.ensures.planned;
      kept = subst (IsRecordedNet counted_reading wires nodes) counted c.into_parts-wires.ensures.kept;
      wired = c.into_parts-wires.ensures.wired;
      nodes = c.into_parts-wires.ensures.nodes;
      few = c.count.ensures.few;
    } in
    let switches = c.switches.ensures.switches ∙ ap (λ (p : Plan). p.switches) (c.plan.ensures ∙ planned) in
    let terminals = c.terminals.ensures.terminals ∙ ap (λ (p : Plan). p.terminals) (c.plan-2.ensures ∙ planned) in
    let terms : ◌≡◌ {A = Terms}
    (record { first = c.count.result; seats = c.args.seats; places = length c.switches.result.now + length c.terminals.result.now })
    (terms_of (record_of (engine_of wires nodes c.count.result)) c.args.seats) =
    ap (λ n. record { first = c.count.result; seats = c.args.seats; places = n + length c.terminals.result.now }) (ap (λ xs. length xs) switches)
    ∙ ap (λ n. record { first = c.count.result; seats = c.args.seats; places = length wires.switches + n }) (ap (λ xs. length xs) terminals) in (
      shared,
      terms,
      (omega (arith, c.if-seats-eq0.false), omega (arith, c.if-seats-gt-SEAT_LIMIT.false)),
      c.requires,
      c.in-Ok.ensures.word,
      c.in-Ok.ensures.pass.0,
      c.in-Ok.ensures.pass.1,
      c.in-Ok.ensures.room.0,
      c.in-Ok.ensures.room.1,
      subst (λ p. ArePartsOf p c.in-Ok.field-0.parts.items) (c.wires.ensures ∙ planned) c.in-Ok.ensures.parts,
    )
