use Rattle.{c104_crossbar.specs.Marks.ArePartition, c104_switch.proofs.{HeldClaims.claimed_not_free, HeldSteps.partition_reset}}
use Rattle.{c104_switch.specs.{Commands.input_reset, Holding.{held_claims, phase_claims}, Switch.Input}, std.proofs.Common.{[], ap, arith}}
use Rattle.std.proofs.{Common.{slice_set, subst, sym, ◌∙◌, ◌∷◌, ◌≡◌}, lemmas.List.Edits.map_over_more}
use Rattle.c104_switch.proofs.inputs.reset.Goals.{in-Some, in_default}
use Rattle.c104_switch.proofs.inputs.reset.Goals as goal

pub release-requires : goal.release-requires
release-requires g c =
    let p : Input g.row.T.Denot = c.input-item.result in
    let is_reset : c.reset.new.self ≡ input_reset p = c.reset.ensures.reset ∙ ap input_reset (sym c.input-item.is) in
    let own : c.in-Some.claim ∷ [] ≡ phase_claims p.phase = c.in-Some.ensures.claims ∙ ap (λ (p : Input _). phase_claims p.phase) (sym c.input-item.is) in
    claimed_not_free c.in-Some.claim _ c.loop-input.crossbar (partition_reset c.loop-input.list c.loop-input.input-index p c.reset.new.self (omega arith) c.input-item.is (c.in-Some.claim ∷ []) c.loop-input.crossbar is_reset own c.loop-input.invariant.partition)

pub loop-input-preserved : goal.loop-input-preserved
loop-input-preserved g c =
    let p : Input g.row.T.Denot = c.input-item.result in
    let is_reset : c.reset.new.self ≡ input_reset p = c.reset.ensures.reset ∙ ap input_reset (sym c.input-item.is) in
    record {
      reset =
          ap (slice_set c.loop-input.list c.loop-input.input-index) is_reset
          ∙ map_over_more input_reset c.args.list.now c.loop-input.list c.loop-input.input-index p (omega arith) c.loop-input.invariant.reset c.input-item.is;
      partition = elim c.match-reset.branch [
        | in-Some w ↦
            let own : w.in-Some.claim ∷ [] ≡ phase_claims p.phase = w.in-Some.ensures.claims ∙ ap (λ (p : Input _). phase_claims p.phase) (sym c.input-item.is) in
            subst (ArePartition (held_claims (slice_set c.loop-input.list c.loop-input.input-index c.reset.new.self))) (sym w.crossbar-is) (w.release.ensures.partition _ (partition_reset c.loop-input.list c.loop-input.input-index p c.reset.new.self (omega arith) c.input-item.is (w.in-Some.claim ∷ []) c.loop-input.crossbar is_reset own c.loop-input.invariant.partition))
        | in_default w ↦
            let own : [] ≡ phase_claims p.phase = w.in_default.ensures.claims ∙ ap (λ (p : Input _). phase_claims p.phase) (sym c.input-item.is) in
            subst (ArePartition (held_claims (slice_set c.loop-input.list c.loop-input.input-index c.reset.new.self))) (sym w.crossbar-is) (partition_reset c.loop-input.list c.loop-input.input-index p c.reset.new.self (omega arith) c.input-item.is [] c.loop-input.crossbar is_reset own c.loop-input.invariant.partition)
      ];
    }
