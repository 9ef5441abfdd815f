use Rattle.{c104_crossbar.specs.Marks.ArePartition, c104_switch.{proofs.OwnersKept.{owners_none, reset_unheld}, specs.Commands.input_reset}}
use Rattle.{c104_switch.specs.{Holding.held_claims, Owners.AreOwners, Readiness.AreKept, Switch.Input}, std.proofs.Common.{List, None, ap}}
use Rattle.std.proofs.{Common.{arith, drop, length, map, replicate, subst, sym, take, ◌++◌, ◌∙◌, ◌≡◌, ◌≤◌}, lemmas.List.length-map}
use Rattle.std.proofs.lemmas.List.{take_at}

pub invariant_of-self : Rattle.c104_switch.proofs.inputs.InputsOf.reset.Goals.invariant_of-self
invariant_of-self g c =
    let list : List (Input g.row.T.Denot) = c.reset.new.list in
    let all : length list ≡ length c.self.inside.list.items = ap length (c.reset.ensures.inputs ∙ ap (map input_reset) c.deref_mut.ensures.value) ∙ length-map c.self.inside.list.items input_reset in
    let written : take c.self.inside.list.len (list ++ drop (length list) c.self.inside.list.items) ≡ list = take_at list (drop (length list) c.self.inside.list.items) c.self.inside.list.len (all ∙ ap length (sym c.deref_mut.ensures.value) ∙ c.deref_mut.ensures.len) in
    let few : length list ≤ 32 = omega (arith, all, c.self.invariant.3) in
    subst (λ (ps : List (Input g.row.T.Denot)). ArePartition (held_claims ps) c.reset.new.crossbar × AreKept c.sets_of-self-inside.result ps × AreOwners (replicate 32 None) ps × (length ps ≤ 32)) (sym written) (
      c.reset.ensures.partition,
      subst (λ (ps : List (Input g.row.T.Denot)). AreKept c.sets_of-self-inside.result ps) (c.as_slice.ensures.value ∙ written) c.sets_of-self-inside.ensures,
      owners_none list (ap held_claims c.reset.ensures.inputs ∙ reset_unheld c.deref_mut.result.now),
      few,
    )
