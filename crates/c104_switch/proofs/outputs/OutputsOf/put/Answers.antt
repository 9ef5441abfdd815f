use Rattle.{c104_crossbar.specs.Groups.has_bit, c104_link.{proofs.Lifts.lift_tried, specs.Buffers.{Outgoing, outgoing_put}}}
use Rattle.{c104_link.specs.Steps.step_at, c104_switch.proofs.{KeptSending.sending_offered, KeptSets.few_set, StreamSteps.inside_made}}
use Rattle.{c104_switch.proofs.StreamSteps.tried_made, std.proofs.Common.{List, ap, is_some, nat_lt, subst, sym, true, ◌||◌, ◌∙◌, ◌≡◌}}
use Rattle.c104_switch.proofs.outputs.OutputsOf.put.Goals as goal

pub invariant_of-self : goal.invariant_of-self
invariant_of-self g c =
    let can = subst (λ (qs : List (Outgoing g.row.T.Denot)). is_some (step_at qs c.args.link (outgoing_put c.args.token)) ≡ true) (sym c.self.view_is) c.requires in (
      sending_offered c.self.inside.list.items c.args.link c.index_mut-output.result.now c.put-is_done.new.output c.self.inside.sending c.add_if.new.self (inside_made _ _ _ can) c.index_mut-output.ensures.value c.self.invariant.0 c.add_if.ensures.others
          c.args.token c.put-is_done.result c.put-is_done.ensures (c.add_if.ensures.here ∙ ap (λ n. nat_lt 0 n || has_bit c.self.inside.sending c.args.link) c.credit.ensures.credit),
      few_set c.self.inside.list.items c.args.link c.put-is_done.new.output c.self.invariant.1,
    )

pub returns : goal.returns
returns g c =
    let can = subst (λ (qs : List (Outgoing g.row.T.Denot)). is_some (step_at qs c.args.link (outgoing_put c.args.token)) ≡ true) (sym c.self.view_is) c.requires in
    rw (sym c.self.view_is) (tried_made _ c.self.inside.list.items _ c.put-is_done.result can (lift_tried c.self.inside.list.items c.args.link c.index_mut-output.result.now c.put-is_done.new.output (inside_made _ _ _ can) c.index_mut-output.ensures.value c.put-is_done.result _ c.put-is_done.ensures))
