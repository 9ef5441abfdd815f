-- The table of events and its inverse: an act leads in an event exactly where it leads in what this event asks.
use Rattle.{c104_event.specs.declared.events.Event.Event, c104_node.specs.declared.acts.ActOf.ActOf, c104_plan.specs.Plans.Plan}
use Rattle.c104_run.specs.{EventActs.{act_event, event_ask}, EventPlaces.event_place, LeadActs.{LeadsIn, act_number, ask_act, ask_number}}
use Rattle.{c104_token.specs.declared.tokens.Token.Token, std.proofs.Common.{IfSome, Some, ap, arith, length, subst, sym, ℕ, ◌∙◌, ◌≡◌}}

-- the act that leads in an event, and the number of its node
abbrev lead : Event → ActOf Token
lead e = ask_act (event_ask e)

abbrev number : Event → ℕ
number e = ask_number {A = Token} (event_ask e)

module _ (switches k : ℕ) where
  leads : (a : ActOf Token) → IfSome (act_event switches k a) (λ e. LeadsIn switches k a (event_ask e))
  leads a = search arith

  told : (e : Event) → act_number switches k (lead e) ≡ number e → act_event switches k (lead e) ≡ Some e
  told e is = search arith

  pub event_leads : (a : ActOf Token) (e : Event) → act_event switches k a ≡ Some e → LeadsIn switches k a (event_ask e)
  event_leads a e is = subst (λ o. IfSome o (λ e. LeadsIn switches k a (event_ask e))) is (leads a)

  pub leads_event : (a : ActOf Token) (e : Event) → LeadsIn switches k a (event_ask e) → act_event switches k a ≡ Some e
  leads_event a e (at, is) = ap (act_event switches k) is ∙ told e (sym (ap (act_number switches k) is) ∙ at)

-- the act that leads in an event does so at its place
at_place : (plan : Plan) (e : Event) → act_number (length plan.switches) (event_place plan e) (lead e) ≡ number e
at_place plan e = search arith
