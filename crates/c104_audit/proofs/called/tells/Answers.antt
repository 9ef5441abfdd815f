use Rattle.c104_run.{proofs.LeadActs.{event_leads, leads_event}, specs.{EventActs.Ask, LeadActs.LeadsIn}}
use Rattle.{c104_token.specs.declared.tokens.Token.Token, std.proofs.Common.{subst, sym}}

-- an act leads in an event exactly where it leads in what the event asks
pub returns : Rattle.c104_audit.proofs.called.tells.Goals.returns
returns c =
    let leads : Ask Token → Type 0 = λ ask. LeadsIn c.args.switches c.args.place c.args.act.now ask in (
      λ is. leads_event c.args.switches c.args.place c.args.act.now c.args.event.now (subst leads c.ask_of.ensures.is (c.leads_in.ensures.0 is)),
      λ told. c.leads_in.ensures.1 (subst leads (sym c.ask_of.ensures.is) (event_leads c.args.switches c.args.place c.args.act.now c.args.event.now told)),
    )
