-- What entries tell that lead: the calls of a seat, and all events, as loops go through them.
use Rattle.c104_audit.{proofs.MergedLists.leaders, specs.Audits.{carries, entry_event, is_leading, led_by, led_call, led_event}}
use Rattle.c104_audit.specs.{Audits.{lists_leads, told_reply}, Leads.{Lead, list_at}, Tests.{AreLeads, IsNextCall, calls_told, entry_or}}
use Rattle.{c104_audit.specs.{Tests.lead_in, declared.lists.Lists.Lists}, c104_event.specs.{Calls.call_of, declared.calls.Call.Call}}
use Rattle.{c104_event.specs.declared.events.Event.Event, c104_net.{proofs.Members.IsIn, specs.Replays.entry_event as told_entry}}
use Rattle.c104_net.specs.{Replays.{event_or, lead_event}, ToldEvents.told_event, declared.leading.Lead.Lead as Leading}
use Rattle.{c104_node.specs.declared.acts.{ActOf.ActOf, Entry.Entry}, c104_plan.specs.declared.ports.Wire.Wire}
use Rattle.{c104_run.{proofs.KeptElements.given_here, specs.EventActs.act_event}, c104_token.specs.declared.tokens.Token.Token}
use Rattle.std.proofs.Common.{List, Option, Some, [], ap, append_assoc, arith, drop, false, if◌then◌else◌, inl, inr, is_some, map, refl}
use Rattle.std.{proofs.Common.{slice_get, subst, suc, sym, true, zero, ℕ, ◌++◌, ◌+◌, ◌∙◌, ◌∷◌, ◌≡◌}, specs.Option.option_map}
use Rattle.std.specs.Option.{option_to_list}

-- the event of an entry that leads is that of its act
record IsNamed (S : ℕ) (ws : List Wire) (k : ℕ) (a : ActOf Token) : Type 0 where
  pub event : Event
  pub led : entry_event S ws k a ≡ Some event
  pub names : act_event S k a ≡ Some event

entry_named : (S : ℕ) (ws : List Wire) (k : ℕ) (a : ActOf Token) → is_some (entry_event S ws k a) ≡ true → IsNamed S ws k a
entry_named S ws k a leads = search arith

module _ (lists : Lists) where
  abbrev At : Leading → ℕ × Lead Entry
  At l = lead_in lists.traces l

  in_list : (leads : List Leading) (i : ℕ) (l : Leading) → slice_get leads i ≡ Some l → IsIn (At l) (map (lead_in lists.traces) leads)
  in_list [] i l at = absurd (cc)
  in_list (x ∷ leads) zero l at = let same : x ≡ l = cc in inl (ap (lead_in lists.traces) (sym same))
  in_list (x ∷ leads) (suc i) l at = inr (in_list leads i l at)

  -- each that leads has an event
  pub leads_named : (m : ℕ × Lead Entry) → IsIn m (lists_leads lists) → is_some (entry_event lists.switches lists.wires m.1.place m.1.entry.act) ≡ true
  leads_named m has = (leaders (λ (e : Entry). e.ticket) (is_leading lists.switches lists.wires) lists.traces m has).leading

  named_at : (leads : List Leading) → AreLeads lists leads → (i : ℕ) (l : Leading) → slice_get leads i ≡ Some l → IsNamed lists.switches lists.wires l.place (At l).1.entry.act
  named_at leads all i l at = entry_named lists.switches lists.wires l.place (At l).1.entry.act (leads_named (At l) (subst (IsIn (At l)) all (in_list leads i l at)))

  -- the call that an entry tells
  abbrev pub told_call : Event → Entry → Call
  told_call e x = call_of e x.ticket (told_reply x.act x.reply)

  module _ (s : ℕ) (leads : List Leading) where
    -- what the seat's entries tell that are left
    abbrev pub Left : ℕ → List Call
    Left i = calls_told lists s (map (lead_in lists.traces) (drop i leads))

    abbrev Own : ℕ × Lead Entry → List Call
    Own m = if carries s m.1.entry then option_to_list (led_call lists.switches lists.wires m) else []

    -- the next entry of the seat that leads tells a call
    pub record IsMet (i : ℕ) (x : Entry) (k : ℕ) : Type 0 where
      pub event : Event
      pub names : act_event lists.switches k x.act ≡ Some event
      pub here : Left i ≡ told_call event x ∷ Left (i + 1)

    pub met_here : AreLeads lists leads → (i : ℕ) (l : Leading) (x : Entry) → slice_get leads i ≡ Some l → (At l).1.entry ≡ x → carries s x ≡ true → IsMet i x l.place
    met_here all i l x at entry own =
        let named = named_at leads all i l at in
        let first : Own (At l) ≡ told_call named.event (At l).1.entry ∷ [] =
        ap (λ b. if b then option_to_list (led_call lists.switches lists.wires (At l)) else []) (ap (carries s) entry ∙ own)
        ∙ ap (λ o. option_to_list (option_map (λ e. told_call e (At l).1.entry) o)) named.led in
        subst (λ y. IsMet i y l.place) entry (record {
          event = named.event;
          names = named.names;
          here = given_here Own (lead_in lists.traces) leads i l at ∙ ap (λ cs. cs ++ Left (i + 1)) first;
        })

    -- the next isn't one of the seat's
    pub met_over : (i : ℕ) (l : Leading) → slice_get leads i ≡ Some l → carries s (At l).1.entry ≡ false → Left i ≡ Left (i + 1)
    met_over i l at other =
        given_here Own (lead_in lists.traces) leads i l at
        ∙ ap (λ b. (if b then option_to_list (led_call lists.switches lists.wires (At l)) else []) ++ Left (i + 1)) other

    -- the call at a place of a list is the one that is told, or it isn't
    pub call_there : (i k : ℕ) (x : Entry) (met : IsMet i x k) (calls : List Call) (at : ℕ) → IsNextCall lists.switches k x calls at → slice_get calls at ≡ Some (told_call met.event x)
    call_there i k x met calls at next = search arith

    pub call_found : (i k : ℕ) (x : Entry) (met : IsMet i x k) (calls : List Call) (at : ℕ) → slice_get calls at ≡ Some (told_call met.event x) → IsNextCall lists.switches k x calls at
    call_found i k x met calls at there = (told_call met.event x, there, record { ticket = refl; event = met.names; reply = refl })

  module _ (leads : List Leading) where
    -- the events that are left to tell
    abbrev pub EventsLeft : ℕ → List Event
    EventsLeft i = led_by lists.switches lists.wires (map (lead_in lists.traces) (drop i leads))

    -- the event of one that leads is told as such
    event_there : AreLeads lists leads → (i : ℕ) (l : Leading) → slice_get leads i ≡ Some l → act_event lists.switches l.place (At l).1.entry.act ≡ Some (told_event (lead_event lists.switches lists.traces l))
    event_there all i l at = by_entry (slice_get (list_at lists.traces l.place) l.at) refl (named_at leads all i l at)
      where
        by_event : (o : Option Event) (e : Event) → o ≡ Some e → o ≡ Some (event_or o)
        by_event o e is = search arith

        by_entry : (o : Option Entry) → slice_get (list_at lists.traces l.place) l.at ≡ o → IsNamed lists.switches lists.wires l.place (entry_or o).act → act_event lists.switches l.place (entry_or o).act ≡ Some (told_event (l.ticket, told_entry lists.switches l.place o))
        by_entry o there named = search (arith, by_event)

    told_here : AreLeads lists leads → (i : ℕ) (l : Leading) → slice_get leads i ≡ Some l → EventsLeft i ≡ told_event (lead_event lists.switches lists.traces l) ∷ EventsLeft (i + 1)
    told_here all i l at =
        let named = named_at leads all i l at in
        given_here (λ m. option_to_list (led_event lists.switches lists.wires m)) (lead_in lists.traces) leads i l at
        ∙ ap (λ o. option_to_list o ++ EventsLeft (i + 1)) (named.led ∙ sym named.names ∙ event_there all i l at)

    -- one more event was told
    pub told_on : AreLeads lists leads → (i : ℕ) (l : Leading) (e : Event) (events new all : List Event) → slice_get leads i ≡ Some l → e ≡ told_event (lead_event lists.switches lists.traces l) → new ≡ events ++ e ∷ [] →
        events ++ EventsLeft i ≡ all → new ++ EventsLeft (i + 1) ≡ all
    told_on leading i l e events new all at is added before = search (arith, append_assoc, told_here)
