-- A node behind its lock after an act: it did what the track of its place tells.
use Rattle.{c104_audit.specs.Leads.list_at, c104_event.specs.declared.events.Event.Event, c104_node.specs.PortActs.{Acts, far_act}}
use Rattle.c104_node.specs.{PortActs.near_act, Records.NodeRecord, Traces.entry_of, declared.acts.{ActOf.ActOf, Entry.Entry}}
use Rattle.{c104_node.specs.declared.crossings.Joint.Joint, c104_plan.specs.Plans.Plan, c104_run.specs.{EventActs.port_place, Runs.at_node}}
use Rattle.{c104_switch.specs.{Actions.{Reply, is_ready}, declared.actions.ReplyOf.ReplyOf}, c104_tickets.specs.Tickets.{Each, PassValue}}
use Rattle.{c104_tickets.specs.{Tickets.TableId, declared.views.Done.Done}, c104_token.specs.declared.tokens.Token.Token}
use Rattle.c104_turns.{proofs.LogEntries.{alone_entries, at_other, at_same, entries_append, joint_deeds}, specs.Calls.place_track}
use Rattle.{c104_turns.specs.Logs.{IsDoneHere, done_stamp, entries_at, entries_of}, c104_workers.proofs.Draws.done_at}
use Rattle.{c104_workers.specs.{Fabrics.Handed, Held.{AsksNode, AsksPair, IsHeld, node_deed, pair_deed}}, std.proofs.Common.{List, Option}}
use Rattle.std.proofs.{Common.{Some, [], ap, append_assoc, refl, sym, true, ℕ, ◌++◌, ◌∙◌, ◌∷◌, ◌≡◌}, lemmas.List.append-nil}

here_more : (plan : Plan) (done : List Done) (d : Done) → Each (IsDoneHere plan) done → IsDoneHere plan d → Each (IsDoneHere plan) (done ++ d ∷ [])
here_more plan [] d each here = (here, tt)
here_more plan (x ∷ done) d each here = (each.0, here_more plan done d each.1 here)

module _ (word_id : TableId) (handed : Handed) (place : ℕ) (n : NodeRecord) (pass : Option PassValue) (held : IsHeld word_id handed place n pass) where
  -- the node has an entry more, which is what the place keeps of what was done
  pub held_grows : (m : NodeRecord) (after : PassValue) (d : Done) (e : Entry) → after.word_id ≡ word_id → after.view.tracks ≡ place_track place (held.done ++ d ∷ []) ∷ [] → m.start ≡ n.start → m.trace ≡ n.trace ++ e ∷ []
      → entries_at handed.plan place d ≡ e ∷ [] → IsDoneHere handed.plan d → IsHeld word_id handed place m (Some after)
  held_grows m after d e word are start grown told here = record {
    own = after;
    is = refl;
    word = word;
    done = held.done ++ d ∷ [];
    tracks = are;
    start = held.start ∙ ap Some (sym start);
    trace = grown ∙ ap (λ es. es ++ e ∷ []) held.trace ∙ append_assoc (list_at handed.before place) (entries_of handed.plan place held.done) (e ∷ [])
        ∙ ap (λ es. list_at handed.before place ++ es)
        (ap (λ es. entries_of handed.plan place held.done ++ es) (sym told ∙ sym (append-nil (entries_at handed.plan place d)))
        ∙ sym (entries_append handed.plan place held.done (d ∷ [])));
    here = here_more handed.plan held.done d held.here here;
  }

module _ (plan : Plan) (ticket s : ℕ) (e : Event) (r : Reply) (ready : is_ready r ≡ true) where
  -- an act of one node
  pub node_here : (k : ℕ) (a : ActOf Token) → AsksNode plan e k a → IsDoneHere plan (done_at ticket (node_deed s k e r))
  node_here k a asked = record { acts = Acts.Alone k a; asked = asked.1; possible = asked.0; near = refl; far = refl; ready = ready }

  pub node_entry : (k : ℕ) (a : ActOf Token) → AsksNode plan e k a → entries_at plan k (done_at ticket (node_deed s k e r)) ≡ entry_of (record { ticket = ticket; seat = Some s }) a r ∷ []
  node_entry k a asked = alone_entries plan (done_at ticket (node_deed s k e r)) k a asked.1 ready

  module _ (joint : Joint) (near far : ℕ) (asked : AsksPair plan e joint near far) where
    abbrev Pair : Done
    Pair = done_at ticket (pair_deed s near far e r)

    pub pair_here : IsDoneHere plan Pair
    pair_here = record {
      acts = Acts.Joint joint.near joint.far joint.crossing;
      asked = asked.1;
      possible = asked.0;
      near = ap Some asked.2;
      far = ap Some asked.3;
      ready = ready;
    }

    abbrev NearEntry : Entry
    NearEntry = entry_of (record { ticket = ticket; seat = Some s }) (near_act joint.crossing joint.near) r

    abbrev FarEntry : Entry
    FarEntry = entry_of (record { ticket = ticket; seat = Some s }) (far_act joint.far r) ReplyOf.Done

    both : (k : ℕ) → entries_at plan k Pair ≡ at_node k ((port_place plan joint.near, NearEntry) ∷ (port_place plan joint.far, FarEntry) ∷ [])
    both k = ap (at_node k) (joint_deeds plan (done_stamp Pair) e r joint.near joint.far joint.crossing asked.1 ready)

    pub near_entry : entries_at plan near Pair ≡ NearEntry ∷ []
    near_entry =
        both near ∙ at_same (port_place plan joint.near) near NearEntry ((port_place plan joint.far, FarEntry) ∷ []) (sym asked.2)
        ∙ ap (λ xs. NearEntry ∷ xs) (at_other (port_place plan joint.far) near FarEntry [] (λ same. asked.4 (sym same ∙ sym asked.3)))

    pub far_entry : entries_at plan far Pair ≡ FarEntry ∷ []
    far_entry =
        both far ∙ at_other (port_place plan joint.near) far NearEntry ((port_place plan joint.far, FarEntry) ∷ []) (λ same. asked.4 (asked.2 ∙ same))
        ∙ at_same (port_place plan joint.far) far FarEntry [] (sym asked.3)
