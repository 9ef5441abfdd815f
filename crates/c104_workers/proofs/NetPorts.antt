-- A network as a port: where it has no trace it has no node, so there is nothing to list.
use Rattle.c104_node.specs.{Nodes.Node, Starts.start_node, Traces.seatless, declared.acts.Entry.Entry}
use Rattle.c104_run.{proofs.{EntryCounts.lengths_same, RecordSteps.nodes_counted}, specs.NetRecords.{IsNetRecord, NetRecord}}
use Rattle.{c104_run.specs.Runs.{at_node, run_deeds}, c104_token.specs.{Kinds.plain_kind, declared.tokens.Token.Token}}
use Rattle.c104_turns.specs.{Parts.{IsOfKind, ready_numbers}, Working.PartView, declared.parts.Stage.Stage}
use Rattle.{c104_workers.specs.NetTurns.NetLists, std.proofs.Common.{List, None, Option, Some, [], arith, get_or, length, map, refl}}
use Rattle.std.proofs.{Common.{slice_get, subst, sym, ℕ, ◌<◌, ◌∙◌, ◌≡◌}, lemmas.Option.{slice_get-get_or, slice_get_within}}
use Rattle.std.specs.Prelude.{MatchOption}

module _ (r : NetRecord) (told : IsNetRecord r) where
  -- there is a trace for each node
  same_counts : length r.traces ≡ length r.network.nodes
  same_counts =
      let start : List (Node Token) = map start_node r.starts in
      let run = told.told in
      lengths_same r.traces start (λ k n. at_node k (run_deeds r.network.plan seatless 0 run.0)) run.1.told
      ∙ nodes_counted r.network.plan start told.started.in_place ∙ sym (nodes_counted r.network.plan r.network.nodes told.steady.in_place)

  no_node_there : (k : ℕ) → slice_get r.traces k ≡ None → slice_get r.network.nodes k ≡ None
  no_node_there k none = by_node (slice_get r.network.nodes k) refl
    where
      by_node : (o : Option (Node Token)) → slice_get r.network.nodes k ≡ o → o ≡ None
      by_node None at = refl
      by_node (Some n) at =
          let inside : k < length r.network.nodes = slice_get_within r.network.nodes k n at in
          let here : slice_get r.traces k ≡ Some (get_or r.traces k []) =
          slice_get-get_or r.traces k [] (omega (arith, inside, same_counts)) in
          absurd (let no : ⊥ = cc in no)

  pub none_listed : (part : PartView) (stage : Stage) (numbers : List ℕ) (k : ℕ) → k ≡ part.node → slice_get r.traces k ≡ None
      → numbers ≡ [] → NetLists r part stage numbers
  none_listed part stage numbers k at none is =
      subst (λ (o : Option (Node Token)). MatchOption o (numbers ≡ [])
      (λ (n : Node Token). IsOfKind part n → numbers ≡ ready_numbers plain_kind n part stage))
      (sym (no_node_there part.node (subst (λ (i : ℕ). slice_get r.traces i ≡ None) at none))) is
