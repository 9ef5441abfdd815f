-- The rule of the word of tickets goes on: that of its log does, and the word is the next ticket.
use Rattle.c104_tickets.proofs.{Begins.begins, Steps.{append_keeps, closes, earlier, from_first, join_keeps, small, split_keeps}}
use Rattle.c104_tickets.specs.Tickets.{AreEarlier, IsClosed, IsFree, IsWordOf, after_draw, after_join, after_split, first_track, first_view}
use Rattle.c104_tickets.specs.{Tickets.{spent, words_with}, declared.{TheConstants.{FIRST_LIMIT, SEAT_LIMIT}, views.Deed.Deed}}
use Rattle.{c104_tickets.specs.declared.views.{Terms.Terms, View.View}, std.proofs.Common.{List, [], ap, arith, length, set, subst, sym, ℕ}}
use Rattle.std.proofs.{Common.{◌%◌, ◌++◌, ◌+◌, ◌^◌, ◌∷◌, ◌≡◌, ◌≢◌, ◌≤◌}, Math.Nat.mod-eq_of_lt, lemmas.List.length-append}
use Rattle.std.specs.Prelude.{slice_index}
use lib.ListN.{get_elem?}
use mathlib.Core.Option.{some, some-injective}

pub word_begins : (terms : Terms) → terms.first ≤ FIRST_LIMIT → terms.seats ≤ SEAT_LIMIT
    → IsWordOf terms (words_with terms.first) (first_view terms ∷ [])
word_begins terms first seats = record { log = []; logged = begins terms first seats; word = ap words_with (omega arith) }

module _ (terms : Terms) (words : List ℕ) (views : List View) (rule : IsWordOf terms words views) where
  -- the word after a ticket was drawn, as the step writes it, and what the pass is told
  abbrev Draws : List ℕ → ℕ → View → Deed → Type 0
  Draws them id v d =
      IsWordOf terms (set them 16 ((slice_index them 16 + 1) % 2 ^ 64)) (set views id (after_draw v d (slice_index them 16)))
      × AreEarlier (slice_index them 16) v.tracks × (v.terms.first ≤ slice_index them 16)

  pub draws : (id : ℕ) (v : View) (d : Deed) → get_elem? views id ≡ some v → IsFree d v → Draws words id v d
  draws id v d at free =
      let next : ℕ = terms.first + length rule.log in
      let fits : (next + 1) % 2 ^ 64 ≡ next + 1 = mod-eq_of_lt (small terms rule.log views rule.logged) in
      subst (λ ws. Draws ws id v d) (sym rule.word) (
        subst (λ n. IsWordOf terms (words_with n) (set views id (after_draw v d next))) (sym fits) (record {
          log = rule.log ++ record { ticket = next; deed = d } ∷ [];
          logged = append_keeps terms rule.log views rule.logged id v d at free;
          word = ap words_with (omega (arith, length-append rule.log (record { ticket = next; deed = d } ∷ [])));
        }),
        earlier terms rule.log views rule.logged id v at,
        from_first terms rule.log views rule.logged id v at,
      )

  pub word_splits : (id : ℕ) (v : View) → get_elem? views id ≡ some v → IsWordOf terms words (set views id (after_split v) ++ first_track v ∷ [])
  word_splits id v at =
      record { log = rule.log; logged = split_keeps terms rule.log views rule.logged id v at; word = rule.word }

  pub word_joins : (id : ℕ) (v : View) (other : ℕ) (w : View) → get_elem? views id ≡ some v
      → get_elem? (set views id (after_join v w)) other ≡ some w → other ≢ id
      → IsWordOf terms words (set (set views id (after_join v w)) other spent)
  word_joins id v other w at at_mid differs = record {
    log = rule.log;
    logged = join_keeps terms rule.log views rule.logged id v other w at at_mid differs;
    word = rule.word;
  }

  pub word_closes : (next : ℕ) → get_elem? words 16 ≡ some next → (id : ℕ) (v : View) → get_elem? views id ≡ some v
      → IsClosed terms next v.tracks
  word_closes next last id v at = closes terms rule.log views rule.logged next
      (sym (some-injective _ _ (subst (λ ws. get_elem? ws 16 ≡ some next) rule.word last))) id v at
