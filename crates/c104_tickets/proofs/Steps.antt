-- The rule of a log goes on through each kind of step, and what it tells of a pass.
use Rattle.{atomic_table.proofs.Lists.{at_set, set_else}, c104_tickets.proofs.Logs.{bounded, each_append, each_map, each_so, earlier_part}}
use Rattle.c104_tickets.proofs.Logs.{equals, itself, length_kept, numbered_snoc, part_other, part_snoc, same_name, same_self}
use Rattle.c104_tickets.specs.Tickets.{AreApart, AreEarlier, Each, HasRoom, HasTrack, IsAppended, IsClosed, IsFree, IsInside, IsLogOf}
use Rattle.c104_tickets.specs.Tickets.{IsNameOf, IsTrack, IsTrackOf, IsViewOf, after_draw, after_join, after_split, behind, belongs}
use Rattle.c104_tickets.specs.{Tickets.{first_track, front, is_same, part_of, spent, track_after}, declared.TheConstants.TICKET_LIMIT}
use Rattle.c104_tickets.specs.declared.views.{Deed.Deed, Done.Done, Name.Name, Terms.Terms, Track.Track, View.View}
use Rattle.std.proofs.Common.{Bool, List, [], ap, arith, cond, false, inl, inr, length, map, refl, set, subst, suc, sym, true, zero, ℕ}
use Rattle.std.{proofs.{Common.{⊎_elim, ◌++◌, ◌+◌, ◌<◌, ◌∙◌, ◌∷◌, ◌≡◌, ◌≢◌, ◌≤◌, ◌⊎◌}, lemmas.List.length-append}, specs.Prelude.◌==◌}
use lib.ListN.{get_elem?}
use mathlib.Core.Option.{some, some-injective, some-ne-none}

-- what holds of each view after a step: one comes in the place of another, or behind all

at_end : {A : Type 0} (l : List A) (a b : A) (j : ℕ) → get_elem? (l ++ a ∷ []) j ≡ some b
    → (get_elem? l j ≡ some b) ⊎ ((j ≡ length l) × (a ≡ b))
at_end [] a b zero e = inr (refl, some-injective a b e)
at_end [] a b (suc j) e = absurd (some-ne-none b (sym e))
at_end (x ∷ xs) a b zero e = inl e
at_end (x ∷ xs) a b (suc j) e = ⊎_elim (λ h. inl h) (λ h. inr (ap suc h.0, h.1)) (at_end xs a b j e)

module _ {A : Type 0} (P : ℕ → A → Type 0) where
  set_all : (l : List A) (id : ℕ) (a : A) → P id a → ((j : ℕ) (b : A) → j ≢ id → get_elem? l j ≡ some b → P j b)
      → (j : ℕ) (b : A) → get_elem? (set l id a) j ≡ some b → P j b
  set_all l id a new old j b at =
      ⊎_elim (λ here. subst (λ i. P i b) (sym here.0) (subst (P id) here.1 new)) (λ there. old j b there.0 there.1) (at_set l id j a b at)

  push_all : (l : List A) (a : A) → P (length l) a → ((j : ℕ) (b : A) → get_elem? l j ≡ some b → P j b)
      → (j : ℕ) (b : A) → get_elem? (l ++ a ∷ []) j ≡ some b → P j b
  push_all l a new old j b at =
      ⊎_elim (old j b) (λ here. subst (λ i. P i b) (sym here.0) (subst (P (length l)) here.1 new)) (at_end l a b j at)

-- no two tracks have one name

apart_after : (e : Done) (ts : List Track) → AreApart ts → AreApart (map (track_after e) ts)
apart_after e [] apart = tt
apart_after e (t ∷ ts) apart =
    (each_map (λ u. u.name ≢ t.name) (λ u. u.name ≢ t.name) (track_after e) ts (λ u ne. ne) apart.0, apart_after e ts apart.1)

pub apart_append : (xs ys : List Track) → AreApart xs → AreApart ys → Each (λ x. Each (λ y. y.name ≢ x.name) ys) xs
    → AreApart (xs ++ ys)
apart_append [] ys left right across = right
apart_append (x ∷ xs) ys left right across =
    (each_append (λ y. y.name ≢ x.name) xs ys left.0 across.0, apart_append xs ys left.1 right across.1)

-- who has a track

if_not : (b : Bool) (n o : ℕ) → (b ≡ true → ⊥) → cond {A = ℕ} b n o ≡ o
if_not true n o never = absurd (never refl)
if_not false n o never = refl

module _ (terms : Terms) (log : List Done) (views : List View) (rule : IsLogOf terms log views) where
  -- the next ticket is far from the largest number of a word
  pub small : terms.first + length log + 1 < 18446744073709551616
  small = omega (arith, bounded terms log rule.inside rule.seats_fit rule.few, rule.first_fits)

  abbrev Fits : ℕ → Track → Type 0
  Fits j t = IsTrackOf terms rule.owner log j t

  -- what is known of a name from a track
  record IsOf (id : ℕ) (name : Name) : Type 0 where
    pub owned : rule.owner name ≡ id
    pub named : IsNameOf terms name

  has_owner : (P : Track → Type 0) (id : ℕ) (name : Name) (ts : List Track) → Each (Fits id) ts → HasTrack P name ts → IsOf id name
  has_owner P id name [] each has = absurd has
  has_owner P id name (t ∷ ts) each (inl x) = subst (IsOf id) x.0 (record { owned = each.0.owned; named = each.0.named })
  has_owner P id name (t ∷ ts) each (inr x) = has_owner P id name ts each.1 x

  has_room : (id : ℕ) (name : Name) (ts : List Track) → Each (Fits id) ts → HasTrack HasRoom name ts
      → length (part_of name log) < TICKET_LIMIT
  has_room id name [] each has = absurd has
  has_room id name (t ∷ ts) each (inl x) =
      subst (λ n. length (part_of n log) < TICKET_LIMIT) x.0 (subst (λ (l : List Done). length l < TICKET_LIMIT) each.0.is x.1)
  has_room id name (t ∷ ts) each (inr x) = has_room id name ts each.1 x

  module _ (e : Done) where
    abbrev FitsAfter : ℕ → Track → Type 0
    FitsAfter j t = IsTrackOf terms rule.owner (log ++ e ∷ []) j t

    -- a track of the pass that draws takes the deed in, if it belongs to its name
    grows : (id : ℕ) (t : Track) → Fits id t → FitsAfter id (track_after e t)
    grows id t fit = record {
      owned = fit.owned;
      named = fit.named;
      is = ap (λ l. l ++ part_of t.name (e ∷ [])) fit.is ∙ sym (part_snoc t.name log e);
    }

    -- the tracks of other passes are of names to which it doesn't belong
    stays : (id : ℕ) (v : View) → get_elem? views id ≡ some v → IsFree e.deed v → (j : ℕ) → j ≢ id
        → (t : Track) → Fits j t → FitsAfter j t
    stays id v at free j differs t fit =
        let mine = (rule.fits id v at).tracks in
        let never : belongs t.name e.deed ≡ true → ⊥ =
        λ is. differs (sym fit.owned ∙ (has_owner IsTrack id t.name v.tracks mine (free.1 t.name is)).owned) in
        record { owned = fit.owned; named = fit.named; is = fit.is ∙ sym (part_other t.name log e never) }

    few_after : length (part_of (Name.Seat e.deed.seat) log) < TICKET_LIMIT
        → (s : ℕ) → length (part_of (Name.Seat s) (log ++ e ∷ [])) ≤ TICKET_LIMIT
    few_after room s = by (e.deed.seat == s) refl where
      by : (b : Bool) → (e.deed.seat == s) ≡ b → length (part_of (Name.Seat s) (log ++ e ∷ [])) ≤ TICKET_LIMIT
      by true is =
          let less : length (part_of (Name.Seat s) log) < TICKET_LIMIT =
          subst (λ n. length (part_of (Name.Seat n) log) < TICKET_LIMIT) (equals e.deed.seat s is) room in
          omega (
            arith,
            ap (λ (l : List Done). length l) (part_snoc (Name.Seat s) log e),
            length-append (part_of (Name.Seat s) log) (part_of (Name.Seat s) (e ∷ [])),
            length_kept (e.deed.seat == s) e [],
            ap (λ b. cond {A = ℕ} b 1 0) is,
            less,
          )
      by false is =
          let never : (e.deed.seat == s) ≡ true → ⊥ = λ yes. cc (is, yes) in
          omega (arith, ap (λ (l : List Done). length l) (part_other (Name.Seat s) log e never), rule.few s)

  pub append_keeps : (id : ℕ) (v : View) (d : Deed) → get_elem? views id ≡ some v → IsFree d v
      → IsLogOf terms (log ++ record { ticket = terms.first + length log; deed = d } ∷ [])
      (set views id (after_draw v d (terms.first + length log)))
  append_keeps id v d at free =
      let e : Done = record { ticket = terms.first + length log; deed = d } in
      let mine = rule.fits id v at in
      record {
        owner = rule.owner;
        first_fits = rule.first_fits;
        seats_fit = rule.seats_fit;
        numbered = numbered_snoc terms.first log e rule.numbered refl;
        inside = each_append (IsInside terms) log (e ∷ []) rule.inside
            ((λ name is. (has_owner IsTrack id name v.tracks mine.tracks (free.1 name is)).named), tt);
        few = few_after e (has_room id (Name.Seat d.seat) v.tracks mine.tracks free.0);
        fits = set_all (IsViewOf terms rule.owner (log ++ e ∷ [])) views id (after_draw v d (terms.first + length log))
            (record {
              tracks = each_map (Fits id) (FitsAfter e id) (track_after e) v.tracks (grows e id) mine.tracks;
              apart = apart_after e v.tracks mine.apart;
              told = mine.told;
            })
            (λ j u differs found. let fit = rule.fits j u found in
            record {
              tracks = each_so (Fits j) (FitsAfter e j) u.tracks (stays e id v at free j differs) fit.tracks;
              apart = fit.apart;
              told = fit.told;
            });
      }

  pub earlier : (id : ℕ) (v : View) → get_elem? views id ≡ some v → AreEarlier (terms.first + length log) v.tracks
  earlier id v at = each_so (Fits id) (λ t. Each (λ d. d.ticket < terms.first + length log) t.done) v.tracks
      (λ t fit. subst (λ done. Each (λ d. d.ticket < terms.first + length log) done) (sym fit.is)
      (earlier_part t.name terms.first (terms.first + length log) log rule.numbered (omega arith)))
      (rule.fits id v at).tracks

  -- what a pass is told is no later than the first ticket
  pub from_first : (id : ℕ) (v : View) → get_elem? views id ≡ some v → v.terms.first ≤ terms.first + length log
  from_first id v at = elim (rule.fits id v at).told [
    | inl is ↦ omega (arith, ap (λ (t : Terms). t.first) is)
    | inr is ↦ omega (arith, ap (λ (t : Terms). t.first) is)
  ]

  -- a step with no deed: some names have another owner
  module _ (owner : Name → ℕ) where
    goes_on : (new : List View) → ((j : ℕ) (v : View) → get_elem? new j ≡ some v → IsViewOf terms owner log j v)
        → IsLogOf terms log new
    goes_on new fits = record {
      owner = owner;
      first_fits = rule.first_fits;
      seats_fit = rule.seats_fit;
      numbered = rule.numbered;
      inside = rule.inside;
      few = rule.few;
      fits = fits;
    }

    moves : (i j : ℕ) (ts : List Track) → ((t : Track) → Fits i t → owner t.name ≡ j) → Each (Fits i) ts
        → Each (IsTrackOf terms owner log j) ts
    moves i j ts so each = each_so (Fits i) (IsTrackOf terms owner log j) ts
        (λ t fit. record { owned = so t fit; named = fit.named; is = fit.is }) each

    keeps : (j : ℕ) (v : View) → get_elem? views j ≡ some v → ((t : Track) → Fits j t → owner t.name ≡ j)
        → IsViewOf terms owner log j v
    keeps j v at so =
        let fit = rule.fits j v at in
        record { tracks = moves j j v.tracks so fit.tracks; apart = fit.apart; told = fit.told }

  split_none : (id : ℕ) (told : Terms) → get_elem? views id ≡ some (record { terms = told; tracks = [] })
      → IsLogOf terms log (set views id (record { terms = told; tracks = [] }) ++ record { terms = told; tracks = [] } ∷ [])
  split_none id told at =
      let none : View = record { terms = told; tracks = [] } in
      let mine = rule.fits id none at in
      goes_on rule.owner (set views id none ++ none ∷ [])
      (push_all (IsViewOf terms rule.owner log) (set views id none) none (record { tracks = tt; apart = tt; told = mine.told })
      (set_all (IsViewOf terms rule.owner log) views id none mine (λ j u differs found. rule.fits j u found)))

  -- tracks of other names than one whose owner changes
  others : (owner : Name → ℕ) (name : Name) → ((u : Track) → u.name ≢ name → owner u.name ≡ rule.owner u.name) → (j : ℕ) (us : List Track)
      → Each (Fits j) us → Each (λ u. u.name ≢ name) us → Each (IsTrackOf terms owner log j) us
  others owner name else j [] each apart = tt
  others owner name else j (u ∷ us) each apart = (
    record { owned = else u apart.0 ∙ each.0.owned; named = each.0.named; is = each.0.is },
    others owner name else j us each.1 apart.1,
  )

  split_one : (id : ℕ) (told : Terms) (t : Track) (ts : List Track) → get_elem? views id ≡ some (record { terms = told; tracks = t ∷ ts })
      → IsLogOf terms log (set views id (record { terms = told; tracks = ts }) ++ record { terms = told; tracks = t ∷ [] } ∷ [])
  split_one id told t ts at =
      let left : View = record { terms = told; tracks = ts } in
      let right : View = record { terms = told; tracks = t ∷ [] } in
      let mid : List View = set views id left in
      let mine = rule.fits id (record { terms = told; tracks = t ∷ ts }) at in
      let home : ℕ = length mid in
      let owner : Name → ℕ = λ name. cond {A = ℕ} (is_same name t.name) home (rule.owner name) in
      let else : (u : Track) → u.name ≢ t.name → owner u.name ≡ rule.owner u.name =
      λ u differs. if_not (is_same u.name t.name) home (rule.owner u.name) (λ is. differs (same_name u.name t.name is)) in
      let gone : IsTrackOf terms owner log home t = record {
        owned = ap (λ b. cond {A = ℕ} b home (rule.owner t.name)) (same_self t.name);
        named = mine.tracks.0.named;
        is = mine.tracks.0.is;
      } in
      goes_on owner (mid ++ right ∷ [])
      (push_all (IsViewOf terms owner log) mid right (record { tracks = (gone, tt); apart = (tt, tt); told = mine.told })
      (set_all (IsViewOf terms owner log) views id left
      (record { tracks = others owner t.name else id ts mine.tracks.1 mine.apart.0; apart = mine.apart.1; told = mine.told })
      (λ j u differs found. keeps owner j u found
      (λ w fit. else w (λ same. differs (sym fit.owned ∙ ap rule.owner same ∙ mine.tracks.0.owned)) ∙ fit.owned))))

  split_by : (id : ℕ) (told : Terms) (ts : List Track) → get_elem? views id ≡ some (record { terms = told; tracks = ts })
      → IsLogOf terms log (set views id (record { terms = told; tracks = behind ts }) ++ record { terms = told; tracks = front ts } ∷ [])
  split_by id told [] at = split_none id told at
  split_by id told (t ∷ ts) at = split_one id told t ts at

  pub split_keeps : (id : ℕ) (v : View) → get_elem? views id ≡ some v
      → IsLogOf terms log (set views id (after_split v) ++ first_track v ∷ [])
  split_keeps id v at = split_by id v.terms v.tracks at

  -- tracks of two passes have other names
  across : (id other : ℕ) → other ≢ id → (vs ws : List Track) → Each (Fits id) vs → Each (Fits other) ws
      → Each (λ x. Each (λ y. y.name ≢ x.name) vs) ws
  across id other differs vs ws mine theirs = each_so (Fits other) (λ x. Each (λ y. y.name ≢ x.name) vs) ws
      (λ x fit. each_so (Fits id) (λ y. y.name ≢ x.name) vs
      (λ y fits same. differs (sym fit.owned ∙ ap rule.owner (sym same) ∙ fits.owned)) mine) theirs

  pub join_keeps : (id : ℕ) (v : View) (other : ℕ) (w : View) → get_elem? views id ≡ some v
      → get_elem? (set views id (after_join v w)) other ≡ some w → other ≢ id
      → IsLogOf terms log (set (set views id (after_join v w)) other spent)
  join_keeps id v other w at at_mid differs =
      let both : View = after_join v w in
      let mine = rule.fits id v at in
      let theirs = rule.fits other w (sym (set_else views id other both differs) ∙ at_mid) in
      let owner : Name → ℕ = λ name. cond {A = ℕ} (rule.owner name == other) id (rule.owner name) in
      let stays : (j : ℕ) → j ≢ other → (t : Track) → Fits j t → owner t.name ≡ j =
      λ j ne t fit. if_not (rule.owner t.name == other) id (rule.owner t.name)
      (λ is. ne (sym fit.owned ∙ equals (rule.owner t.name) other is)) ∙ fit.owned in
      let comes : (t : Track) → Fits other t → owner t.name ≡ id =
      λ t fit. ap (λ n. cond {A = ℕ} (n == other) id (rule.owner t.name)) fit.owned
      ∙ ap (λ b. cond {A = ℕ} b id (rule.owner t.name)) (itself other) in
      let joined : IsViewOf terms owner log id both = record {
        tracks = each_append (IsTrackOf terms owner log id) w.tracks v.tracks
            (moves owner other id w.tracks comes theirs.tracks)
            (moves owner id id v.tracks (stays id (λ is. differs (sym is))) mine.tracks);
        apart = apart_append w.tracks v.tracks theirs.apart mine.apart
            (across id other differs v.tracks w.tracks mine.tracks theirs.tracks);
        told = mine.told;
      } in
      goes_on owner (set (set views id both) other spent)
      (set_all (IsViewOf terms owner log) (set views id both) other spent (record { tracks = tt; apart = tt; told = inr refl })
      (λ j u apart found. set_all (λ i x. i ≢ other → IsViewOf terms owner log i x) views id both (λ _. joined)
      (λ i x _ there ne. keeps owner i x there (stays i ne)) j u found apart))

-- a deed joins the log, with the next ticket, and what the pass is told of that
pub appended : (terms : Terms) (log : List Done) (views : List View) → IsLogOf terms log views
    → (id : ℕ) (v : View) (d : Deed) → get_elem? views id ≡ some v → IsAppended d v (after_draw v d (terms.first + length log))
appended terms log views rule id v d at = record {
  ticket = terms.first + length log;
  is = refl;
  above = earlier terms log views rule id v at;
  first = from_first terms log views rule id v at;
}

-- what holds of the log, and of the pass that is handed back
pub closes : (terms : Terms) (log : List Done) (views : List View) → IsLogOf terms log views
    → (next : ℕ) → next ≡ terms.first + length log → (id : ℕ) (v : View) → get_elem? views id ≡ some v → IsClosed terms next v.tracks
closes terms log views rule next last id v at =
    let fit = rule.fits id v at in
    record {
      log = log;
      last = last;
      numbered = rule.numbered;
      inside = rule.inside;
      parts = each_so (IsTrackOf terms rule.owner log id) (λ t. t.done ≡ part_of t.name log) v.tracks (λ t is. is.is) fit.tracks;
      named = each_so (IsTrackOf terms rule.owner log id) (λ t. IsNameOf terms t.name) v.tracks (λ t is. is.named) fit.tracks;
      apart = fit.apart;
    }
