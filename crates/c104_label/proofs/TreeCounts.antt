-- Labels that are counted one after another.
use Rattle.c104_label.specs.{Forests.ends_of, TreeLabels.{Net, count_at, labels_behind, labels_on, net_of, own_labels}}
use Rattle.{c104_plan.specs.{Plans.Plan, Wiring.IsWiring, declared.ports.Port.Port}, std.proofs.Common.{List, Option, [], arith, length}}
use Rattle.std.proofs.{Common.{map, refl, suc, zero, ℕ, ◌+◌, ◌∷◌, ◌≡◌, ◌≤◌}, Math.Path.fun_ext, lemmas.Bool.cases_lt}
use Rattle.std.{proofs.lemmas.List.{FromFn.{get_or-map-range_with_len, length-map-range_with_len}, get_or_past}, specs.List.range_with_len}

-- the links of a switch before one, and that one
labels_more : (net : Net) (s a n l : ℕ) → a + n ≡ l → labels_on net s (range_with_len a (suc n)) ≡ labels_on net s (range_with_len a n) + labels_behind net.counts (net.ends s l)
labels_more net s a zero l is = search arith
labels_more net s a (suc n) l is = search (arith, labels_more net s (a + 1) n l (omega (arith, is)))

pub labels_next : (net : Net) (s l : ℕ) → labels_on net s (range_with_len 0 (l + 1)) ≡ labels_on net s (range_with_len 0 l) + labels_behind net.counts (net.ends s l)
labels_next net s l = search (arith, labels_more)

-- past the last switch there is none
no_end : (plan : Plan) → IsWiring plan → (s l : ℕ) (o : Option Port) → length plan.switches ≤ s → ends_of plan s l ≡ o → labels_behind (net_of plan).counts o ≡ 0
no_end plan wiring s l o past is = search arith

none_on : (plan : Plan) → IsWiring plan → (s : ℕ) (ls : List ℕ) → length plan.switches ≤ s → labels_on (net_of plan) s ls ≡ 0
none_on plan wiring s [] past = refl
none_on plan wiring s (l ∷ ls) past = search (arith, no_end, none_on plan wiring s ls past)

-- so counts by number are all switches' own labels
pub counts_are : (plan : Plan) (counts : List ℕ) (n : ℕ) → IsWiring plan → n ≡ length plan.switches → counts ≡ map (own_labels (net_of plan)) (range_with_len 0 n) → count_at counts ≡ own_labels (net_of plan)
unfolding count_at own_labels
counts_are plan counts n wiring many is =
    search (arith, fun_ext, cases_lt, get_or-map-range_with_len, length-map-range_with_len, get_or_past, none_on)
