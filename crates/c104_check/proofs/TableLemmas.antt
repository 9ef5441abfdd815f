-- What the tables of a network's routes hold.
use Rattle.c104_check.proofs.{LinkLemmas.place_below, RangeLemmas.{is_large, large_is, owns_has}, RouteLemmas.is_input, RunLemmas.between}
use Rattle.c104_check.{proofs.RunLemmas.run_is, specs.Checks.{DeletesInside, HasLarge, IsMixed, IsRandomInside, Meet}}
use Rattle.c104_check.specs.Routes.{IsRandomized, Routes, SwitchPort, has_label, header_count, is_in_group, length_at, length_or_one}
use Rattle.c104_check.specs.Routes.{link_peers, link_settings, or_no_settings, place, port_at, select, settings_at, settings_in, to_port}
use Rattle.c104_check.specs.{Trails.{AreWays, IsInput, IsNetwork}, Walks.{Goal, peers_that, ways_of}}
use Rattle.{c104_crossbar.specs.Groups.{AreMembers, has_bit}, c104_interval.specs.declared.intervals.Select.TheVariants.Link}
use Rattle.{c104_plan.specs.declared.ports.Port.Port, c104_regs.proofs.ContinueLemmas.{bit-continues_at, bit_at-continue_bits}}
use Rattle.{c104_regs.specs.{Groups.continue_bits, Settings.header_length, declared.settings.Settings.Settings}, std.proofs.Common.Bool}
use Rattle.std.proofs.Common.{IsTrue, List, None, Option, Some, [], ap, arith, false, length, map, nat_lt, option_map, refl, slice_get}
use Rattle.std.proofs.Common.{slice_index_or, sym, take, true, ℕ, ◌&&◌, ◌*◌, ◌++◌, ◌+◌, ◌<◌, ◌↔◌, ◌∙◌, ◌∷◌, ◌≡◌, ◌≤◌}
use Rattle.std.proofs.lemmas.List.{FromFn.{get_or-map-range_with_len, length-map-range_with_len}, length-map, take_more}
use Rattle.std.proofs.lemmas.Option.{get_or_from_slice_get, same_Some, slice_get-get_or, slice_get-map, slice_get_read, slice_get_within}

pub peers_length : (far : Port → Option Port) (n : ℕ) → length (link_peers far n) ≡ n * 32
peers_length far n = length-map-range_with_len (λ k. far (to_port (port_at k))) 0 (n * 32)

-- what is read at a link's place
pub peer_read : (far : Port → Option Port) (n k : ℕ) (items : List (Option Port)) (p : SwitchPort) (r : Option Port) → items ≡ link_peers far n → IsInput n p → k ≡ place p → r ≡ slice_index_or items k r → r ≡ far (to_port p)
peer_read far n k items p r are here at is = search (arith, place_below, slice_index_or, get_or-map-range_with_len)

-- settings that are read where there are none
abbrev pub no_settings : Settings
no_settings = record {
  two_byte = false;
  delete_header = false;
  randomize = false;
  continue_group = false;
  random_base = 0;
  random_range = 0;
  table = record { base = 0; rows = [] };
}

pub settings_read : (all : List (List Settings)) (p : SwitchPort) (inner : List Settings) → p.switch < length all → inner ≡ slice_index_or all p.switch inner → p.link < length inner → link_settings all p ≡ Some (slice_index_or inner p.link no_settings)
settings_read all p inner below is inside = search (arith, slice_get_read, slice_get-get_or)

pub length_read : (all : List (List Settings)) (o : Option ℕ) (k n : ℕ) (p : SwitchPort) (x : Settings) → o ≡ Some k → p ≡ port_at k → link_settings all p ≡ Some x → n ≡ header_length x → n ≡ length_at all o
length_read all o k n p x found at there is = is ∙ sym (ap length_or_one there) ∙ ap (λ q. length_or_one (link_settings all q)) at ∙ ap (length_at all) (sym found)

pub settings_links : (routes : Routes) (s : ℕ) (inner : List Settings) → IsNetwork routes → s < length routes.settings → inner ≡ slice_index_or routes.settings s inner → length inner ≡ 32
settings_links routes s inner net below is = (net.settings s inner (slice_get_read routes.settings (length routes.settings) s inner refl below is)).0

-- the word of a switch
word_given : (w : ℕ) (o : Option (List Settings)) → option_map continue_bits o ≡ Some w → w ≡ continue_bits (or_no_settings o)
word_given w o is = search arith

pub word_read : (all : List (List Settings)) (words : List ℕ) (s w : ℕ) → words ≡ map continue_bits all → s < length all → w ≡ slice_index_or words s w → w ≡ continue_bits (settings_in all s)
word_read all words s w are below is = search (arith, length-map, slice_get_read, word_given, slice_get-map)

-- the links of a group, by the word
pub group_members : (routes : Routes) (s g word first last : ℕ) → word ≡ continue_bits (settings_at routes s) → AreMembers (has_bit word) g first last → (o : ℕ) → is_in_group routes s g o ≡ between first last o
group_members routes s g word first last is members o = search (arith, bit-continues_at, bit_at-continue_bits)

pub ways_link : (routes : Routes) (h : ℕ) (t : Goal) (g first last : ℕ) (p : SwitchPort) → select routes p.switch p.link h ≡ Some (Link g) → ((o : ℕ) → is_in_group routes p.switch g o ≡ between first last o) → first ≤ last → last < 32 → AreWays routes h t p first (last + 1)
ways_link routes h t g first last p at members order below =
    let same : is_in_group routes p.switch g ≡ between first last = λ i o. members o i in
    record {
      below = omega (arith, below);
      are = ap (ways_of routes t p.switch) at ∙ ap (λ test. Some (peers_that routes p.switch test 0 32)) same ∙ ap Some (run_is routes p.switch first last below order);
    }

-- Labels, over what is read of the ranges

there : (routes : Routes) (xs : List (ℕ × ℕ)) (t : ℕ) (d : ℕ × ℕ) → xs ≡ routes.ranges → t < length routes.ranges → slice_get routes.ranges t ≡ Some (slice_index_or xs t d)
there routes xs t d are below = slice_get-get_or routes.ranges t d below ∙ ap (λ ys. Some (slice_index_or ys t d)) (sym are)

pub meet_of : (routes : Routes) (xs ys : List (ℕ × ℕ)) (t u : ℕ) (d : ℕ × ℕ) (b : Bool) → xs ≡ routes.ranges → ys ≡ routes.ranges → t < length routes.ranges → u < length routes.ranges → IsTrue b ↔ ((h : ℕ) × (has_label (slice_index_or xs t d) h ≡ true) × (has_label (slice_index_or ys u d) h ≡ true)) → IsTrue b ↔ Meet routes t u
meet_of routes xs ys t u d b are too at other is = (
  (λ holds. let found = is.0 holds in (found.0, (slice_index_or xs t d, there routes xs t d are at, found.1), (slice_index_or ys u d, there routes ys u d too other, found.2))),
  (λ meet. is.1 (meet.0, owns_has routes t meet.0 (slice_index_or xs t d) (there routes xs t d are at) meet.1, owns_has routes u meet.0 (slice_index_or ys u d) (there routes ys u d too other) meet.2)),
)

pub large_of : (routes : Routes) (xs : List (ℕ × ℕ)) (t count : ℕ) (d : ℕ × ℕ) (b : Bool) → xs ≡ routes.ranges → t < length routes.ranges → count ≡ header_count routes → b ≡ (nat_lt 0 (slice_index_or xs t d).1 && nat_lt count ((slice_index_or xs t d).0 + (slice_index_or xs t d).1)) → IsTrue b ↔ HasLarge routes t
large_of routes xs t count d b are at many is = (
  (λ holds. let found = large_is (slice_index_or xs t d) count (sym is ∙ holds) in let past = found.2 in (found.0, (slice_index_or xs t d, there routes xs t d are at, found.1), omega (arith, past, many))),
  (λ large. let past = large.2 in is ∙ is_large (slice_index_or xs t d) count large.0 (owns_has routes t large.0 (slice_index_or xs t d) (there routes xs t d are at) large.1) (omega (arith, past, many))),
)

-- Links

-- what an index gives stands there, whatever is read past the end
pub settings_at_index : (inner : List Settings) (l : ℕ) (x : Settings) → l < length inner → x ≡ slice_index_or inner l x → slice_index_or inner l no_settings ≡ x
settings_at_index inner l x inside is = same_Some (slice_index_or inner l no_settings) x (sym (slice_get-get_or inner l no_settings inside) ∙ slice_get_read inner (length inner) l x refl inside is)

pub deletes_is : (routes : Routes) (p q : SwitchPort) (x : Settings) → routes.peer (to_port p) ≡ Some (to_port q) → link_settings routes.settings p ≡ Some x → IsTrue x.delete_header ↔ DeletesInside routes p
deletes_is routes p q x wired set = search (arith, same_Some)

pub mixed_input : (routes : Routes) → IsNetwork routes → (p : SwitchPort) → IsMixed routes p → IsInput (length routes.settings) p
mixed_input routes net p (other, x, wired, set, differ) = is_input routes p x net set

pub deleting_input : (routes : Routes) → IsNetwork routes → (p : SwitchPort) → DeletesInside routes p → IsInput (length routes.settings) p
deleting_input routes net p (q, x, wired, set, deletes) = is_input routes p x net set

pub random_input : (routes : Routes) → IsNetwork routes → (p : SwitchPort) → IsRandomInside routes p → IsInput (length routes.settings) p
random_input routes net p ((x, set, random), inside) = is_input routes p x net set

pub randomized_input : (routes : Routes) → IsNetwork routes → (p : SwitchPort) → IsRandomized routes p → IsInput (length routes.settings) p
randomized_input routes net p (x, set, random) = is_input routes p x net set

-- Lists that are made

pub taken_next : (xs made new : List (ℕ × ℕ)) (k : ℕ) (x : ℕ × ℕ) → slice_get xs k ≡ Some x → made ≡ take k xs → new ≡ made ++ x ∷ [] → new ≡ take (k + 1) xs
taken_next xs made new k x at are is =
    let inside = slice_get_within xs k x at in
    is ∙ ap (λ ys. ys ++ x ∷ []) are ∙ ap (λ y. take k xs ++ y ∷ []) (sym (get_or_from_slice_get xs k x x at)) ∙ sym (take_more xs k x inside)

pub none_inside : (xs : List (ℕ × ℕ)) (k : ℕ) → k < length xs → slice_get xs k ≡ None → ⊥
none_inside xs k inside none = let there = slice_get-get_or xs k (0, 0) inside in let clash : None ≡ Some (slice_index_or xs k (0, 0)) = sym none ∙ there in cc
