-- Groups of links: a group is the largest run of consecutive links in which each link after the first
-- continues the group of the link before it. Any link of it stands for the whole group. Which links
-- continue is a test of the link's number, so this serves whatever says it.
--     IsGroup continues g first last      the group of g, as a relation
--     group_contains continues g o      whether o is in it, as a computation; `Group::of` ties the two
use Rattle.c104_crossbar.specs.declared.TheConstants.{LINKS}
use Rattle.std.specs.{Int.bit_at, Prelude.{Bool, false, if◌then◌else◌, nat_le, suc, true, zero, ℕ, ◌&&◌, ◌+◌, ◌-◌, ◌<◌, ◌==◌, ◌≡◌, ◌≤◌}}

-- the n links after this one all continue the group
abbrev pub is_joined_run : (ℕ → Bool) → ℕ → ℕ → Bool
is_joined_run continues low zero = true
is_joined_run continues low (suc n) = continues (low + suc n) && is_joined_run continues low n

-- link o is in the group of link g: each link after the lower of the two, up to the higher, continues
abbrev pub group_contains : (ℕ → Bool) → ℕ → ℕ → Bool
group_contains continues g o =
    if nat_le g o then is_joined_run continues g (o - g) else is_joined_run continues o (g - o)

-- bit l of a word is set
abbrev pub has_bit : ℕ → ℕ → Bool
has_bit word l = bit_at word l == 1

-- the links from first to last are the group of link g: g is one of them, they are links of the switch,
-- each after the first continues, and the run can't be longer at either side
pub record IsGroup (continues : ℕ → Bool) (g first last : ℕ) : Type 0 where
  pub from_first : first ≤ g
  pub to_last : g ≤ last
  pub below : last < LINKS
  pub is_joined : (o : ℕ) → first < o → o ≤ last → continues o ≡ true
  pub not_before : 0 < first → continues first ≡ false
  pub not_after : last + 1 < LINKS → continues (last + 1) ≡ false

-- the links from first to last, and no others, are in the group of link g
abbrev pub AreMembers : (ℕ → Bool) → ℕ → ℕ → ℕ → Type 0
AreMembers continues g first last =
    (o : ℕ) → group_contains continues g o ≡ (nat_le first o && nat_le o last)

-- no other run of links is the group of link g
abbrev pub IsOnlyGroup : (ℕ → Bool) → ℕ → ℕ → ℕ → Type 0
IsOnlyGroup continues g first last = (f l : ℕ) → IsGroup continues g f l → (f ≡ first) × (l ≡ last)

-- the group of link g is the same whatever is said of link 0
abbrev pub IgnoresLinkZero : (ℕ → Bool) → ℕ → ℕ → ℕ → Type 0
IgnoresLinkZero continues g first last =
    (others : ℕ → Bool) → ((l : ℕ) → 0 < l → others l ≡ continues l) → IsGroup others g first last
