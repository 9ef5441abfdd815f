-- The two entries of what crosses a wire: each tells the other.
use Rattle.c104_audit.specs.Audits.{AgreeOneByOne, AreHalves, carried_in, carried_out, carries, is_number, is_of_kind}
use Rattle.{c104_audit.specs.declared.carried.Carried.Carried, c104_net.proofs.Members.IsIn, c104_node.specs.ActLinks.{act_link, port_link}}
use Rattle.c104_node.specs.{PortActs.{IsAnswerOf, far_act, near_act, port_credit_in, port_enter}, declared.acts.{ActOf.ActOf, Entry.Entry}}
use Rattle.{c104_node.specs.declared.crossings.Crossing.Crossing, c104_plan.{proofs.PortLemmas.is_port-true, specs.Ports.is_port}}
use Rattle.{c104_plan.specs.{Ports.other_end, declared.ports.{Port.Port, Wire.Wire}}, c104_switch.specs.Actions.Reply}
use Rattle.{c104_token.specs.declared.tokens.Token.Token, std.proofs.Common.{Bool, List, None, Option, Some, [], ap, arith, false}}
use Rattle.std.proofs.Common.{if◌then◌else◌, inl, inr, map, nat_eq, refl, slice_get, suc, sym, true, ℕ, ◌&&◌, ◌∙◌, ◌∷◌, ◌≡◌, ◌⊎◌}
use Rattle.std.proofs.lemmas.Bool.Decides.{nat_tests}

-- whether a port is a switch's
abbrev pub of_switch : Port → Bool
of_switch (Port.Switch s l) = true
of_switch (Port.Terminal t) = false

-- an act is one at a port
pub record IsAtPort (p : Port) (a : ActOf Token) : Type 0 where
  pub kind : is_of_kind (of_switch p) a ≡ true
  pub link : act_link a ≡ Some (port_link p)

pub both_true : (a b : Bool) → (a && b) ≡ true → (a ≡ true) × (b ≡ true)
both_true a b is = search arith

pub link_is : (l : ℕ) (o : Option ℕ) → is_number l o ≡ true → o ≡ Some l
link_is l o is = search (arith, nat_tests)

-- what goes out at a port, and what comes in there
pub out_is : (p : Port) (a : ActOf Token) (r : Reply) (c : Carried) → IsAtPort p a → carried_out a r ≡ Some c → (crossing : Crossing) × (a ≡ near_act crossing p)
out_is p a r c at is = search arith

enter_is : (q : Port) (a : ActOf Token) (v : Token) → IsAtPort q a → carried_in a ≡ Some (Carried.Token v) → a ≡ port_enter v q
enter_is q a v at is = search arith

credit_is : (q : Port) (a : ActOf Token) → IsAtPort q a → carried_in a ≡ Some Carried.Grant → a ≡ port_credit_in q
credit_is q a at is = search arith

-- what comes in at a port is the far act of what went out
pub in_is : (crossing : Crossing) (p q : Port) (a : ActOf Token) (r : Reply) (c : Carried) → IsAnswerOf crossing r → carried_out (near_act crossing p) r ≡ Some c → IsAtPort q a → carried_in a ≡ Some c → a ≡ far_act q r
in_is crossing p q a r c answer out at is = search (arith, enter_is, credit_is)

-- what goes out takes nothing in, and the other way round
pub near_takes : (crossing : Crossing) (p : Port) (c : Carried) → carried_in (near_act crossing p) ≡ Some c → ⊥
near_takes crossing p c is = search arith

pub near_at : (crossing : Crossing) (p : Port) → IsAtPort p (near_act crossing p)
near_at crossing p = search arith

pub entry_is : (x y : Entry) → x.ticket ≡ y.ticket → x.act ≡ y.act → x.reply ≡ y.reply → x.seat ≡ y.seat → x ≡ y
entry_is x y tickets acts replies seats = search arith

-- seats that are the same as far as each number are the same
pub seats_same : (o o' : Option ℕ) → ((s : ℕ) → is_number s o ≡ is_number s o') → o ≡ o'
seats_same None None same = refl
seats_same None (Some t) same = absurd (let is : false ≡ nat_eq t t = same t in let no : nat_eq t t ≡ true = grind (arith, nat_tests) in cc)
seats_same (Some t) None same = absurd (let is : nat_eq t t ≡ false = same t in let no : nat_eq t t ≡ true = grind (arith, nat_tests) in cc)
seats_same (Some t) (Some u) same = let is : nat_eq t t ≡ nat_eq t u = same t in let itself : nat_eq t t ≡ true = grind (arith, nat_tests) in let equal : nat_eq t u ≡ true = sym is ∙ itself in let one : t ≡ u = grind (arith, nat_tests) in ap Some one

-- of lists that agree each has the partner of each entry of the other, at the same seat
pub partner : (ones others : List Entry) → AgreeOneByOne ones others → ((s : ℕ) → map (carries s) ones ≡ map (carries s) others) → (a : Entry) → IsIn a ones → (b : Entry) × IsIn b others × AreHalves a b × (a.seat ≡ b.seat)
partner [] others agree seats a has = absurd has
partner (c ∷ ones) [] agree seats a has = absurd agree
partner (c ∷ ones) (d ∷ others) agree seats a (inl same) = search (arith, seats_same)
partner (c ∷ ones) (d ∷ others) agree seats a (inr has) =
    let rest = partner ones others agree.1 (λ s. let both = seats s in cc) a has in
    (rest.0, inr rest.1, rest.2, rest.3)

pub partner_back : (ones others : List Entry) → AgreeOneByOne ones others → ((s : ℕ) → map (carries s) ones ≡ map (carries s) others) → (b : Entry) → IsIn b others → (a : Entry) × IsIn a ones × AreHalves a b × (a.seat ≡ b.seat)
partner_back [] [] agree seats b has = absurd has
partner_back [] (d ∷ others) agree seats b has = absurd agree
partner_back (c ∷ ones) [] agree seats b has = absurd has
partner_back (c ∷ ones) (d ∷ others) agree seats b (inl same) = search (arith, seats_same)
partner_back (c ∷ ones) (d ∷ others) agree seats b (inr has) =
    let rest = partner_back ones others agree.1 (λ s. let both = seats s in cc) b has in
    (rest.0, inr rest.1, rest.2, rest.3)

-- a port that is wired to another is at an end of a wire, and the other at its other end
abbrev pub IsWireOf : List Wire → Port → Port → Type 0
IsWireOf ws p q = (i : ℕ) × (w : Wire) × (slice_get ws i ≡ Some w) × (((w.here ≡ p) × (w.there ≡ q)) ⊎ ((w.there ≡ p) × (w.here ≡ q)))

pub wire_of : (ws : List Wire) (p q : Port) → other_end ws p ≡ Some q → IsWireOf ws p q
wire_of [] p q is = absurd (cc)
wire_of (w ∷ ws) p q is = by_here (wire_of ws p q) (is_port w.here p) refl (is_port w.there p) refl is
  where
    by_here : (other_end ws p ≡ Some q → IsWireOf ws p q) → (b : Bool) → is_port w.here p ≡ b → (c : Bool) → is_port w.there p ≡ c → (if b then Some w.there else (if c then Some w.here else other_end ws p)) ≡ Some q → IsWireOf (w ∷ ws) p q
    by_here rest true here c there is = let same : w.there ≡ q = cc in (0, w, refl, inl (is_port-true w.here p here, same))
    by_here rest false here true there is = let same : w.here ≡ q = cc in (0, w, refl, inr (is_port-true w.there p there, same))
    by_here rest false here false there is = let found = rest is in (suc found.0, found.1, found.2, found.3)
