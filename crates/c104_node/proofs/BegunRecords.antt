-- Nodes with their records begin a run where they are quiet.
use Rattle.{c104_link.specs.Buffers.Outgoing, c104_node.{proofs.BufferSizes.run_keeps, specs.{Nodes.{Node, is_switch}, Quiet.IsQuietInput}}}
use Rattle.c104_node.specs.{Quiet.{IsQuietNode, IsQuietOutput, node_begin}, Records.IsNodeRun, Starts.{start_node, start_of}}
use Rattle.{c104_node.specs.{Terminals.Terminal, declared.{acts.Entry.Entry, node.NodeOf.NodeOf}}, c104_switch.specs.Starts.link_starts}
use Rattle.{c104_switch.specs.{Starts.{start_input, start_output}, Switch.{Input, Switch}}, c104_token.specs.declared.tokens.Token.Token}
use Rattle.std.proofs.{Common.{All, List, [], ap, arith, length, map, refl, sym, ℕ, ◌∙◌, ◌∷◌, ◌≡◌}, lemmas.List.Elements.All-head}
use Rattle.std.proofs.lemmas.List.Elements.{All-tail}

module _ {A : Type 0} where
  inputs_back : (ps : List (Input A)) (qs : List (Outgoing A)) → length ps ≡ length qs → All IsQuietInput ps → map start_input (link_starts ps qs) ≡ ps
  inputs_back [] qs same quiet = refl
  inputs_back (p ∷ ps) [] same quiet = absurd (let no : ⊥ = omega (arith, same) in no)
  inputs_back (p ∷ ps) (q ∷ qs) same quiet =
      let here : IsQuietInput p = All-head IsQuietInput p ps quiet in
      let empty : p.buffer.items ≡ [] = here.0 in
      let fresh = here.1 in
      let one : start_input (record { cap = p.buffer.cap; granted = p.buffer.granted; credit = q.credit; sunk = p.sunk; short = p.short }) ≡ p = rw (← empty, ← fresh) refl in
      ap (λ x. x ∷ map start_input (link_starts ps qs)) one ∙ ap (λ xs. p ∷ xs) (inputs_back ps qs (omega (arith, same)) (All-tail IsQuietInput p ps quiet))

  outputs_back : (ps : List (Input A)) (qs : List (Outgoing A)) → length ps ≡ length qs → All IsQuietOutput qs → map start_output (link_starts ps qs) ≡ qs
  outputs_back [] [] same quiet = refl
  outputs_back [] (q ∷ qs) same quiet = absurd (let no : ⊥ = omega (arith, same) in no)
  outputs_back (p ∷ ps) [] same quiet = refl
  outputs_back (p ∷ ps) (q ∷ qs) same quiet =
      let empty : q.items ≡ [] = All-head IsQuietOutput q qs quiet in
      let one : ◌≡◌ {A = Outgoing A} (record { items = []; credit = q.credit }) q = ap (λ xs. record { items = xs; credit = q.credit }) (sym empty) in
      ap (λ x. x ∷ map start_output (link_starts ps qs)) one ∙ ap (λ xs. q ∷ xs) (outputs_back ps qs (omega (arith, same)) (All-tail IsQuietOutput q qs quiet))

-- where no token stands, a node at the start that it is at stands as it begins a run
pub switch_stands : {A : Type 0} (s : Switch A) → length s.inputs ≡ length s.outputs → IsQuietNode (NodeOf.Switch s) → start_node (start_of (NodeOf.Switch s)) ≡ node_begin (NodeOf.Switch s)
switch_stands {A} s same quiet = search (arith, inputs_back, outputs_back)

pub terminal_stands : {A : Type 0} (t : Terminal A) → IsQuietNode (NodeOf.Terminal t) → start_node (start_of (NodeOf.Terminal t)) ≡ node_begin (NodeOf.Terminal t)
terminal_stands t quiet = grind arith

-- a run leaves a node of the same kind
pub run_kind : (wired : ℕ) (from to : Node Token) (entries : List Entry) → IsNodeRun wired from entries to → is_switch to ≡ is_switch from
run_kind wired from to entries run = (run_keeps 0 wired from to entries run).0
