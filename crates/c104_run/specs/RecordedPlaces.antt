-- The two places of nodes with their records: a node of plain tokens that keeps its entries, and one of tagged tokens
-- that counts them.
use Rattle.{c104_link.specs.Buffers.Outgoing, c104_node.specs.MappedNodes.{map_input, map_node, map_outgoing, map_switch, map_terminal}}
use Rattle.c104_node.specs.{Nodes.Node, Records.{NodeRecord, NodeRoom, node_shown, node_start, node_state}, Tagged.{tagged_by, tagged_kind}}
use Rattle.c104_node.specs.{Terminals.Terminal, TracedRecords.{TracedRecord, counted_shown, plain_node, traced_start}}
use Rattle.{c104_node.specs.declared.{node.NodeOf.NodeOf, tagged.TaggedToken.TaggedToken}, c104_run.specs.RecordedNets.KeepsRecord}
use Rattle.{c104_run.specs.RecordedNets.{Reading, reading}, c104_switch.specs.{Phases.with_header, Switch.{Input, Switch}}}
use Rattle.c104_switch.specs.declared.phase.Phase.{Phase, TheVariants.{Fresh, Head, Sinking, Stream, Want}}
use Rattle.c104_token.specs.{Kinds.plain_kind, Tokens.is_end, declared.tokens.Token.Token}
use Rattle.std.{proofs.Common.{ap, sym, ◌∙◌}, specs.Prelude.{Bool, List, [], false, map, refl, true, ℕ, ◌∷◌, ◌≡◌}}

-- mapping each token to itself changes no node
map_self : (xs : List Token) → map (λ (x : Token). x) xs ≡ xs
map_self [] = refl
map_self (x ∷ xs) = ap (λ ys. x ∷ ys) (map_self xs)

header_self : (p : Phase (List Token)) → with_header (map (λ (x : Token). x)) p ≡ p
header_self Fresh = refl
header_self (Head b) = ap Head (map_self b)
header_self (Want b g) = ap (λ (h : List Token). Want h g) (map_self b)
header_self (Stream o) = refl
header_self Sinking = refl

input_self : (p : Input Token) → map_input (λ (x : Token). x) p ≡ p
input_self p =
    ap (λ (xs : List Token). record (map_input (λ (x : Token). x) p) { buffer = record p.buffer { items = xs } })
    (map_self p.buffer.items)
    ∙ ap (λ (ph : Phase (List Token)). record p { phase = ph }) (header_self p.phase)

inputs_self : (ps : List (Input Token)) → map (map_input (λ (x : Token). x)) ps ≡ ps
inputs_self [] = refl
inputs_self (p ∷ ps) = ap (λ q. q ∷ map (map_input (λ (x : Token). x)) ps) (input_self p) ∙ ap (λ qs. p ∷ qs) (inputs_self ps)

outputs_self : (qs : List (Outgoing Token)) → map (map_outgoing (λ (x : Token). x)) qs ≡ qs
outputs_self [] = refl
outputs_self (q ∷ qs) =
    ap (λ (xs : List Token). record q { items = xs } ∷ map (map_outgoing (λ (x : Token). x)) qs) (map_self q.items)
    ∙ ap (λ rs. q ∷ rs) (outputs_self qs)

-- the same of a switch and of a terminal, one list after another
switch_self : (s : Switch Token) → map_switch (λ (x : Token). x) s ≡ s
switch_self s =
    ap (λ (ps : List (Input Token)). record (map_switch (λ (x : Token). x) s) { inputs = ps }) (inputs_self s.inputs)
    ∙ ap (λ (qs : List (Outgoing Token)). record s { outputs = qs }) (outputs_self s.outputs)

terminal_self : (t : Terminal Token) → map_terminal (λ (x : Token). x) t ≡ t
terminal_self t =
    let all : Terminal Token = map_terminal (λ (x : Token). x) t in
    let sent : Terminal Token = record t { arrived = map (λ (x : Token). x) t.arrived } in
    ap (λ (xs : List Token). record all { input = record t.input { items = xs } }) (map_self t.input.items)
    ∙ ap (λ (xs : List Token). record sent { output = record t.output { items = xs } }) (map_self t.output.items)
    ∙ ap (λ (xs : List Token). record t { arrived = xs }) (map_self t.arrived)

node_self : (n : Node Token) → n ≡ map_node (λ (x : Token). x) n
node_self (NodeOf.Switch s) = sym (ap NodeOf.Switch (switch_self s))
node_self (NodeOf.Terminal t) = sym (ap NodeOf.Terminal (terminal_self t))

-- how it is read
abbrev pub node_reading : Reading Token (NodeRecord × NodeRoom)
node_reading = reading plain_kind node_shown node_state node_start

pub node_keeps : KeepsRecord node_reading true
node_keeps = record {
  reads = record {
    tokens = record { random = λ j x. refl; sent = λ t n j x. refl };
    plain = λ n. node_self n.0.state;
    started = λ n. refl;
  };
  keeping = refl;
}

-- how it is read
abbrev pub counted_reading : Reading TaggedToken TracedRecord
counted_reading = reading tagged_kind counted_shown (λ n. plain_node n.state) traced_start

-- a tagged token is the plain one that it was made of
pub plain_by : (e : Bool) (x : Token) (t n : ℕ) → (tagged_by e x t n).token ≡ x
plain_by true x t n = refl
plain_by false x t n = refl

pub counted_keeps : KeepsRecord counted_reading true
counted_keeps = record {
  reads = record {
    tokens = record { random = λ j x. refl; sent = λ t n j x. plain_by (is_end x) x t n };
    plain = λ n. refl;
    started = λ n. refl;
  };
  keeping = refl;
}
