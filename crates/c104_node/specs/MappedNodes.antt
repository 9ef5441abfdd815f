-- A node over other tokens: each token is mapped, and all else stays.
use Rattle.{c104_link.specs.Buffers.{Incoming, Outgoing}, c104_node.specs.{Nodes.Node, Terminals.Terminal, declared.node.NodeOf.NodeOf}}
use Rattle.c104_switch.specs.{Phases.with_header, Switch.{Input, Switch}}
use Rattle.std.specs.Prelude.{map}

-- the same over other tokens: each token is mapped, and all else stays
module _ {A B : Type 0} (f : A → B) where
  abbrev pub map_incoming : Incoming A → Incoming B
  map_incoming b = record { cap = b.cap; items = map f b.items; granted = b.granted }

  abbrev pub map_outgoing : Outgoing A → Outgoing B
  map_outgoing q = record { items = map f q.items; credit = q.credit }

  abbrev pub map_input : Input A → Input B
  map_input p = record {
    buffer = map_incoming p.buffer;
    phase = with_header (map f) p.phase;
    sunk = p.sunk;
    short = p.short;
  }

  abbrev pub map_switch : Switch A → Switch B
  map_switch s = record {
    started = s.started;
    settings = s.settings;
    inputs = map map_input s.inputs;
    outputs = map map_outgoing s.outputs;
  }

  abbrev pub map_terminal : Terminal A → Terminal B
  map_terminal t = record {
    input = map_incoming t.input;
    output = map_outgoing t.output;
    sent = t.sent;
    arrived = map f t.arrived;
  }

  abbrev pub map_node : Node A → Node B
  map_node (NodeOf.Switch s) = NodeOf.Switch (map_switch s)
  map_node (NodeOf.Terminal t) = NodeOf.Terminal (map_terminal t)
