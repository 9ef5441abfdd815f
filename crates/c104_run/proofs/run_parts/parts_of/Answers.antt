use Rattle.c104_node.specs.{Nodes.terminals_of, Records.{IsRecorded, NodeRecord, NodeRoom, node_start, node_state, node_trace}}
use Rattle.c104_node.specs.{Terminals.Terminal, declared.{acts.Entry.Entry, starts.NodeStart.NodeStart}}
use Rattle.{c104_run.proofs.{Finishing.terminals_popped, RunPartLists.{left_maybe, left_on}}, c104_token.specs.declared.tokens.Token.Token}
use Rattle.std.proofs.{Common.{List, [], ap, arith, length, length-append, map, ◌++◌, ◌∙◌, ◌∷◌, ◌≡◌}, lemmas.List.Elements.All-push}
use Rattle.std.{proofs.lemmas.List.{Elements.All-same, map-append}, specs.Option.option_to_list}
use Rattle.c104_run.proofs.run_parts.parts_of.Goals as goal

pub push_terminal-requires : goal.push_terminal-requires
push_terminal-requires c =
    let rest : List (NodeRecord × NodeRoom) = c.pop.new.self.items in
    let states : map node_state c.loop-node.list.items ≡ map node_state rest ++ c.in-Some.node.0.state ∷ [] = ap (map node_state) c.in-Some.ensures.items ∙ map-append node_state rest (c.in-Some.node ∷ []) in
    let last = terminals_popped (map node_state c.loop-node.list.items) (map node_state rest) c.in-Some.node.0.state (option_to_list c.finish-terminal.result.0) states c.finish-terminal.ensures.terminal in
    let counted = ap (length {A = Terminal Token}) last ∙ length-append (terminals_of (map node_state rest)) (option_to_list c.finish-terminal.result.0) in
    omega (arith, counted, c.loop-node.invariant.terminal_room)

pub loop-node-preserved : goal.loop-node-preserved
loop-node-preserved c =
    let list : List (NodeRecord × NodeRoom) = c.loop-node.list.items in
    let rest : List (NodeRecord × NodeRoom) = c.pop.new.self.items in
    let is : list ≡ rest ++ c.in-Some.node ∷ [] = c.in-Some.ensures.items in
    let states : map node_state list ≡ map node_state rest ++ c.in-Some.node.0.state ∷ [] = ap (map node_state) is ∙ map-append node_state rest (c.in-Some.node ∷ []) in
    let last = terminals_popped (map node_state list) (map node_state rest) c.in-Some.node.0.state (option_to_list c.finish-terminal.result.0) states c.finish-terminal.ensures.terminal in
    let counted = ap (length {A = Terminal Token}) last ∙ length-append (terminals_of (map node_state rest)) (option_to_list c.finish-terminal.result.0) in
    let more = ap (length {A = Terminal Token}) c.push_terminal.ensures.items ∙ length-append c.loop-node.terminals.items (option_to_list c.finish-terminal.result.0) in
    let start : c.push_reserved.new.self.items ≡ c.loop-node.starts.items ++ node_start c.in-Some.node ∷ [] = c.push_reserved.ensures.items ∙ ap (λ (s : NodeStart). c.loop-node.starts.items ++ s ∷ []) c.finish-terminal.ensures.start in
    let trace : c.push_reserved-in-Some.new.self.items ≡ c.loop-node.traces.items ++ node_trace c.in-Some.node ∷ [] = c.push_reserved-in-Some.ensures.items ∙ ap (λ (t : List Entry). c.loop-node.traces.items ++ t ∷ []) c.finish-terminal.ensures.trace in
    let fewer = ap (length {A = NodeRecord × NodeRoom}) is ∙ length-append rest (c.in-Some.node ∷ []) in
    let starts = ap (length {A = NodeStart}) start ∙ length-append c.loop-node.starts.items (node_start c.in-Some.node ∷ []) in
    let traces = ap (length {A = List Entry}) trace ∙ length-append c.loop-node.traces.items (node_trace c.in-Some.node ∷ []) in
    record {
      starts = left_on node_start (map node_start c.args.list.items) list rest c.in-Some.node c.loop-node.starts.items c.push_reserved.new.self.items is start c.loop-node.invariant.starts;
      traces = left_on node_trace (map node_trace c.args.list.items) list rest c.in-Some.node c.loop-node.traces.items c.push_reserved-in-Some.new.self.items is trace c.loop-node.invariant.traces;
      terminals = left_maybe (terminals_of (map node_state c.args.list.items)) (terminals_of (map node_state rest)) (terminals_of (map node_state list)) c.loop-node.terminals.items c.push_terminal.new.list.items c.finish-terminal.result.0 last c.push_terminal.ensures.items c.loop-node.invariant.terminals;
      recorded = λ left. c.loop-node.invariant.recorded (All-same (λ (n : NodeRecord × NodeRoom). IsRecorded n.0) list (rest ++ c.in-Some.node ∷ []) is (All-push (λ (n : NodeRecord × NodeRoom). IsRecorded n.0) rest c.in-Some.node left c.finish-terminal.ensures.recorded));
      start_room = omega (arith, fewer, starts, c.push_reserved.ensures.capacity, c.loop-node.invariant.start_room);
      trace_room = omega (arith, fewer, traces, c.push_reserved-in-Some.ensures.capacity, c.loop-node.invariant.trace_room);
      terminal_room = omega (arith, counted, more, c.push_terminal.ensures.room, c.loop-node.invariant.terminal_room);
    }
