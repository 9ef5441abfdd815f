use Rattle.{c104_node.proofs.ArrivedLists.{byte_keeps, byte_more}, std.proofs.Common.{List, [], ap, sym, ◌++◌, ◌∙◌, ◌∷◌}}
use Rattle.c104_node.proofs.terminal.arrived.ArrivedOf.push.Goals as goal

pub invariant_of-self-in-Some : goal.invariant_of-self-in-Some
invariant_of-self-in-Some g c =
    byte_keeps g.T.TokenKind.kind c.self.inside.bytes.items c.push.new.self.items c.self.inside.others.items c.in-Some.byte c.args.token c.self.invariant c.in_ok-push-in-Some.ensures.items c.in-Some.ensures.told (sym c.in-Some.ensures.byte)

pub returns-in_ok-push-in-Some-clause-done : goal.returns-in_ok-push-in-Some-clause-done
returns-in_ok-push-in-Some-clause-done g c =
    byte_more g.T.TokenKind.kind c.self.inside.bytes.items c.push.new.self.items c.self.inside.others.items c.in-Some.byte c.args.token c.self.invariant c.in_ok-push-in-Some.ensures.items c.in-Some.ensures.told
    ∙ ap (λ (list : List g.row.T.Denot). list ++ c.args.token ∷ []) c.self.view_is
