use Rattle.c104_switch.{proofs.StreamSteps.{gone_on, taken_first}, specs.{Stages.stage_phase, Switch.{Fresh, Input, Stream}, Turns.IsTurn}}
use Rattle.{c104_token.specs.Tokens.is_end, std.proofs.Common.{ap, if◌then◌else◌, refl, subst, true, ◌∙◌}}
use Rattle.c104_switch.proofs.input.InputOf.stream.Goals as goal

pub returns-then-not-is_end-clause-turned : goal.returns-then-not-is_end-clause-turned
returns-then-not-is_end-clause-turned g c = λ settings word.
    let p : Input g.row.T.Denot = record { buffer = c.self.inside.buffer; phase = stage_phase c.self.inside.stage c.self.inside.header; sunk = c.self.inside.sunk; short = c.self.inside.short } in
    let streams = ap (λ (p : Input g.row.T.Denot). p.phase) c.self.view_is ∙ c.requires in
    let made = c.put.ensures in
    let q : Input g.row.T.Denot = record { buffer = c.take.new.self; phase = stage_phase c.self.inside.stage c.self.inside.header; sunk = c.self.inside.sunk; short = c.self.inside.short } in
    subst (λ (x : Input g.row.T.Denot). IsTurn g.T.TokenKind.kind settings word x c.args.outputs.now true q c.put.new.self) c.self.view_is (gone_on g.T.TokenKind.kind settings word p c.args.outputs.now c.args.output streams c.in-Some.token c.put.new.self q (taken_first _ _ _ c.in-Some.ensures.taken) made c.take.ensures.rest
    (streams ∙ ap (λ ends. if ends then Fresh else Stream c.args.output) (c.if-not-is_end.ensures ∙ ap is_end c.plain.ensures)) refl refl)

pub returns-clause-turned : goal.returns-clause-turned
returns-clause-turned g c = λ settings word.
    let p : Input g.row.T.Denot = record { buffer = c.self.inside.buffer; phase = stage_phase c.self.inside.stage c.self.inside.header; sunk = c.self.inside.sunk; short = c.self.inside.short } in
    let streams = ap (λ (p : Input g.row.T.Denot). p.phase) c.self.view_is ∙ c.requires in
    let made = c.put.ensures in
    let q : Input g.row.T.Denot = record { buffer = c.take.new.self; phase = stage_phase c.replace.new.dest c.self.inside.header; sunk = c.self.inside.sunk; short = c.self.inside.short } in
    subst (λ (x : Input g.row.T.Denot). IsTurn g.T.TokenKind.kind settings word x c.args.outputs.now true q c.put.new.self) c.self.view_is (gone_on g.T.TokenKind.kind settings word p c.args.outputs.now c.args.output streams c.in-Some.token c.put.new.self q (taken_first _ _ _ c.in-Some.ensures.taken) made c.take.ensures.rest
    (ap (λ stage. stage_phase stage c.self.inside.header) c.replace.ensures.after ∙ ap (λ ends. if ends then Fresh else Stream c.args.output) (c.if-not-is_end.ensures ∙ ap is_end c.plain.ensures)) refl refl)
