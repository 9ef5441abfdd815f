use Rattle.{c104_event.specs.declared.events.Event.Event, c104_node.specs.declared.port_part.PortPart.PortPart}
use Rattle.{c104_plan.specs.declared.ports.Port.Port, c104_run.proofs.{ActAttempts.turn_possible, EngineParts.does_so}}
use Rattle.{c104_run.{proofs.{LiveRounds.turn_begins, PortWalks.wired_one}, specs.HandedWords.all_worded}, std.proofs.Common.{[], ap, refl}}
use Rattle.std.proofs.Common.{sym, ℕ, ◌∙◌, ◌∷◌}
use Rattle.c104_run.proofs.engine.Engine.attempt_turn.Goals as goal

pub returns-clause-does : goal.returns-clause-does
returns-clause-does g c =
    does_so (ap (λ (w : ℕ). Event.Input c.args.switch c.args.link w ∷ []) c.word-word.ensures ∙ ap (all_worded c.args.words) (sym (wired_one c.args.self.now.plan PortPart.Turn (Port.Switch c.args.switch c.args.link) c.requires.linked)))
    (c.attempt_alone.ensures.does (Event.Input c.args.switch c.args.link c.word-word.result) (turn_possible c.args.self.now.plan c.args.switch c.args.link c.word-word.result c.requires.wired) refl (λ reply. refl))

pub attempt_alone-requires-clause-begins : goal.attempt_alone-requires-clause-begins
attempt_alone-requires-clause-begins g c = turn_begins g.T.TokenKind.kind c.args.self.now.plan c.args.switch c.args.link c.word-word.result c.requires.wired

pub returns-clause-links : goal.returns-clause-links
returns-clause-links g c = c.attempt_alone.ensures.links c.args.link c.word-word.result refl
