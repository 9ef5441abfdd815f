-- A record is made without code, and the proof says what it holds. Assumes `Logic`.
use Rattle.{c104_host.{proofs.Walks.{none, none_made}, specs.contracts.record.Record.told.Key.name as #self}, std.proofs.Common.{List, []}}
use Rattle.std.proofs.Common.{refl, ◌++◌, ◌∷◌}
use base.Logic.{SProp, ent}
use contract.{Monad.Fun, Running.{tables, tables_of}}
use denote.{Builtin.RefOf, Exit.yes, RattleType.owns, Signature.{plain, types_at}, Steps.nothing, Triple.Clauses.{Clauses, Ended, closing}}
use denote.Triple.{Entry.alive, Spec.{Meets, triple_of}, Table.entered, Walked.{Goes-dropped, Stays, ends_at, says, stay_dropped}}
use denote.Triple.Walked.{walk_Meets, walk_of}
use mir.{Syntax.Fn, Val.{Val, vptr}}
use prog.{Memory.Memory, Routine.Routine, Wp.{Calls, Loops, Tables, WpFn}}
use seplogic.Ra.Ura.{Ura}
use sound.WpLaws.{WpFn-mono}
use types.{ByLocal.{alloc_all, free_all, look_at, pass_all, sets}, Kit.{ !, done, drop, feq_l, fjoin, fsplit, keep, move, prop, qed, raw}}
use types.{Kit.{regoal, split, suffices, ‵, ◌$◌, ◌∵◌, ◌⊛◌}, Logic.Logic, Part.agg, Run.{enter, no_more, returns}}
use Rattle.c104_host.proofs.record.Record.told.Code as code
use Rattle.c104_host.proofs.record.Record.told.Statement as stated
use Rattle.c104_host.specs.contracts.record.Record as Record
use Rattle.c104_host.specs.contracts.record.Record.told as F

abbrev function : Fn
function = code.function

abbrev ended : Ended
ended = F.ended

abbrev stayed : Stays ended.signature.params ended.kept
stayed = (stay_dropped _ yes, tt)

module _ {M : Type 1} {𝓤 : Ura M} (𝓛 : Logic 𝓤) (at_mem : Memory → SProp 𝓤) (run : Routine → Fun 𝓤) where
  open 𝓛 use {H}

  abbrev held : Clauses 𝓤 ended
  held = F.clauses 𝓛 at_mem run

  module _ (C : Calls 𝓤 H) (Λ : Loops 𝓤 H) (z : (walk_of 𝓛 ended stayed held).Ghost) where
    abbrev Post : Val → SProp 𝓤
    Post = (walk_of 𝓛 ended stayed held).post z

    abbrev toks : SProp 𝓤
    toks = alive 𝓛 ended.signature z.0.0 z.0.1

    walks : ent 𝓤 ((walk_of 𝓛 ended stayed held).pre z) (WpFn 𝓤 H C Λ function ((walk_of 𝓛 ended stayed held).args z) Post)
    walks =
        let a = z.0.3 in
        let vss = z.0.4 in
        let u : Val = vptr a.0.ref_ptr.0 a.0.ref_ptr.1 in
        let made : (Record.the_row).Denot = record { bytes = a.0.now.bytes ++ z.1 } in
        qed 𝓛 ((raw toks ⊛ ‵ (owns (types_at ended.signature.params z.0.0) a vss)) ∷ raw ((held z.0.0 a).requires z.1) ∷ []) ∵
        keep ! (0 ∷ []) $ split ! $ move ! (1 ∷ []) $ fsplit ! $ fsplit ! $ feq_l ! (λ is₀. drop ! $ drop ! $
        regoal ! (λ (us : List Val). prop (WpFn 𝓤 H C Λ function (us ++ []) Post)) is₀ refl $
        enter ! C Λ function (u ∷ []) Post $ alloc_all ! (λ l. pass_all ! refl ((tt, tt), tt) $
        sets ! (agg ! (no_more !)) refl (tt, tt) $
        nothing ! $ none_made ! $ fjoin ! $
        returns ! (look_at ! 0 refl) $ free_all ! refl $
        suffices ! _ (ends_at 𝓛 ended stayed held z none made (tt, tt) (tt, tt)) $ says ! refl $
        nothing ! $ nothing ! $ fjoin ! $ move ! (2 ∷ 0 ∷ 1 ∷ []) $ done !))

  meets : (𝓣 : Tables 𝓤 H) → Meets 𝓛 ended.signature (WpFn 𝓤 H 𝓣.C 𝓣.Λ function) (closing 𝓛 ended held)
  meets 𝓣 =
      walk_Meets 𝓛 ended stayed (Goes-dropped 𝓛 1 (RefOf (0 ∷ []) tt (plain (λ _. Record.the_row)) (λ _. tt)) yes (λ κs x f. refl), tt) held
      (WpFn 𝓤 H 𝓣.C 𝓣.Λ function) (WpFn-mono 𝓤 H 𝓛.laws 𝓣 function) (walks 𝓣.C 𝓣.Λ)

pub told_spec : {M : Type 1} → stated.statement M
unfolding tables_of
told_spec 𝓤 𝓛 𝓜 𝓡 wired =
    let 𝓣 : Tables 𝓤 𝓛.H = tables_of 𝓤 𝓛.H 𝓜 (tables 𝓤 𝓛.H 𝓜 𝓡 𝓡.env) in
    entered 𝓤 𝓛.H (triple_of 𝓛 ended.signature (closing 𝓛 ended (held 𝓛 𝓜.mem 𝓡.returns))) 𝓣.C 𝓣.Λ #self function
    (code.unfolded 𝓤 𝓛.H 𝓜 𝓡 wired) (meets 𝓛 𝓜.mem 𝓡.returns 𝓣)
