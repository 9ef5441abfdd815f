-- A step that the proofs written by hand of `src/record.rt` share: a struct without fields is made. Assumes `Logic`.
use Rattle.std.proofs.Common.{List, [], refl, ◌∷◌}
use denote.{RattleType.{RattleType, Valss}, Steps.nothing, Struct.Struct.{Struct, within}}
use mir.Val.{Val, vnil, vstruct}
use seplogic.Ra.Ura.{Ura}
use types.{Kit.{Goal, Item, Step, feq_i, fjoin, fpack, step, ‵, ◌$◌}, Logic.Logic}

abbrev pub none : Val
none = vstruct vnil

abbrev pub fieldless : RattleType
fieldless = Struct (record { name = []; args = []; types = []; fields = [] })

pub none_made : {M : Type 1} {𝓤 : Ura M} {𝓛 : Logic 𝓤} {K : Type 0} {Γ : List (Item 𝓤)} {G : Goal 𝓤 𝓛.H} → K → Step K 𝓛 (‵ (fieldless.own_val tt (none ∷ [])) ∷ Γ) G Γ G
none_made t = step (λ s.
    nothing t $ feq_i t (List Val) (none ∷ []) (none ∷ []) refl $ fjoin t $
    fpack t (Valss []) (within (record { name = []; args = []; types = []; fields = [] }) tt (none ∷ [])) tt $ s)
