-- Inputs each of which depends on the next, and such a chain cut where it meets an input again.
pub use Rattle.c104_check.specs.FirstCycles.{inputs_of}
use Rattle.c104_check.{proofs.TrailLemmas.is_port-true, specs.ChannelDependencies.{AreChained, ChannelDependency, DependsBy, IsCycle}}
use Rattle.{c104_check.specs.{Routes.{Routes, SwitchPort}, Walks.is_port}, std.proofs.Common.{Bool, List, Some, [], ap, arith, drop}}
use Rattle.std.proofs.Common.{length, position, refl, slice_index_or, subst, suc, sym, zero, ℕ, ◌++◌, ◌<◌, ◌∙◌, ◌∷◌, ◌≡◌}
use Rattle.std.proofs.lemmas.List.Quantifiers.{position-Some}

abbrev pub dependency_of : SwitchPort → ℕ → ChannelDependency
dependency_of at h = record { input = at; header = h }

-- each of these depends on the next, and the last on this input
abbrev pub IsChain : Routes → List ChannelDependency → SwitchPort → Type 0
IsChain routes [] at = Unit {0}
IsChain routes (a ∷ steps) at = AreChained routes a steps at

pub inputs-snoc : (steps : List ChannelDependency) (a : ChannelDependency) → inputs_of (steps ++ a ∷ []) ≡ inputs_of steps ++ a.input ∷ []
inputs-snoc [] a = refl
inputs-snoc (b ∷ steps) a = ap (λ xs. b.input ∷ xs) (inputs-snoc steps a)

pub length-inputs : (steps : List ChannelDependency) → length (inputs_of steps) ≡ length steps
length-inputs [] = refl
length-inputs (a ∷ steps) = ap suc (length-inputs steps)

chained_more : (routes : Routes) (h : ℕ) (at next : SwitchPort) → DependsBy routes h at next → (a : ChannelDependency) (steps : List ChannelDependency) → AreChained routes a steps at → AreChained routes a (steps ++ dependency_of at h ∷ []) next
chained_more routes h at next depends a [] is = (is, depends)
chained_more routes h at next depends a (b ∷ steps) is = (is.0, chained_more routes h at next depends b steps is.1)

pub chain_more : (routes : Routes) (h : ℕ) (at next : SwitchPort) (steps : List ChannelDependency) → IsChain routes steps at → DependsBy routes h at next → IsChain routes (steps ++ dependency_of at h ∷ []) next
chain_more routes h at next steps is depends = search (arith, chained_more)

pub chain_rest : (routes : Routes) (a : ChannelDependency) (steps : List ChannelDependency) (at : SwitchPort) → AreChained routes a steps at → IsChain routes steps at
chain_rest routes a steps at is = search arith

-- the dependencies from an input on, where it is met again
pub chain_cut : (routes : Routes) (at : SwitchPort) (steps : List ChannelDependency) (k : ℕ) (d : ChannelDependency) → IsChain routes steps at → k < length steps → (slice_index_or steps k d).input ≡ at → IsCycle routes (drop k steps)
chain_cut routes at [] k d chain inside same = absurd (omega (arith, inside))
chain_cut routes at (a ∷ steps) zero d chain inside same = subst (AreChained routes a steps) (sym same) chain
chain_cut routes at (a ∷ steps) (suc k) d chain inside same = chain_cut routes at steps k d (chain_rest routes a steps at chain) (omega (arith, inside)) same

abbrev pub is_of_input : SwitchPort → ChannelDependency → Bool
is_of_input at dependency = is_port at dependency.input

pub is_cycle_cut : (routes : Routes) (at : SwitchPort) (steps seen all back cycle : List ChannelDependency) (k : ℕ) → IsChain routes steps at → seen ≡ steps → all ≡ steps → position (is_of_input at) seen ≡ Some k → back ≡ drop k all → cycle ≡ back → IsCycle routes cycle
is_cycle_cut routes at steps seen all back cycle k chain read again found cut copied =
    let first = position-Some (is_of_input at) steps k (dependency_of at 0) (ap (position (is_of_input at)) (sym read) ∙ found) in
    let met = sym (is_port-true at (slice_index_or steps k (dependency_of at 0)).input first.1) in
    subst (IsCycle routes) (sym (copied ∙ cut ∙ ap (drop k) again)) (chain_cut routes at steps k (dependency_of at 0) chain first.0 met)
