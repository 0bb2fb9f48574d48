-- What an index with given faults is: the same interchanges, and just these faults.
use Rattle.std.proofs.Common.{◌≡◌, List, [], ◌∷◌, Option, Some, None, length, map, refl, ap, arith}
use Rattle.hub_kinds.specs.declared.interchange.InterchangeFault.{InterchangeFault}
use Rattle.hub_kinds.specs.declared.interchange.InterchangeFault.TheVariants.{Duplicate}
use Rattle.env_index.specs.Index.{IndexEntry}
use Rattle.env_index.specs.Interchange.{InterchangeEntry}
use Rattle.env_index.specs.Settled.{with_fault, with_faults}

abbrev fault_in : IndexEntry → Option InterchangeFault
fault_in e = e.fault

abbrev interchange_in : IndexEntry → InterchangeEntry
interchange_in e = e.interchange

interchanges_stay : (es : List IndexEntry) (fs : List (Option InterchangeFault))
    → map interchange_in (with_faults es fs) ≡ map interchange_in es
interchanges_stay [] fs = refl
interchanges_stay (e ∷ es) [] = refl
interchanges_stay (e ∷ es) (f ∷ fs) = ap (λ (l : List InterchangeEntry). e.interchange ∷ l) (interchanges_stay es fs)

faults_are_given : (es : List IndexEntry) (fs : List (Option InterchangeFault)) → length fs ≡ length es
    → map fault_in (with_faults es fs) ≡ fs
faults_are_given [] [] same = refl
faults_are_given [] (f ∷ fs) same = absurd (omega (arith, same))
faults_are_given (e ∷ es) [] same = absurd (omega (arith, same))
faults_are_given (e ∷ es) (f ∷ fs) same =
    ap (λ (l : List (Option InterchangeFault)). f ∷ l) (faults_are_given es fs (omega (arith, same)))

-- of two interchanges the second is given a fault, and the first loses its own
second_alone : (a b : InterchangeEntry)
    → with_faults (record { interchange = a; fault = Some Duplicate } ∷ record { interchange = b; fault = None } ∷ [])
    (None ∷ Some Duplicate ∷ [])
    ≡ record { interchange = a; fault = None } ∷ record { interchange = b; fault = Some Duplicate } ∷ []
second_alone a b = refl

not_the_first : (a b : IndexEntry) (rest : List IndexEntry)
    → with_faults (a ∷ b ∷ []) (None ∷ Some Duplicate ∷ []) ≡ with_fault a (Some Duplicate) ∷ rest → ⊥
not_the_first a b rest same =
    let given : with_fault a None ∷ with_fault b (Some Duplicate) ∷ [] ≡ with_fault a (Some Duplicate) ∷ rest = same in
    let first : with_fault a None ≡ with_fault a (Some Duplicate) = cc in
    let fault : (let none : Option InterchangeFault = None in none) ≡ Some Duplicate = ap fault_in first in
    cc
