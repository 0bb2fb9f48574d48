-- What is reported stands in the lines, each once.
use Rattle.std.proofs.Common.{◌≡◌, ◌∙◌, ◌++◌, ◌∷◌, [], Bool, true, false, List, map, refl, sym, ap, subst}
use Rattle.std.specs.Prelude.{if◌then◌else◌, IsPermutation}
use Rattle.std.proofs.lemmas.List.{append_assoc, append-nil, map-append}
use Rattle.std.proofs.lemmas.List.Sorted.{IsPermutation-append, IsPermutation-append_right, IsPermutation-cons}
use Rattle.std.proofs.lemmas.List.Sorted.{IsPermutation-refl, IsPermutation-to_front}
use Rattle.ack_read.specs.declared.told.GroupTold.{GroupTold}
use Rattle.ack_read.specs.declared.told.SetTold.{SetTold}
use Rattle.ack_read.specs.declared.told.Told.{Told}
use Rattle.ack_read.specs.declared.told.Told.TheVariants as told
use Rattle.ack_lines.specs.Reported.{group_reported, is_rejected, reported_behind, reported_of, set_reported, told_of}
use Rattle.ack_lines.specs.declared.reported.Reported.{Reported}
use Rattle.ack_lines.specs.declared.reported.Reported.TheVariants as reported

abbrev set_told : SetTold → Told
set_told s = told.OfSet s

sets_told : (falls : Bool) (sets : List SetTold) → map told_of (map (set_reported falls) sets) ≡ map set_told sets
sets_told falls [] = refl
sets_told falls (s ∷ sets) = ap (λ (l : List Told). told.OfSet s ∷ l) (sets_told falls sets)

abbrev group_by : (falls : Bool) → GroupTold → List SetTold → List Reported
group_by falls g sets =
    if falls then reported.OfGroup g ∷ map (set_reported true) sets
    else map (set_reported false) sets ++ reported.OfGroup g ∷ []

group_once : (falls : Bool) (g : GroupTold) (sets : List SetTold)
    → IsPermutation (map set_told sets ++ told.OfGroup g ∷ []) (map told_of (group_by falls g sets))
group_once true g sets =
    subst (λ (l : List Told). IsPermutation (map set_told sets ++ told.OfGroup g ∷ []) (told.OfGroup g ∷ l))
    (sym (sets_told true sets)) (IsPermutation-to_front (map set_told sets) (told.OfGroup g))
group_once false g sets =
    subst (IsPermutation (map set_told sets ++ told.OfGroup g ∷ []))
    (sym (map-append told_of (map (set_reported false) sets) (reported.OfGroup g ∷ [])
    ∙ ap (λ (l : List Told). l ++ told.OfGroup g ∷ []) (sets_told false sets)))
    (IsPermutation-refl (map set_told sets ++ told.OfGroup g ∷ []))

once_behind : (sets : List SetTold) (found : List Told)
    → IsPermutation (map set_told sets ++ found) (map told_of (reported_behind sets found))
once_behind sets [] =
    subst (λ (l : List Told). IsPermutation l (map told_of (reported_behind sets []))) (sym (append-nil (map set_told sets)))
    (subst (IsPermutation (map set_told sets)) (sym (sets_told false sets)) (IsPermutation-refl (map set_told sets)))
once_behind sets (told.OfInterchange t ∷ more) =
    let rest = map told_of (reported_behind [] more) in
    subst (IsPermutation (map set_told sets ++ told.OfInterchange t ∷ more))
    (sym (map-append told_of (map (set_reported false) sets) (reported.OfInterchange t ∷ reported_behind [] more)
    ∙ ap (λ (l : List Told). l ++ told.OfInterchange t ∷ rest) (sets_told false sets)))
    (IsPermutation-append_right (map set_told sets) (told.OfInterchange t ∷ more) (told.OfInterchange t ∷ rest)
    (IsPermutation-cons (told.OfInterchange t) more rest (once_behind [] more)))
once_behind sets (told.OfSet s ∷ more) =
    subst (λ (l : List Told). IsPermutation l (map told_of (reported_behind (sets ++ s ∷ []) more)))
    (ap (λ (l : List Told). l ++ more) (map-append set_told sets (s ∷ [])) ∙ append_assoc (map set_told sets) (told.OfSet s ∷ []) more)
    (once_behind (sets ++ s ∷ []) more)
once_behind sets (told.OfGroup g ∷ more) =
    let one = map set_told sets ++ told.OfGroup g ∷ [] in
    subst (λ (l : List Told). IsPermutation l (map told_of (reported_behind sets (told.OfGroup g ∷ more))))
    (append_assoc (map set_told sets) (told.OfGroup g ∷ []) more)
    (subst (IsPermutation (one ++ more)) (sym (map-append told_of (group_reported g sets) (reported_behind [] more)))
    (IsPermutation-append one (map told_of (group_reported g sets)) more (map told_of (reported_behind [] more))
    (group_once (is_rejected g.code) g sets) (once_behind [] more)))

-- what stands in the lines is what is reported, each once
pub once : (found : List Told) → IsPermutation found (map told_of (reported_of found))
once found = once_behind [] found
